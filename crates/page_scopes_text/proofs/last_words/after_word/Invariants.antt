use Rattle.std.proofs.Common.{◌≡◌, ◌≤◌, ◌+◌, length}
use Rattle.page_core_base.specs.declared.limits.TheConstants.{LINE}
use Rattle.page_core_escapes.specs.Tokens.{tokens_len}
use Rattle.page_scopes_text.specs.Texts.{words_of}
use Rattle.page_scopes_text.proofs.last_words.after_word.Given as goal

abbrev pub invariant-loop-rest : goal.invariant-loop-rest
invariant-loop-rest l = record {
  len : length l.rest + tokens_len (words_of l.quoted l.text).word ≡ length l.text + tokens_len (words_of l.quoted l.rest).word;
  others : (words_of l.quoted l.rest).others ≡ (words_of l.quoted l.text).others;
  short : length l.rest ≤ LINE;
}

abbrev pub decreases-loop-rest : goal.decreases-loop-rest
decreases-loop-rest l = length l.rest
