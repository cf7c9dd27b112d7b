use Rattle.std.proofs.Common.{◌≡◌, ◌≤◌, ◌+◌, ◌-◌, false, length}
use Rattle.page_core_escapes.specs.laws.Views.{begins_word}
use Rattle.page_scopes_text.specs.Texts.{words_of, last_of, last_word}
use Rattle.page_scopes_text.proofs.last_words.last_word.Given as goal

abbrev pub invariant-loop-rest : goal.invariant-loop-rest
invariant-loop-rest l = record {
  found : last_word l.column l.last (words_of l.quoted l.text)
      ≡ last_of (l.column + (length l.text - length l.rest)) l.found (words_of l.quoted l.rest).others;
  ends : begins_word l.rest ≡ false;
  less : length l.rest ≤ length l.text;
}

abbrev pub decreases-loop-rest : goal.decreases-loop-rest
decreases-loop-rest l = length l.rest
