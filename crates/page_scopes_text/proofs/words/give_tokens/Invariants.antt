use Rattle.std.proofs.Common.{◌≡◌, ◌≤◌, ◌+◌, length}
use Rattle.page_core_base.specs.laws.Views.{CameUpTo}
use Rattle.page_scopes_text.specs.Texts.{words_of, tokens_items}
use Rattle.page_scopes_words.specs.Words.{pen_through}
use Rattle.page_scopes_text.proofs.words.give_tokens.Given as goal

abbrev pub invariant-loop-place : goal.invariant-loop-place
invariant-loop-place g l = record {
  came : CameUpTo g.O.PieceOut.left l.fn.out (tokens_items l.quoted l.place l.fn.pen (words_of l.quoted l.text).word)
      (tokens_items l.quoted l.place l.pen (words_of l.quoted l.rest).word) l.out;
  pen : pen_through l.fn.pen (words_of l.quoted l.text).word ≡ pen_through l.pen (words_of l.quoted l.rest).word;
  others : (words_of l.quoted l.rest).others ≡ (words_of l.quoted l.text).others;
  column : l.pen.column + length l.rest ≡ l.fn.pen.column + length l.text;
  less : length l.rest ≤ length l.text;
}

abbrev pub decreases-loop-place : goal.decreases-loop-place
decreases-loop-place g l = length l.rest
