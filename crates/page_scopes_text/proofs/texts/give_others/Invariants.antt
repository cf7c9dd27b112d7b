use Rattle.std.proofs.Common.{◌≡◌, ◌≤◌, ◌+◌, false, length}
use Rattle.page_core_base.specs.laws.Views.{CameUpTo}
use Rattle.page_core_escapes.specs.laws.Views.{begins_word}
use Rattle.page_scopes_text.specs.Texts.{words_of, others_items, others_after}
use Rattle.page_scopes_text.proofs.texts.give_others.Given as goal

abbrev pub invariant-loop-rest : goal.invariant-loop-rest
invariant-loop-rest g l = record {
  came : CameUpTo g.O.PieceOut.left l.fn.out (others_items l.style l.line l.front l.fn.pen (words_of l.style.is_quoted l.text).others)
      (others_items l.style l.line l.front l.pen (words_of l.style.is_quoted l.rest).others) l.out;
  pen : others_after l.style l.fn.pen (words_of l.style.is_quoted l.text).others
      ≡ others_after l.style l.pen (words_of l.style.is_quoted l.rest).others;
  ends : begins_word l.rest ≡ false;
  column : l.pen.column + length l.rest ≡ l.fn.pen.column + length l.text;
  less : length l.rest ≤ length l.text;
}

abbrev pub decreases-loop-rest : goal.decreases-loop-rest
decreases-loop-rest g l = length l.rest
