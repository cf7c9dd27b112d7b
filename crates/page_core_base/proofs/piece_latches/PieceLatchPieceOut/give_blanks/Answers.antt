use Rattle.std.proofs.Common.{sym, ◌∙◌, rules}
use Rattle.page_core_base.proofs.LatchLemmas.{left_given, left_taken}
use Rattle.page_core_base.proofs.piece_latches.PieceLatchPieceOut.give_blanks.Goals as goal

pub returns-in-Err : goal.returns-in-Err
returns-in-Err g c = λ plan rest h.
    let none = sym c.is_some.ensures ∙ c.if-is_some.false in
    rw c.in-Err.is at (left_given g.met.O.PieceSink.items _ c.take_blanks.result _ rest none h c.take_blanks.ensures.gives c.take_blanks.ensures.same)

pub returns-in_default : goal.returns-in_default
returns-in_default g c = λ plan rest h.
    let none = sym c.is_some.ensures ∙ c.if-is_some.false in
    left_taken g.met.O.PieceSink.items _ c.take_blanks.result _ rest none (search rules) h c.take_blanks.ensures.gives c.take_blanks.ensures.same
