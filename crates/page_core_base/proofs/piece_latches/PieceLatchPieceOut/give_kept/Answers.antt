use Rattle.std.proofs.Common.{Ok, Err, refl, sym, ◌∙◌}
use Rattle.page_core_base.proofs.LatchLemmas.{left_given, left_taken}
use Rattle.page_core_base.proofs.piece_latches.PieceLatchPieceOut.give_kept.Goals as goal

pub returns-in-Ok : goal.returns-in-Ok
returns-in-Ok g c = λ pieces are cells plan rest h.
    let none = sym c.is_some.ensures ∙ c.if-is_some.false in
    let took = rw c.in-Ok.is at c.take_kept.ensures.takes in
    left_taken g.met.O.PieceSink.items _ (Ok tt) _ rest none refl h (took pieces are cells) c.take_kept.ensures.same

-- all characters count as taken
pub returns-in-Err : goal.returns-in-Err
returns-in-Err g c = λ pieces are cells plan rest h.
    let none = sym c.is_some.ensures ∙ c.if-is_some.false in
    let broke = rw c.in-Err.is at c.take_kept.ensures.takes in
    left_given g.met.O.PieceSink.items _ (Err c.in-Err.fault) _ rest none h (broke pieces are cells) c.take_kept.ensures.same
