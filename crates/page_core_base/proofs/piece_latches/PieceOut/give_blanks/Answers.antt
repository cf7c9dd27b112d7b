use Rattle.page_core_base.proofs.LatchLemmas.{one_less}
use Rattle.page_core_base.proofs.piece_latches.PieceOut.give_blanks.Goals as goal

pub loop-i-preserved : goal.loop-i-preserved
loop-i-preserved g c = λ plan rest h.
    let given = rw (one_less c.args.times c.loop-i._i c.loop-i-test.true) at (c.loop-i.invariant plan rest h) in
    c.give.ensures plan _ (rw c.blank_text-text.ensures given)
