use Rattle.std.proofs.Common.{◌≤◌, append_assoc, arith}
use Rattle.page_engine_header.proofs.PrintingLemmas.{fewer_blanks}
use Rattle.page_engine_header.proofs.printing.give_blanks.Goals as goal

pub loop-left-preserved : goal.loop-left-preserved
loop-left-preserved g c = λ plan rest h.
    let l = c.loop-left in
    let run = c.min-run.result in
    let some : run ≤ l.left = omega (arith, c.min-run.ensures) in
    let given = rw (fewer_blanks c.args.font c.args.place run l.left some, append_assoc) at (l.invariant plan rest h) in
    (rw c.blank_text.ensures at c.give_run.ensures) plan _ given
