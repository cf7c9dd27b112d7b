use Rattle.std.proofs.Common.{◌≡◌, length}
use Rattle.page_core_base.specs.laws.Views.{CameUpTo}
use Rattle.page_roff_source.specs.laws.Views.{given_of}
use Rattle.page_engine_lines.specs.machine.Given.{given_items, body_after}
use Rattle.page_engine_lines.proofs.taking.give_taken.Given as goal

abbrev pub invariant-loop-taken : goal.invariant-loop-taken
invariant-loop-taken g l =
    CameUpTo g.L.PieceOut.left l.fn.out.latch (given_items l.fn.body (given_of l.fn.roff.edge))
    (given_items l.body (given_of l.roff.edge)) l.out.latch
    × (body_after l.body (given_of l.roff.edge) ≡ body_after l.fn.body (given_of l.fn.roff.edge))
    × (l.roff.edge ≡ record l.fn.roff.edge { to_come = l.roff.edge.to_come })

abbrev pub decreases-loop-taken : goal.decreases-loop-taken
decreases-loop-taken g l = length (given_of l.roff.edge)
