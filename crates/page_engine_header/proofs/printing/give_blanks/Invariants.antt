use Rattle.std.proofs.Common.{replicate}
use Rattle.page_core_base.specs.laws.Views.{CameUpTo}
use Rattle.page_engine_header.specs.Header.{in_font}
use Rattle.page_engine_header.proofs.printing.give_blanks.Given as goal

abbrev pub invariant-loop-left : goal.invariant-loop-left
invariant-loop-left g l =
    CameUpTo g.O.PieceOut.left l.fn.out (in_font l.font l.place (replicate l.count 32)) (in_font l.font l.place (replicate l.left 32)) l.out

abbrev pub decreases-loop-left : goal.decreases-loop-left
decreases-loop-left g l = l.left
