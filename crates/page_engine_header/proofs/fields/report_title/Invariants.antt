use Rattle.std.proofs.Common.{take}
use Rattle.std.specs.List.{flat_map}
use Rattle.page_core_base.specs.laws.Views.{CameUpTo}
use Rattle.page_engine_header.specs.Header.{argument_cut}
use Rattle.page_engine_header.proofs.fields.report_title.Given as goal

abbrev pub invariant-loop-left : goal.invariant-loop-left
invariant-loop-left g l =
    CameUpTo g.O.PieceOut.left l.fn.out (flat_map (argument_cut l.place) (take 5 l.fn.arguments))
    (flat_map (argument_cut l.place) (take l.left l.arguments)) l.out

abbrev pub decreases-loop-left : goal.decreases-loop-left
decreases-loop-left g l = l.left
