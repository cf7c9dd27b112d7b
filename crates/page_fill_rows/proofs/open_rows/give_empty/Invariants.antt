use Rattle.std.proofs.Common.{◌-◌, List, [], ◌++◌, replicate}
use Rattle.page_core_base.specs.Messages.{Message}
use Rattle.page_core_base.specs.Rows.{LaidRow, row_of}
use Rattle.page_fill_rows.proofs.open_rows.give_empty.Given as goal

abbrev pub invariant-loop : goal.invariant-loop
invariant-loop g l =
    (plan : g.O.RowOut.Plan) (more : List LaidRow) (said : List Message) → g.O.RowOut.left plan l.fn.out (replicate l.count (row_of 0 []) ++ more) said
    → g.O.RowOut.left plan l.out (replicate (l.count - l.counter) (row_of 0 []) ++ more) said
