use Rattle.std.proofs.Common.{◌≡◌, ◌++◌, replicate}
use Rattle.page_fill_cells.specs.Cells.{blank}
use Rattle.page_fill_cells.proofs.row_cells.RowCells.add_spaces.Given as goal

abbrev pub invariant-loop : goal.invariant-loop
invariant-loop l = l.self ≡ l.fn.self ++ replicate l.counter blank
