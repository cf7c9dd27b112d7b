use Rattle.std.proofs.Common.{◌≡◌, ◌*◌, ◌≤◌, take}
use Rattle.page_fill_cells.specs.Cells as cells
use Rattle.page_fill_cells.proofs.cell_widths.columns.Given as goal

abbrev pub invariant-loop-cell : goal.invariant-loop-cell
invariant-loop-cell l = (l.sum ≡ cells.columns (take l.cell-index l.cells)) × (l.sum ≤ 3 * l.cell-index)
