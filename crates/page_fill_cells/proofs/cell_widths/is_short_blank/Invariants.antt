use Rattle.std.proofs.Common.{◌≡◌, drop}
use Rattle.page_core_base.specs.Rows.{is_blank_row, row_of}
use Rattle.page_fill_cells.proofs.cell_widths.is_short_blank.Given as goal

abbrev pub invariant-loop-cell : goal.invariant-loop-cell
invariant-loop-cell l = is_blank_row (row_of 0 l.cells) ≡ is_blank_row (row_of 0 (drop l.cell-index l.cells))
