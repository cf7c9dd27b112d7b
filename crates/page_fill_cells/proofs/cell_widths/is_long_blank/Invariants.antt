use Rattle.std.proofs.Common.{◌≡◌, length}
use Rattle.page_core_base.specs.Rows.{is_blank_row, row_of}
use Rattle.page_fill_cells.proofs.cell_widths.is_long_blank.Given as goal

abbrev pub invariant-loop-rest : goal.invariant-loop-rest
invariant-loop-rest l = is_blank_row (row_of 0 l.cells) ≡ is_blank_row (row_of 0 l.rest)

abbrev pub decreases-loop-rest : goal.decreases-loop-rest
decreases-loop-rest l = length l.rest
