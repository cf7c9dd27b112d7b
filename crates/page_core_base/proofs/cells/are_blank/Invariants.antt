use Rattle.std.proofs.Common.{◌≡◌, ◌&&◌, drop}
use Rattle.std.specs.List.{list_all}
use Rattle.page_core_base.specs.Rows.{is_blank, is_blank_row, row_of}
use Rattle.page_core_base.proofs.cells.are_blank.Given as goal

abbrev pub invariant-loop-cell : goal.invariant-loop-cell
invariant-loop-cell l =
    (list_all is_blank l.cells ≡ (l.all && list_all is_blank (drop l.cell-index l.cells)))
    × (is_blank_row (row_of 0 l.cells) ≡ (l.all && is_blank_row (row_of 0 (drop l.cell-index l.cells))))
