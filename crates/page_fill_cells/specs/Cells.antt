-- Cells, and the characters of ASCII that are one each. Source: mandoc(1), "ASCII Output".
use Rattle.std.specs.Prelude.{ℕ, List, sum_by, map}
use Rattle.page_core_base.specs.declared.cells.Cell.{Cell}
use Rattle.page_core_base.specs.declared.cells.Font.{Font}
use Rattle.page_core_base.specs.declared.cells.Font.TheVariants.{R}
use Rattle.page_core_tables.specs.Glyphs.{char_columns}

-- the columns of a cell, and of cells
abbrev pub cell_columns : Cell → ℕ
cell_columns cell = char_columns cell.c

abbrev pub columns : List Cell → ℕ
columns cells = sum_by cell_columns cells

-- the cell of a blank
abbrev pub blank : Cell
blank = record { c = 32; font = R }

-- characters in a font
abbrev pub cell_of : Font → ℕ → Cell
cell_of font c = record { c = c; font = font }

abbrev pub cells_of : Font → List ℕ → List Cell
cells_of font cs = map (cell_of font) cs
