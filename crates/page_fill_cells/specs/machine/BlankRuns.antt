-- A machine: texts that are known to be blanks, and places of a row that are known to have blanks in one font.
use Rattle.std.specs.Prelude.{◌≡◌, ℕ, ◌<◌, ◌≤◌, ◌==◌, Bool, List, get_or, ◌+◌, ◌++◌, length, take, drop}
use Rattle.page_core_base.specs.declared.cells.Cell.{Cell}
use Rattle.page_core_base.specs.declared.cells.Font.{Font}
use Rattle.page_fill_cells.specs.Cells.{cell_of}

-- the byte of a blank
abbrev pub is_blank_byte : ℕ → Bool
is_blank_byte byte = byte == 32

-- each place from a start up to an end has a blank
pub record HasRun (places : List Cell) (start end : ℕ) (font : Font) : Type 0 where
  pub at : (k : ℕ) → start ≤ k → k < end → get_or places k (cell_of font 32) ≡ cell_of font 32

-- ---- A machine: the places of a row, of which some are put anew.

-- places with others at a start and after it
abbrev pub put_at : {A : Type 0} → List A → ℕ → List A → List A
put_at places start others = take start places ++ (others ++ drop (start + length others) places)
