-- What contracts of the code say by the definitions, and what is proved of these.
use Rattle.std.specs.Prelude.{ℕ, List, [], ◌∷◌, ◌≤◌, length}
use Rattle.page_core_base.specs.Limits.{CELLS}
use Rattle.page_core_base.specs.Rows.{Laid, nothing, seq}
use Rattle.page_core_base.specs.declared.cells.Font.{Font}
use Rattle.page_core_base.specs.declared.page_settings.Output.{Output}
use Rattle.page_core_base.specs.declared.places.Place.{Place}
use Rattle.page_core_tables.specs.Glyphs.{Printing, char_printed, glyph_printed}
use Rattle.page_fill_cells.specs.Cells.{cells_of}
use Rattle.page_fill_rows.specs.OpenRows.{with_notes, unknown_notes, Sheet}
use Rattle.page_fill_rows.specs.machine.Sheets.{letters}

-- the row takes what is printed
abbrev pub put : Sheet → Printing → Font → Place → Laid Sheet
put s printing font place = with_notes (unknown_notes printing.unknown place) (letters s (cells_of font printing.characters) place)

unfoldable pub character : Output → Sheet → ℕ → Font → Place → Laid Sheet
character output s c font place = put s (char_printed output c) font place

unfoldable pub characters : Output → Sheet → List ℕ → Font → Place → Laid Sheet
characters output s [] font place = nothing s
characters output s (c ∷ cs) font place = seq (character output s c font place) (λ t. characters output t cs font place)

unfoldable pub glyph : Output → Sheet → List ℕ → Font → Place → Laid Sheet
glyph output s name font place = put s (glyph_printed output name) font place

-- the places of the open row's last word lie within the row, which has at most CELLS cells: so it is at each edge that a page comes to
pub record IsHeld (s : Sheet) : Type 0 where
  pub gap_within : s.gap ≤ s.word
  pub word_within : s.word ≤ length s.cells
  pub bounded : length s.cells ≤ CELLS
