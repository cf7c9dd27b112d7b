-- The steps of filling: the open row, cell by cell, and what is at the end of the rows that were given. Trust needs no reading of
-- them: page_fill says in words what they lay. Source: roff(7), "Filling and adjusting"; mandoc(1), "ASCII Output".
use Rattle.std.specs.Prelude.{ℕ, zero, suc, ◌+◌, Bool, true, false, not, ◌&&◌, ◌==◌, nat_lt, min, List, [], ◌∷◌, ◌++◌, length, take, drop, replicate, if◌then◌else◌}
use Rattle.page_core_base.specs.declared.cells.Cell.{Cell}
use Rattle.page_core_base.specs.declared.places.Place.{Place}
use Rattle.page_core_base.specs.Rows.{row_of, is_blank_row, Laid, nothing, seq}
use Rattle.page_core_base.specs.Limits.{CELLS, name_of}
use Rattle.page_core_base.specs.Messages.{Message, message_about}
use Rattle.page_core_base.specs.declared.limits.Limit.TheVariants.{Cells}
use Rattle.page_core_base.specs.declared.note_kinds.NoteKind.TheVariants.{Limit}
use Rattle.page_fill_rows.specs.OpenRows.{TAG_COLUMNS}
pub use Rattle.page_fill_cells.specs.Cells.{cell_columns, columns, blank}
pub use Rattle.page_fill_rows.specs.OpenRows.{Sheet, over, more_blank_rows, fresh}

-- ---- rows

-- the report that a row has too many cells
abbrev pub cells_note : Place → Message
cells_note place = message_about Limit place (name_of Cells)

-- a row of these cells was given
abbrev pub given : Sheet → List Cell → Sheet
given s cells = record s { blank_rows = (if is_blank_row (row_of s.margin cells) then more_blank_rows s.blank_rows 1 else 0); heading = false }

abbrev pub gives : Sheet → List Cell → Laid Sheet
gives s cells = record { rows = row_of s.margin cells ∷ []; notes = []; edge = given s cells }

-- the same with a report that the row has too many cells
abbrev pub gives_full : Sheet → List Cell → Place → Laid Sheet
gives_full s cells place = record { rows = row_of s.margin cells ∷ []; notes = cells_note place ∷ []; edge = given s cells }

-- a row of these cells begins
abbrev pub begins : Sheet → List Cell → Sheet
begins s cells = record s { margin = s.first; first = s.rest; cells = cells; gap = 0; word = 0 }

-- no row is open
abbrev pub emptied : Sheet → Sheet
emptied s = record s { cells = []; gap = 0; word = 0 }

-- the cell counts as one of the open tag's
abbrev pub counted : Sheet → Cell → Sheet
counted s cell = record s { tag_columns = min (s.tag_columns + cell_columns cell) TAG_COLUMNS; tag_begun = true }

-- ---- a cell of a word, and a blank before a word

-- margin and columns pass the width at the cell, and its word isn't the row's first
abbrev pub passes : Sheet → Cell → Bool
passes s cell = not s.literal && nat_lt 0 s.gap && nat_lt s.width (s.margin + columns s.cells + cell_columns cell)

-- the row ends before its last word, which goes on in the next row with the cell
abbrev pub wraps : Sheet → Cell → Laid Sheet
wraps s cell = over (gives s (take s.gap s.cells)) (λ t. begins t (drop t.word t.cells ++ cell ∷ []))

-- the full row ends, and the cell begins the next one
abbrev pub splits : Sheet → Cell → Place → Laid Sheet
splits s cell place = over (gives_full s s.cells place) (λ t. begins t (cell ∷ []))

-- a cell of the row's last word: where it passes the width, the row ends before that word, which goes on in the next row
unfoldable pub letter : Sheet → Cell → Place → Laid Sheet
letter s cell place =
    let t = counted s cell in
    if passes t cell then wraps t cell
    else if length t.cells == CELLS then splits t cell place
    else if length t.cells == 0 then nothing (begins t (cell ∷ []))
    else nothing (record t { cells = t.cells ++ cell ∷ [] })

-- a blank before the row's next word, which is dropped with its like where the row ends or none is open
unfoldable pub space : Sheet → Place → Laid Sheet
space s place =
    if length s.cells == 0 then nothing s
    else if passes s blank then over (gives s (take s.gap s.cells)) emptied
    else if length s.cells == CELLS then over (gives_full s (take s.gap s.cells) place) emptied
    else let t = counted s blank in nothing (record t { cells = t.cells ++ blank ∷ []; word = length t.cells + 1 })

-- ---- words

-- a word begins after the row's cells
abbrev pub opens : Sheet → Sheet
opens s = record s { gap = length s.cells; word = length s.cells }

unfoldable pub spaces : Sheet → ℕ → Place → Laid Sheet
spaces s zero place = nothing s
spaces s (suc n) place = seq (space s place) (λ t. spaces t n place)

unfoldable pub letters : Sheet → List Cell → Place → Laid Sheet
letters s [] place = nothing s
letters s (cell ∷ cells) place = seq (letter s cell place) (λ t. letters t cells place)

-- a count of blanks that are cells of the word
abbrev pub fixed_blanks : Sheet → ℕ → Place → Laid Sheet
fixed_blanks s n place = letters s (replicate n blank) place

-- the blanks before a new word: they are cells of it where rows are kept as they are
abbrev pub new_word : Sheet → ℕ → Bool → Place → Laid Sheet
new_word s n stands place = if stands then fixed_blanks (opens s) n place else spaces (opens s) n place

-- ---- breaks

-- the open row ends, if there is one
unfoldable pub broken : Sheet → Laid Sheet
broken s = if length s.cells == 0 then nothing s else over (gives s s.cells) emptied

-- a count of rows without cells
unfoldable pub empty_rows : Sheet → ℕ → Laid Sheet
empty_rows s n = record {
  rows = replicate n (row_of 0 []);
  notes = [];
  edge = record s { blank_rows = more_blank_rows s.blank_rows n; heading = s.heading && n == 0 };
}
