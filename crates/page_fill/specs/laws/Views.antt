-- What contracts of the code say by the definitions, and what is proved of these.
use Rattle.std.specs.List.{list_all, prefix_len}
use Rattle.std.specs.Prelude.{ℕ, List, ◌≤◌, length, Bool, not, ◌&&◌, ◌≡◌, true, ◌==◌, ◌+◌, nat_le, nat_lt, ◌||◌, Option, Some, None, Result, Err, OnErr}
use Rattle.page_core_base.specs.Limits.{CELLS}
use Rattle.page_core_base.specs.laws.Views.{FailsBySink, font_cells, is_kept, word_letters, is_printable_ascii, cells_in, is_lettered_word, joined_cells}
use Rattle.page_core_base.specs.declared.cells.Cell.{Cell}
use Rattle.page_core_base.specs.declared.cells.Font.{Font}
use Rattle.page_core_base.specs.declared.faults.Fault.{Fault}
use Rattle.page_core_base.specs.declared.faults.Fault.TheVariants.{Failed}
use Rattle.page_core_base.specs.declared.page_settings.Output.{Output}
use Rattle.page_core_base.specs.declared.pieces.Piece.{Piece}
use Rattle.page_fill_cells.specs.Cells.{columns}
use Rattle.page_fill_rows.specs.OpenRows.{TAG_COLUMNS, BLANK_ROWS}
use Rattle.page_fill.specs.declared.edges.FillEdge.{FillEdge}
use Rattle.page_fill.specs.declared.edges.OpenWord.{OpenWord}

-- what a call did to two sinks that it gave to: its fault is that of one that failed, and both lend what they lent
pub record UsesSinks {R N K L : Type 0} (res : Result (Unit {0}) Fault) (rows_failed : R → ℕ) (rows_loans : R → K) (notes_failed : N → ℕ)
    (notes_loans : N → L) (r r' : R) (n n' : N) : Type 0 where
  pub faults : FailsBySink res (rows_failed r) (rows_failed r') (notes_failed n) (notes_failed n')
  pub rows_same : rows_loans r' ≡ rows_loans r
  pub notes_same : notes_loans n' ≡ notes_loans n

-- the same of a filler's call, which does nothing where the filler is of no use; after a fault it is of none
pub record UsesFiller {R N K L : Type 0} (res : Result (Unit {0}) Fault) (old new : Option FillEdge) (rows_failed : R → ℕ) (rows_loans : R → K)
    (notes_failed : N → ℕ) (notes_loans : N → L) (r r' : R) (n n' : N) : Type 0 where
  pub faults : (e : FillEdge) → old ≡ Some e → FailsBySink res (rows_failed r) (rows_failed r') (notes_failed n) (notes_failed n')
  pub closed : old ≡ None → (res ≡ Err Failed) × (r' ≡ r) × (n' ≡ n)
  pub stops : OnErr res (new ≡ None)
  pub rows_same : rows_loans r' ≡ rows_loans r
  pub notes_same : notes_loans n' ≡ notes_loans n

-- the edge, on a page of this width, of an output
abbrev pub under : ℕ → Output → FillEdge → FillEdge
under width output e = record e { sheet = record e.sheet { width = width }; output = output }

-- how many blank rows are at the end of the rows that were given
abbrev pub blank_rows_at_end : FillEdge → ℕ
blank_rows_at_end e = e.sheet.blank_rows

-- the open row's cells
abbrev pub open_cells : FillEdge → List Cell
open_cells e = e.sheet.cells

-- the cells of the open row, the columns of the open tag, and the blank rows at the end, as far as both are counted
pub record FillFits (e : FillEdge) : Type 0 where
  pub open_row : length e.sheet.cells ≤ CELLS
  pub tag : e.sheet.tag_columns ≤ TAG_COLUMNS
  pub blank_rows : e.sheet.blank_rows ≤ BLANK_ROWS

-- a word that goes on with the row's last one is not placed: no edge that a page comes to has another
abbrev pub is_sound : OpenWord → Bool
is_sound w = not (w.is_joined && w.is_placed)

-- these characters in a font are the cells of these pieces, of which each blank is one, too
abbrev pub AreKept : List ℕ → Font → List (Piece (List ℕ)) → Type 0
AreKept text font pieces = (list_all is_kept pieces ≡ true) × (font_cells font text ≡ word_letters pieces)

-- the row is kept as it is, and a character would go on with its last word
abbrev pub goes_on : FillEdge → Bool
goes_on e = e.word.is_joined && (e.sheet.literal && not (length e.sheet.cells == 0))

-- such a row has no more cells than a row may have with these characters
abbrev pub has_kept_room : FillEdge → List ℕ → Bool
has_kept_room e text = goes_on e && (not (length text == 0) && nat_le (length e.sheet.cells + length text) CELLS)

-- and these are of a column each
abbrev pub can_keep : FillEdge → List ℕ → Bool
can_keep e text = has_kept_room e text && is_printable_ascii text

-- these characters, each in its font, are words of letters with a blank between two
abbrev pub AreWords : List ℕ → List Font → List (List (Piece (List ℕ))) → Type 0
AreWords text fonts words = (list_all is_lettered_word words ≡ true) × (cells_in text fonts ≡ joined_cells words)

-- the open row is filled and has a cell, and no place is set for the next word
abbrev pub is_in_row : FillEdge → Bool
is_in_row e = not e.word.is_placed && (not e.sheet.literal && not (length e.sheet.cells == 0))

-- how many letters the first word of a text has
abbrev pub first_letters : List ℕ → ℕ
first_letters text = prefix_len (λ b. not (b == 32)) text

-- blanks, and the first word after them, do not pass the width
abbrev pub fits_after : FillEdge → ℕ → List ℕ → Bool
fits_after e blanks text = nat_lt 0 blanks && nat_le (e.sheet.margin + columns e.sheet.cells + blanks + first_letters text) e.sheet.width

-- such a row has no more cells than a row may have with blanks and these characters of a column each, be they in it or in the next rows; and
-- where there is not one blank before the first word, that word is in it
abbrev pub can_take : FillEdge → ℕ → List ℕ → Bool
can_take e blanks text =
    is_in_row e && (nat_le (length e.sheet.cells + blanks + length text) CELLS && (blanks == 1 || fits_after e blanks text))
