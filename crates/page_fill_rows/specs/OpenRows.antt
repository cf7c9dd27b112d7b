-- The open row: what a character and a glyph print into it, and what is known of the rows above it. Source: roff(7), "Filling and adjusting".
use Rattle.std.specs.Prelude.{List, ◌++◌, ℕ, [], Option, option_map, option_to_list, Bool, ◌+◌, min, false}
use Rattle.page_core_base.specs.Messages.{Message, message_about}
use Rattle.page_core_base.specs.Rows.{Laid}
use Rattle.page_core_base.specs.declared.cells.Cell.{Cell}
use Rattle.page_core_base.specs.declared.note_kinds.NoteKind.TheVariants.{NoGlyph}
use Rattle.page_core_base.specs.declared.places.Place.{Place}
pub use Rattle.page_fill_cells.specs.Cells.{cell_of, cells_of, columns}

-- ---- What a character and a glyph print, as cells of the open row. Source: mandoc_char(7); mandoc(1), -T ascii and -T utf8.

-- messages come before what is laid
abbrev pub with_notes : {E : Type 0} → List Message → Laid E → Laid E
with_notes notes l = record { rows = l.rows; notes = notes ++ l.notes; edge = l.edge }

-- what can't be printed is reported
abbrev pub unknown_notes : Option (List ℕ) → Place → List Message
unknown_notes text place = option_to_list (option_map (message_about NoGlyph place) text)

-- ---- The open row, and what is known of the rows above it. Source: roff(7), "Filling and adjusting"; mandoc(1), "ASCII Output".

-- the columns up to which those of a tag are counted: no hang is as great, so more of them make no difference
abbrev pub TAG_COLUMNS : ℕ
TAG_COLUMNS = 1002

-- the count up to which blank rows are counted: no macro asks for more, so more of them make no difference
abbrev pub BLANK_ROWS : ℕ
BLANK_ROWS = 100

-- The open row, and what is known of the rows above it.
pub record Sheet : Type 0 where
  -- the columns of a row with its margin, and whether rows are kept as they are
  pub width : ℕ
  pub literal : Bool
  -- the margin of the row that begins next, and of the rows after it
  pub first : ℕ
  pub rest : ℕ
  -- the open row: its margin, its cells (none: no row is open), where the blanks before its last word begin, and where that word does
  pub margin : ℕ
  pub cells : List Cell
  pub gap : ℕ
  pub word : ℕ
  -- how many blank rows are at the end of the rows that were given, up to BLANK_ROWS, and whether the last is a heading's row
  pub blank_rows : ℕ
  pub heading : Bool
  -- the columns of the open tag's cells, up to TAG_COLUMNS, and whether it has a cell
  pub tag_columns : ℕ
  pub tag_begun : Bool

-- what is laid, under another edge
abbrev pub over : {E F : Type 0} → Laid E → (E → F) → Laid F
over l f = record { rows = l.rows; notes = l.notes; edge = f l.edge }

-- the count of blank rows with more, as far as they are counted
abbrev pub more_blank_rows : ℕ → ℕ → ℕ
more_blank_rows count more = min (count + more) BLANK_ROWS

-- no row is open, below one blank row
abbrev pub fresh : ℕ → Sheet
fresh width = record {
  width = width;
  literal = false;
  first = 0;
  rest = 0;
  margin = 0;
  cells = [];
  gap = 0;
  word = 0;
  blank_rows = 1;
  heading = false;
  tag_columns = 0;
  tag_begun = false;
}
