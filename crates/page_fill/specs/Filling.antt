-- What filling is: pieces and the messages among them are groups of words, which fill rows, and what is between such groups.
-- Source: roff(7), "Filling and adjusting"; mandoc(1).
use Rattle.std.specs.Prelude.{ℕ, List, Bool, true, false, [], ◌∷◌, if◌then◌else◌, ◌==◌, length, ◌&&◌, replicate, ◌+◌, ◌-◌, nat_le, min, Option, None, Some, ◌%◌, nat_lt}
use Rattle.page_core_base.specs.Rows.{Item, shown, noted, Laid, nothing, row_of, seq}
use Rattle.page_core_base.specs.declared.cells.Cell.{Cell}
use Rattle.page_core_base.specs.declared.pieces.Piece.{Piece}
use Rattle.page_core_base.specs.declared.pieces.Piece.TheVariants.{Text, Glyph, Char, Blank, Glue, Split, Tab, Break, RowEnd, Para, Space, Indent, Literal, Tag, TagEnd, Heading, Column}
use Rattle.page_core_base.specs.declared.places.Place.{Place}
use Rattle.page_fill_cells.specs.Cells.{blank, columns}
use Rattle.page_fill_rows.specs.OpenRows.{more_blank_rows, over}
use Rattle.page_fill.specs.Filled.{row_ended, CellOrNote}
use Rattle.page_fill.specs.Words.{no_word, next_edge, cell_content, with_tag, words_laid, content_laid}
use Rattle.page_fill.specs.declared.edges.FillEdge.{FillEdge}
use Rattle.page_fill.specs.declared.edges.OpenTag.{OpenTag}

-- ---- groups

-- words, with the messages among them; or another piece
pub data Group : Type 0 where
  words : List Item → Group
  other : Piece (List ℕ) → Group

-- a piece of words
abbrev pub is_of_words : Piece (List ℕ) → Bool
is_of_words (Text bytes font place) = true
is_of_words (Glyph name font place) = true
is_of_words (Char c font place) = true
is_of_words (Blank count has_tab) = true
is_of_words Glue = true
is_of_words Split = true
is_of_words _ = false

-- an item of words goes into the first group
abbrev pub in_front : Item → List Group → List Group
in_front item (words items ∷ groups) = words (item ∷ items) ∷ groups
in_front item groups = words (item ∷ []) ∷ groups

unfoldable pub groups : List Item → List Group
groups [] = []
groups (noted m ∷ items) = in_front (noted m) (groups items)
groups (shown p ∷ items) = if is_of_words p then in_front (shown p) (groups items) else other p ∷ groups items

-- ---- other pieces

-- the open row ends, if there is one, and nothing waits
abbrev pub row_end : FillEdge → Laid FillEdge
row_end e = next_edge e no_word (if length e.sheet.cells == 0 then nothing e.sheet else row_ended e.sheet e.sheet.cells)

-- a count of blank rows
abbrev pub blank_rows : FillEdge → ℕ → Laid FillEdge
blank_rows e n = record {
  rows = replicate n (row_of 0 []);
  notes = [];
  edge = record e { sheet = record e.sheet { blank_rows = more_blank_rows e.sheet.blank_rows n; heading = e.sheet.heading && n == 0 } };
}

-- a new word is placed after a count of blanks
abbrev pub placed : FillEdge → ℕ → Laid FillEdge
placed e n = nothing (record e { word = record no_word { is_open = true; is_placed = true; blanks = n } })

-- the greatest hang of a tag, in columns
abbrev pub HANG_MAX : ℕ
HANG_MAX = 1000

-- after a tag with this hang: where a blank fits before the hang, the next word begins there; else the row ends, or there is one blank
abbrev pub after_tag : FillEdge → OpenTag → Laid FillEdge
after_tag e tag =
    let hang = min tag.hang HANG_MAX in
    if nat_le (e.sheet.tag_columns + 1) hang then placed e (hang - e.sheet.tag_columns)
    else if tag.ends_row then row_end e
    else placed e 1

-- a tag that is set in ends first, and then come its blanks, where a row is open; where another tag came between, the row ends; a tag without a cell is
-- none, and nothing of it waits
abbrev pub tag_end : FillEdge → Option ℕ → Option OpenTag → Laid FillEdge
tag_end e (Some blanks) tag = placed (record e { set_in = None }) (if length e.sheet.cells == 0 then 0 else blanks)
tag_end e None None = row_end (record e { tag = None })
tag_end e None (Some tag) = if e.sheet.tag_begun then after_tag (record e { tag = None }) tag else nothing (record e { tag = None; word = no_word })

-- the columns from one tab stop to the next
abbrev pub TAB_STOP : ℕ
TAB_STOP = 8

-- the blanks from the end of cells up to the next tab stop
abbrev pub stop_content : List Cell → Place → List CellOrNote
stop_content cells place = cell_content place (replicate (TAB_STOP - columns cells % TAB_STOP) blank)

unfoldable pub other_laid : FillEdge → Piece (List ℕ) → Laid FillEdge
-- the row ends; that of a line that is kept as it is ends with a blank row where it has no cell
other_laid e Break = row_end e
other_laid e RowEnd = if length e.sheet.cells == 0 then seq (row_end e) (λ f. blank_rows f 1) else row_end e
-- the row ends, and blank rows follow: of Para so many that there is this number of them, but none after a heading's row
other_laid e (Para n) = seq (row_end e) (λ f. blank_rows f (if f.sheet.heading then 0 else n - f.sheet.blank_rows))
other_laid e (Space n) = seq (row_end e) (λ f. blank_rows f n)
-- the row ends as a heading's, if there is one
other_laid e Heading = over (row_end e) (λ f. if length e.sheet.cells == 0 then f else record f { sheet = record f.sheet { heading = true } })
-- from here on: the margins of the next row and of those after it, also while a row or a word is open; how rows are filled; the open tag
other_laid e (Indent first rest) = nothing (record e { sheet = record e.sheet { first = first; rest = rest } })
other_laid e (Literal literal) = nothing (record e { sheet = record e.sheet { literal = literal } })
other_laid e (Tag hang form) = nothing (with_tag e hang form)
-- by the columns of the tag's cells the next word is placed, or the row ends
other_laid e TagEnd = tag_end e e.set_in e.tag
-- the next word is placed at a column, and after a cell one blank from it at least
other_laid e (Column n) = placed e (if length e.sheet.cells == 0 then n else if nat_lt (columns e.sheet.cells) n then n - columns e.sheet.cells else 1)
-- the word goes on: in a row that is kept as it is by blanks up to the next stop, else as words_of has it
other_laid e (Tab font place) = if e.sheet.literal then seq (content_laid e place []) (λ f. content_laid f place (stop_content f.sheet.cells place)) else words_laid e (shown (Tab font place) ∷ [])
-- the others are of words
other_laid e p = words_laid e (shown p ∷ [])

-- ---- all

unfoldable pub groups_laid : FillEdge → List Group → Laid FillEdge
groups_laid e [] = nothing e
groups_laid e (words items ∷ more) = seq (words_laid e items) (λ f. groups_laid f more)
groups_laid e (other p ∷ more) = seq (other_laid e p) (λ f. groups_laid f more)

-- what items lay from an edge
abbrev pub filled : FillEdge → List Item → Laid FillEdge
filled e items = groups_laid e (groups items)
