-- Rows and their cells, the pieces that they are filled with, and the rows and messages that are settled. Source: mandoc(1), DESCRIPTION.
use Rattle.std.specs.Char.{is_ascii_alphabetic}
use Rattle.std.specs.Prelude.{ℕ, List, Bool, ◌==◌, [], ◌∷◌, if◌then◌else◌, length, false, ◌&&◌, ◌++◌}
use Rattle.page_core_base.specs.Bytes.{ascii}
use Rattle.page_core_base.specs.Messages.{Message, message_about}
use Rattle.page_core_base.specs.declared.cells.Cell.{Cell}
use Rattle.page_core_base.specs.declared.cells.Font.{Font}
use Rattle.page_core_base.specs.declared.note_kinds.NoteKind.{NoteKind}
use Rattle.page_core_base.specs.declared.pieces.Piece.{Piece}
use Rattle.page_core_base.specs.declared.pieces.Piece.TheVariants.{Text, Split}
use Rattle.page_core_base.specs.declared.places.Place.{Place}

-- ---- Rows and their cells.

-- a row: the columns of its margin, and its cells
pub record LaidRow : Type 0 where
  pub margin : ℕ
  pub cells : List Cell

abbrev pub row_of : ℕ → List Cell → LaidRow
row_of margin cells = record { margin = margin; cells = cells }

abbrev pub is_blank : Cell → Bool
is_blank cell = cell.c == ascii " "

-- the cells without the blanks at their end
abbrev pub trimmed_before : Cell → List Cell → List Cell
trimmed_before cell [] = if is_blank cell then [] else cell ∷ []
trimmed_before cell (next ∷ cells) = cell ∷ next ∷ cells

abbrev pub trimmed : List Cell → List Cell
trimmed [] = []
trimmed (cell ∷ cells) = trimmed_before cell (trimmed cells)

-- a row without a cell that is not a blank
abbrev pub is_blank_row : LaidRow → Bool
is_blank_row row = length (trimmed row.cells) == 0

-- ---- Pieces and the messages between them.

-- a piece or a message: their order is one
pub data Item : Type 0 where
  shown : Piece (List ℕ) → Item
  noted : Message → Item

-- a message about a place
abbrev pub says : NoteKind → Place → List ℕ → Item
says kind place detail = noted (message_about kind place detail)

-- ---- Words of a text, each after one blank, as the pieces that they are, and the parts of a word between which a row may end.
-- Source: roff(7), "Filling and adjusting".

-- ---- the parts of a word

abbrev pub starts_with_letter : List ℕ → Bool
starts_with_letter [] = false
starts_with_letter (b ∷ bytes) = is_ascii_alphabetic b

abbrev pub hyphen : ℕ
hyphen = 45

-- a byte goes into the first part
abbrev pub in_first : ℕ → List (List ℕ) → List (List ℕ)
in_first b [] = (b ∷ []) ∷ []
in_first b (part ∷ parts) = (b ∷ part) ∷ parts

-- between a byte before it and bytes after it, a part ends after a byte: a hyphen between two letters
abbrev pub ends_part : ℕ → ℕ → List ℕ → Bool
ends_part before b bytes = is_ascii_alphabetic before && (b == hyphen && starts_with_letter bytes)

-- the parts of bytes that are after another one
unfoldable pub parts_after : ℕ → List ℕ → List (List ℕ)
parts_after before [] = []
parts_after before (b ∷ bytes) = if ends_part before b bytes then (b ∷ []) ∷ parts_after b bytes else in_first b (parts_after b bytes)

-- the parts of a word, whose first byte does not follow a letter
abbrev pub parts_of : List ℕ → List (List ℕ)
parts_of word = parts_after hyphen word

-- parts after another one, and parts: the row may end between them
abbrev pub later_pieces : Font → Place → List (List ℕ) → List (Piece (List ℕ))
later_pieces font place [] = []
later_pieces font place (part ∷ parts) = Split ∷ (Text part font place ∷ later_pieces font place parts)

abbrev pub part_pieces : Font → Place → List (List ℕ) → List (Piece (List ℕ))
part_pieces font place [] = []
part_pieces font place (part ∷ parts) = Text part font place ∷ later_pieces font place parts

-- ---- The rows and messages that are settled, and the edge from which the rest goes on.

pub record Laid (E : Type 0) : Type 0 where
  pub rows : List LaidRow
  pub notes : List Message
  pub edge : E

abbrev pub nothing : {E : Type 0} → E → Laid E
nothing e = record { rows = []; notes = []; edge = e }

-- one thing after another
abbrev pub join : {E F : Type 0} → Laid E → Laid F → Laid F
join a b = record { rows = a.rows ++ b.rows; notes = a.notes ++ b.notes; edge = b.edge }

-- one thing, and from its edge another
abbrev pub seq : {E F : Type 0} → Laid E → (E → Laid F) → Laid F
seq a f = join a (f a.edge)

-- both sinks got all
pub record Gave {R N E : Type 0} (row_gave : R → List LaidRow → R → Type 0) (note_gave : N → List Message → N → Type 0)
    (r r' : R) (n n' : N) (given : Laid E) : Type 0 where
  pub rows : row_gave r given.rows r'
  pub notes : note_gave n given.notes n'
