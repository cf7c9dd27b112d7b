-- What filling is, in words. Between two breaks there is a list of words. A word is a list of parts, which end after its hyphens, and only its first
-- part has blanks before it; since a row may end before each part, a `RowWord` here is one such part. A row takes them up to its first offending
-- cell: the first one with which margin and columns pass the width while its word isn't the row's first, or else that would be one cell too many.
-- In the first case the row ends before that word, in the second before that cell, which is reported. Blanks before a word count with that word,
-- and are dropped where a row ends before them or among them. A row without an offending cell goes on. Where rows are kept as they are (no-fill
-- mode), no row ends for its width, and blanks are cells of words. Each cell of a word, and each blank that a row took, counts for the open tag.
-- Source: roff(7), "Filling and adjusting".
use Rattle.std.specs.Prelude.{ℕ, List, ◌+◌, true, false, min, [], ◌∷◌, ◌++◌, length, take, ◌==◌, if◌then◌else◌, not, ◌&&◌, nat_lt, drop, replicate}
use Rattle.page_core_base.specs.Limits.{name_of, CELLS}
use Rattle.page_core_base.specs.Messages.{Message, message_about}
use Rattle.page_core_base.specs.Rows.{row_of, is_blank_row, Laid, nothing, seq}
use Rattle.page_core_base.specs.declared.cells.Cell.{Cell}
use Rattle.page_core_base.specs.declared.limits.Limit.TheVariants.{Cells}
use Rattle.page_core_base.specs.declared.note_kinds.NoteKind.TheVariants.{Limit}
use Rattle.page_core_base.specs.declared.places.Place.{Place}
use Rattle.page_fill_cells.specs.Cells.{cell_columns, columns, blank}
use Rattle.page_fill_rows.specs.OpenRows.{TAG_COLUMNS, Sheet, more_blank_rows, with_notes}

-- ---- words

-- what a word holds: a cell, at the place that a message about it names; or a message
pub data CellOrNote : Type 0 where
  shown : Cell → Place → CellOrNote
  noted : Message → CellOrNote

-- a word, or a part of one: messages before it, the blanks before it (none before a part that is not the first), with the place that a message
-- about them names, and what it holds
pub record RowWord : Type 0 where
  pub notes : List Message
  pub blanks : ℕ
  pub place : Place
  pub content : List CellOrNote

-- ---- rows

-- the cell counts for the open tag
abbrev pub counted : Sheet → Cell → Sheet
counted s cell = record s { tag_columns = min (s.tag_columns + cell_columns cell) TAG_COLUMNS; tag_begun = true }

-- the open row takes one more cell
abbrev pub with_cell : Sheet → Cell → Sheet
with_cell s cell = record (counted s cell) { cells = s.cells ++ cell ∷ [] }

-- a word begins after the row's cells
abbrev pub opens : Sheet → Sheet
opens s = record s { gap = length s.cells; word = length s.cells }

-- the cells before the last word and its blanks
abbrev pub before_word : Sheet → List Cell
before_word s = take s.gap s.cells

-- a row of these cells begins
abbrev pub row_begun : Sheet → List Cell → Sheet
row_begun s cells = record s { margin = s.first; first = s.rest; cells = cells; gap = 0; word = 0 }

-- a row of these cells ends, which is no heading's so far, and none is open
abbrev pub row_ended : Sheet → List Cell → Laid Sheet
row_ended s cells =
    let row = row_of s.margin cells in
    let blank_rows = if is_blank_row row then more_blank_rows s.blank_rows 1 else 0 in
    record { rows = row ∷ []; notes = []; edge = record s { cells = []; gap = 0; word = 0; blank_rows = blank_rows; heading = false } }

-- a row of these cells ends, since one more would be too many
abbrev pub full_row_ended : Sheet → List Cell → Place → Laid Sheet
full_row_ended s cells place = with_notes (message_about Limit place (name_of Cells) ∷ []) (row_ended s cells)

-- ---- the first word of a row

-- a row's first word, or what is left of it: the row begins with a cell, or takes it, and ends only before a cell that would be one too many
unfoldable pub first_word : Sheet → List CellOrNote → Laid Sheet
first_word s [] = nothing s
first_word s (noted m ∷ content) = with_notes (m ∷ []) (first_word s content)
first_word s (shown cell place ∷ content) =
    if length s.cells == CELLS then seq (full_row_ended s s.cells place) (λ t. first_word (row_begun (counted t cell) (cell ∷ [])) content)
    else first_word (if length s.cells == 0 then row_begun (counted s cell) (cell ∷ []) else with_cell s cell) content

-- ---- the other words of a row

-- what a word's cells and messages do in a row: no cell offends, and the row is this one after them; at one the columns pass the width, before which the row
-- is this one; or one is too many, before which the row is this one, at this place, and from which on these are left
pub data WordOutcome : Type 0 where
  fits : List Message → Sheet → WordOutcome
  too_wide : Sheet → WordOutcome
  too_many : List Message → Sheet → Place → List CellOrNote → WordOutcome

-- an outcome after a message, which comes before the others. Where the columns pass the width none is reported yet: the next row has all of the word's
abbrev pub after_note : Message → WordOutcome → WordOutcome
after_note m (fits notes taken) = fits (m ∷ notes) taken
after_note m (too_wide taken) = too_wide taken
after_note m (too_many notes taken place left) = too_many (m ∷ notes) taken place left

-- what content does in a row
unfoldable pub outcome : Sheet → List CellOrNote → WordOutcome
outcome s [] = fits [] s
outcome s (noted m ∷ content) = after_note m (outcome s content)
outcome s (shown cell place ∷ content) =
    if not s.literal && nat_lt s.width (s.margin + columns s.cells + cell_columns cell) then too_wide s
    else if length s.cells == CELLS then too_many [] s place (shown cell place ∷ content)
    else outcome (with_cell s cell) content

-- the row's last word, which is not its first, goes on with this content: the row takes it, or ends before the word, whose cells begin the next row, or in it
abbrev pub by_word : Sheet → List CellOrNote → WordOutcome → Laid Sheet
by_word s content (fits notes taken) = with_notes notes (nothing taken)
by_word s content (too_wide taken) =
    let cells = drop s.word s.cells in
    seq (row_ended s (before_word s)) (λ t. first_word (if length cells == 0 then t else row_begun t cells) content)
by_word s content (too_many notes taken place left) = with_notes notes (seq (full_row_ended taken taken.cells place) (λ t. first_word t left))

-- the row took the blanks before a word of this content, which begins after them; or it ends before them
abbrev pub by_blanks : List CellOrNote → WordOutcome → Laid Sheet
by_blanks content (fits notes taken) = let s = record taken { word = length taken.cells } in by_word s content (outcome s content)
by_blanks content (too_wide taken) = seq (row_ended taken (before_word taken)) (λ t. first_word t content)
by_blanks content (too_many notes taken place left) = seq (full_row_ended taken (before_word taken) place) (λ t. first_word t content)

-- a row that is open takes one more word, or none is
abbrev pub one_word : Sheet → RowWord → Laid Sheet
one_word s word =
    if length s.cells == 0 then first_word (opens s) word.content
    else by_blanks word.content (outcome (opens s) (replicate word.blanks (shown blank word.place)))

-- the row's last word goes on with this content
abbrev pub rest_of_word : Sheet → List CellOrNote → Laid Sheet
rest_of_word s content = if s.gap == 0 then first_word s content else by_word s content (outcome s content)

-- ---- words one after another

unfoldable pub filling : Sheet → List RowWord → Laid Sheet
filling s [] = nothing s
filling s (word ∷ words) = with_notes word.notes (seq (one_word s word) (λ t. filling t words))
