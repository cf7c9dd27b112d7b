-- The words of pieces between two breaks, and what is held between two pieces. Source: roff(7), "Filling and adjusting".
use Rattle.std.specs.Prelude.{false, Bool, true, None, Some, ℕ, List, [], ◌∷◌, if◌then◌else◌, map, ◌++◌, flat_map, not, ◌&&◌, ◌==◌, length, ◌||◌, replicate}
use Rattle.page_core_base.specs.Bytes.{ascii}
use Rattle.page_core_base.specs.Messages.{Message, message_about}
use Rattle.page_core_base.specs.Rows.{Item, Laid, seq}
use Rattle.page_core_base.specs.Rows as items
use Rattle.page_core_base.specs.Texts.{characters_of}
use Rattle.page_core_base.specs.declared.cells.Cell.{Cell}
use Rattle.page_core_base.specs.declared.cells.Font.{Font}
use Rattle.page_core_base.specs.declared.note_kinds.NoteKind.TheVariants as notes
use Rattle.page_core_base.specs.declared.page_settings.Output.{Output}
use Rattle.page_core_base.specs.declared.page_settings.Settings.{Settings}
use Rattle.page_core_base.specs.declared.pieces.Piece.{Piece}
use Rattle.page_core_base.specs.declared.pieces.Piece.TheVariants.{Text, Glyph, Char, Tab, Blank, Glue, Split}
use Rattle.page_core_base.specs.declared.pieces.TagForm.{TagForm}
use Rattle.page_core_base.specs.declared.pieces.TagForm.TheVariants as forms
use Rattle.page_core_base.specs.declared.places.Place.{Place}
use Rattle.page_core_tables.specs.Glyphs.{Printing, char_printed, glyph_printed}
use Rattle.page_fill_cells.specs.Cells.{cells_of, cell_of, blank}
use Rattle.page_fill_rows.specs.OpenRows.{fresh, unknown_notes, Sheet, over}
use Rattle.page_fill.specs.Filled.{CellOrNote, shown, noted, RowWord, rest_of_word, filling}
use Rattle.page_fill.specs.declared.edges.FillEdge.{FillEdge}
use Rattle.page_fill.specs.declared.edges.OpenTag.{OpenTag}
use Rattle.page_fill.specs.declared.edges.OpenWord.{OpenWord}

-- ---- What is held between two pieces: the open row, the open tag, and what waits before the next word. Source: roff(7), "Filling and
-- adjusting".

-- ---- what waits before the next word

-- nothing waits, and no word is open
abbrev pub no_word : OpenWord
no_word = record { is_joined = false; is_open = false; is_placed = false; blanks = 0; has_tab = false; is_reported = false }

-- the open word has a cell, and goes on; the field says whether its tab was reported
abbrev pub begun_word : Bool → OpenWord
begun_word reported = record no_word { is_joined = true; is_open = true; is_reported = reported }

-- ---- tags

-- a tag takes the place of the one that is open, and its cells are counted
abbrev pub counted_tag : FillEdge → OpenTag → FillEdge
counted_tag e tag = record e { sheet = record e.sheet { tag_columns = 0; tag_begun = false }; tag = Some tag; set_in = None }

-- the words of a tag that is set in are words of the row: they go on with the tag that is open
abbrev pub with_tag : FillEdge → ℕ → TagForm → FillEdge
with_tag e hang forms.Row = counted_tag e (record { hang = hang; ends_row = true })
with_tag e hang forms.Hang = counted_tag e (record { hang = hang; ends_row = false })
with_tag e hang (forms.Inset n) = record e { set_in = Some n }

-- ---- tabs of words

-- a tab is reported as a blank, once a word
abbrev pub tab_notes : Bool → Place → List Message
tab_notes reported place = if reported then message_about notes.TabFill place [] ∷ [] else []

-- ---- the start of a page, and the rows at its end

-- a page begins below the blank row of its header
abbrev pub start : Settings → FillEdge
start settings = record { sheet = fresh settings.width; word = no_word; tag = None; set_in = None; output = settings.output }

-- ---- The words of pieces between two breaks, and the messages among them: each word with the blanks before it, and what it holds, cells and
-- messages. Texts that are glued are one word. From an edge they lead to the next one.
-- Source: roff(7), "Filling and adjusting".

-- ---- cells and messages

abbrev pub cell_content : Place → List Cell → List CellOrNote
cell_content place cells = map (λ cell. shown cell place) cells

-- what is printed, after a message about what can't be
abbrev pub printed_content : Printing → Font → Place → List CellOrNote
printed_content printing font place = map noted (unknown_notes printing.unknown place) ++ cell_content place (cells_of font printing.characters)

unfoldable pub text_content : Output → List ℕ → Font → Place → List CellOrNote
text_content output cs font place = flat_map (λ c. printed_content (char_printed output c) font place) cs

-- a tab is a blank of its word, which is reported once a word
abbrev pub tab_content : (is_reported : Bool) → Font → Place → List CellOrNote
tab_content is_reported font place = map noted (tab_notes (not is_reported) place) ++ shown (cell_of font (ascii " ")) place ∷ []

-- ---- what waits

-- after a cell: its word goes on
abbrev pub after_cell : Bool → OpenWord → OpenWord
after_cell literal w = if w.is_joined then w else begun_word (w.has_tab && not literal)

-- what waits after a piece; a text without a cell begins a word all the same
abbrev pub word_after : Bool → OpenWord → Piece (List ℕ) → OpenWord
word_after literal w (Text bytes font place) = if length (characters_of bytes) == 0 then record w { is_open = true } else after_cell literal w
word_after literal w (Glyph name font place) = after_cell literal w
word_after literal w (Char c font place) = after_cell literal w
word_after literal w (Tab font place) = record (after_cell literal w) { is_reported = true }
-- blanks wait before the next word; those that a tag or a column placed stay
word_after literal w (Blank count has_tab) =
    if w.is_placed then record w { has_tab = has_tab } else record no_word { blanks = count; has_tab = has_tab; is_reported = w.is_reported }
-- the next text goes on with the open word
word_after literal w Glue = if w.is_open then w else begun_word w.is_reported
word_after literal w _ = w

-- ---- words

-- what goes on with the open word, and the words after it
pub record RowWords : Type 0 where
  pub first : List CellOrNote
  pub later : List RowWord

-- a word with the blanks that wait before it. They are cells of it where rows are kept as they are, and where they place it in an empty row.
abbrev pub word_of : (literal empty : Bool) → OpenWord → Place → List CellOrNote → RowWord
word_of literal empty w place content =
    let notes = tab_notes (w.has_tab && not literal) place in
    if literal || (w.is_placed && empty) then record { notes = notes; blanks = 0; place = place; content = cell_content place (replicate w.blanks blank) ++ content }
    else record { notes = notes; blanks = w.blanks; place = place; content = content }

-- content goes on with the open word, or begins one, which what follows may go on with
abbrev pub and_then : (literal empty : Bool) → OpenWord → Place → List CellOrNote → RowWords → RowWords
and_then literal empty w place content rest =
    if w.is_joined then record { first = content ++ rest.first; later = rest.later }
    else record { first = []; later = word_of literal empty w place (content ++ rest.first) ∷ rest.later }

-- the open word is parted: what follows is a word without a blank
abbrev pub parted : RowWords → RowWords
parted rest = record { first = []; later = record { notes = []; blanks = 0; place = record { line = 0; column = 0 }; content = rest.first } ∷ rest.later }

abbrev pub words_from : Output → (literal empty : Bool) → OpenWord → Piece (List ℕ) → RowWords → RowWords
words_from output literal empty w (Text bytes font place) rest =
    if length (characters_of bytes) == 0 then rest else and_then literal empty w place (text_content output (characters_of bytes) font place) rest
words_from output literal empty w (Glyph name font place) rest = and_then literal empty w place (printed_content (glyph_printed output name) font place) rest
words_from output literal empty w (Char c font place) rest = and_then literal empty w place (printed_content (char_printed output c) font place) rest
words_from output literal empty w (Tab font place) rest = and_then literal empty w place (tab_content (after_cell literal w).is_reported font place) rest
words_from output literal empty w Split rest = if w.is_joined && not literal then parted rest else rest
words_from output literal empty w _ rest = rest

unfoldable pub words_of : Output → (literal empty : Bool) → OpenWord → List Item → RowWords
words_of output literal empty w [] = record { first = []; later = [] }
words_of output literal empty w (items.noted m ∷ more) = let rest = words_of output literal empty w more in record rest { first = noted m ∷ rest.first }
words_of output literal empty w (items.shown p ∷ more) = words_from output literal empty w p (words_of output literal empty (word_after literal w p) more)

-- what waits after them
unfoldable pub word_after_items : Bool → OpenWord → List Item → OpenWord
word_after_items literal w [] = w
word_after_items literal w (items.noted m ∷ more) = word_after_items literal w more
word_after_items literal w (items.shown p ∷ more) = word_after_items literal (word_after literal w p) more

-- ---- from an edge

-- the edge with another open row, and with what waits
abbrev pub next_edge : FillEdge → OpenWord → Laid Sheet → Laid FillEdge
next_edge e w l = over l (λ s. record e { sheet = s; word = w })

-- the first words may go on with the open row's last word, and the others follow
abbrev pub going_on : Sheet → RowWords → Laid Sheet
going_on s words = seq (rest_of_word s words.first) (λ t. filling t words.later)

-- a group of words, with the messages among them
unfoldable pub words_laid : FillEdge → List Item → Laid FillEdge
words_laid e items =
    let literal = e.sheet.literal in
    next_edge e (word_after_items literal e.word items) (going_on e.sheet (words_of e.output literal (length e.sheet.cells == 0) e.word items))

-- the open word goes on with this content; or one begins with the blanks that wait, and this is its first
unfoldable pub content_laid : FillEdge → Place → List CellOrNote → Laid FillEdge
content_laid e place content =
    let literal = e.sheet.literal in
    next_edge e (after_cell literal e.word)
    (going_on e.sheet (and_then literal (length e.sheet.cells == 0) e.word place content (record { first = []; later = [] })))
