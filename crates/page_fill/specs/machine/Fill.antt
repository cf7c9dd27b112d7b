-- The steps of filling: how pieces become rows, with the messages between them. Trust needs no reading of them: page_fill says in words
-- what they lay. A start is what is held between two pieces; from it and a list of pieces follow the rows and messages that are settled,
-- and what is held then. Source: roff(7), "Filling and adjusting"; mandoc(1).
use Rattle.std.specs.Prelude.{ℕ, ◌+◌, ◌-◌, ◌%◌, Bool, true, not, ◌&&◌, ◌||◌, ◌==◌, nat_lt, nat_le, min, List, [], ◌∷◌, length, Option, None, Some, if◌then◌else◌}
use Rattle.page_core_base.specs.Texts.{characters_of}
use Rattle.page_core_base.specs.declared.cells.Cell.{Cell}
use Rattle.page_core_base.specs.declared.cells.Font.{Font}
use Rattle.page_core_base.specs.declared.pieces.Piece.{Piece}
use Rattle.page_core_base.specs.declared.pieces.Piece.TheVariants.{Text, Glyph, Char, Tab, Blank, Glue, Split, Break, RowEnd, Para, Space, Indent, Literal, Tag, TagEnd, Heading, Column}
use Rattle.page_core_base.specs.declared.places.Place.{Place}
use Rattle.page_core_base.specs.Rows.{Laid, nothing, seq}
use Rattle.page_fill_rows.specs.OpenRows.{Sheet, over, with_notes}
use Rattle.page_fill_cells.specs.Cells.{columns, cell_of}
use Rattle.page_fill_rows.specs.machine.Sheets.{letter, fixed_blanks, new_word, opens, broken, empty_rows}
use Rattle.page_fill_rows.specs.laws.Views.{characters, character, glyph}
use Rattle.page_fill.specs.declared.edges.OpenTag.{OpenTag}
use Rattle.page_fill.specs.Filling.{HANG_MAX, TAB_STOP}
pub use Rattle.page_fill.specs.declared.edges.FillEdge.{FillEdge}
pub use Rattle.page_fill.specs.declared.edges.OpenWord.{OpenWord}
pub use Rattle.page_fill.specs.Words.{no_word, begun_word, with_tag, tab_notes, start}
pub use Rattle.page_fill.specs.laws.Views.{blank_rows_at_end, open_cells}

-- blanks wait before the next word; those that a tag or a column placed stay
abbrev pub blanks_wait : OpenWord → ℕ → Bool → OpenWord
blanks_wait w count tab = if w.is_placed then record w { has_tab = tab } else record no_word { blanks = count; has_tab = tab; is_reported = w.is_reported }

-- the next text goes on with the open word
abbrev pub glued_word : OpenWord → OpenWord
glued_word w = if w.is_open then w else begun_word w.is_reported

-- a new word is placed after a count of blanks
abbrev pub placed_word : ℕ → OpenWord
placed_word count = record no_word { is_open = true; is_placed = true; blanks = count }

-- where rows are filled, the row's last word is parted after its cells: what follows is one that goes on without a blank
abbrev pub parted : FillEdge → FillEdge
parted e = if e.word.is_joined && not e.sheet.literal then record e { sheet = opens e.sheet } else e

-- ---- parts of words

-- tabs are reported in filled text alone
abbrev pub reports_tab : FillEdge → Bool
reports_tab e = e.word.has_tab && not e.sheet.literal

-- blanks before a word are cells of it in a row that is kept as it is, and where they place a row's first word
abbrev pub stands : FillEdge → Bool
stands e = e.sheet.literal || (e.word.is_placed && length e.sheet.cells == 0)

-- an edge with another sheet
abbrev pub on_sheet : FillEdge → Sheet → FillEdge
on_sheet e s = record e { sheet = s }

-- a word begins with the blanks that wait
abbrev pub word_begun : FillEdge → Bool → Place → Laid FillEdge
word_begun e reported place = over (new_word e.sheet e.word.blanks (stands e) place) (λ s. record e { sheet = s; word = begun_word reported })

-- before a cell: where a word is not open with a cell, one begins, with the blanks that wait
unfoldable pub opening : FillEdge → Place → Laid FillEdge
opening e place =
    if e.word.is_joined then nothing e
    else with_notes (tab_notes (reports_tab e) place) (word_begun e (reports_tab e) place)

-- a word was begun, perhaps without a cell
abbrev pub opened_word : OpenWord → OpenWord
opened_word w = record w { is_open = true }

-- characters of the open word; without any, the word is open all the same
unfoldable pub text : FillEdge → List ℕ → Font → Place → Laid FillEdge
text e cs font place =
    if length cs == 0 then nothing (record e { word = opened_word e.word })
    else seq (opening e place) (λ f. over (characters f.output f.sheet cs font place) (on_sheet f))

unfoldable pub one_character : FillEdge → ℕ → Font → Place → Laid FillEdge
one_character e c font place = seq (opening e place) (λ f. over (character f.output f.sheet c font place) (on_sheet f))

unfoldable pub one_glyph : FillEdge → List ℕ → Font → Place → Laid FillEdge
one_glyph e name font place = seq (opening e place) (λ f. over (glyph f.output f.sheet name font place) (on_sheet f))

-- a tab: in a row that is kept as it is, blanks up to the next stop; else a blank of the word, which is reported once a word
abbrev pub to_stop : List Cell → ℕ
to_stop cells = TAB_STOP - columns cells % TAB_STOP

abbrev pub fixed_tab : FillEdge → Place → Laid FillEdge
fixed_tab e place = over (fixed_blanks e.sheet (to_stop e.sheet.cells) place) (on_sheet e)

abbrev pub filled_tab : FillEdge → Font → Place → Laid FillEdge
filled_tab e font place =
    with_notes (tab_notes (not e.word.is_reported) place)
    (over (letter e.sheet (cell_of font 32) place) (λ s. record e { sheet = s; word = record e.word { is_reported = true } }))

unfoldable pub tab : FillEdge → Font → Place → Laid FillEdge
tab e font place = seq (opening e place) (λ f. if f.sheet.literal then fixed_tab f place else filled_tab f font place)

-- ---- breaks

-- the open row ends, and nothing waits
unfoldable pub ended : FillEdge → Laid FillEdge
ended e = over (broken e.sheet) (λ s. record e { sheet = s; word = no_word })

-- blank rows are given until a count of them is at the end, but none after a heading's row
abbrev pub missing_rows : Sheet → ℕ → ℕ
missing_rows s n = if s.heading then 0 else n - s.blank_rows

unfoldable pub paragraph : FillEdge → ℕ → Laid FillEdge
paragraph e n = seq (ended e) (λ f. over (empty_rows f.sheet (missing_rows f.sheet n)) (on_sheet f))

unfoldable pub spaced : FillEdge → ℕ → Laid FillEdge
spaced e n = seq (ended e) (λ f. over (empty_rows f.sheet n) (on_sheet f))

-- the row of a line that is kept as it is ends: a blank row where it has no cell
unfoldable pub row_ended : FillEdge → Laid FillEdge
row_ended e = if length e.sheet.cells == 0 then spaced e 1 else ended e

-- the row ends as a heading's, if there is one
abbrev pub headed : Sheet → Sheet
headed s = record s { heading = true }

unfoldable pub heading : FillEdge → Laid FillEdge
heading e = over (ended e) (λ f. if length e.sheet.cells == 0 then f else on_sheet f (headed f.sheet))

-- ---- tags and columns

-- the columns that a hang is padded to
abbrev pub held_hang : ℕ → ℕ
held_hang hang = min hang HANG_MAX

-- what follows a tag with a cell begins at the hang, if a blank fits before it
abbrev pub fits_hang : Sheet → ℕ → Bool
fits_hang s hang = nat_le (s.tag_columns + 1) (held_hang hang)

abbrev pub placed : FillEdge → ℕ → Laid FillEdge
placed e count = nothing (record e { word = placed_word count })

abbrev pub after_tag : FillEdge → OpenTag → Laid FillEdge
after_tag e t =
    if fits_hang e.sheet t.hang then placed e (held_hang t.hang - e.sheet.tag_columns)
    else if t.ends_row then ended e
    else placed e 1

abbrev pub tag_ended : FillEdge → Option OpenTag → Laid FillEdge
tag_ended e None = ended e
tag_ended e (Some t) = if e.sheet.tag_begun then after_tag e t else nothing (record e { word = no_word })

abbrev pub without_tag : FillEdge → FillEdge
without_tag e = record e { tag = None }

-- a tag that is set in ends first
abbrev pub tag_end : FillEdge → Option ℕ → Laid FillEdge
tag_end e None = tag_ended (without_tag e) e.tag
tag_end e (Some blanks) = placed (record e { set_in = None }) (if length e.sheet.cells == 0 then 0 else blanks)

-- the blanks up to a column
abbrev pub to_column : List Cell → ℕ → ℕ
to_column cells n = if length cells == 0 then n else if nat_lt (columns cells) n then n - columns cells else 1

-- ---- pieces

unfoldable pub laid_piece : FillEdge → Piece (List ℕ) → Laid FillEdge
laid_piece e (Text bytes font place) = text e (characters_of bytes) font place
laid_piece e (Glyph name font place) = one_glyph e name font place
laid_piece e (Char c font place) = one_character e c font place
laid_piece e (Tab font place) = tab e font place
laid_piece e (Blank count has_tab) = nothing (record e { word = blanks_wait e.word count has_tab })
laid_piece e Glue = nothing (record e { word = glued_word e.word })
laid_piece e Split = nothing (parted e)
laid_piece e Break = ended e
laid_piece e RowEnd = row_ended e
laid_piece e (Para n) = paragraph e n
laid_piece e (Space n) = spaced e n
laid_piece e (Indent first rest) = nothing (on_sheet e (record e.sheet { first = first; rest = rest }))
laid_piece e (Literal literal) = nothing (on_sheet e (record e.sheet { literal = literal }))
laid_piece e (Tag hang form) = nothing (with_tag e hang form)
laid_piece e TagEnd = tag_end e e.set_in
laid_piece e Heading = heading e
laid_piece e (Column n) = placed e (to_column e.sheet.cells n)

-- what is settled after pieces
unfoldable pub laid : FillEdge → List (Piece (List ℕ)) → Laid FillEdge
laid e [] = nothing e
laid e (p ∷ ps) = seq (laid_piece e p) (λ f. laid f ps)
