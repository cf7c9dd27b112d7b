-- A machine, of which trust needs no reading: filling piece by piece, as a filler takes them. It lays what filling of whole lists does
-- (`words_law`). Source: roff(7), "Filling and adjusting".
use Rattle.std.specs.Prelude.{◌≡◌, List, [], ◌∷◌, ◌++◌, refl, ℕ, ◌+◌, ◌-◌, not, ◌&&◌, nat_lt, min, Bool, true, length, replicate, ◌==◌, nat_le, take, if◌then◌else◌}
use Rattle.std.proofs.Common.{◌∙◌, ap, sym}
use Rattle.page_core_base.specs.Rows.{Laid, nothing, join, seq, Item, shown, noted}
use Rattle.page_core_base.specs.laws.Views.{join_assoc}
use Rattle.page_fill.specs.declared.edges.FillEdge.{FillEdge}
use Rattle.page_fill.specs.Filling.{filled}
use Rattle.page_core_base.specs.declared.cells.Cell.{Cell}
use Rattle.page_core_base.specs.declared.places.Place.{Place}
use Rattle.page_fill_rows.specs.OpenRows.{TAG_COLUMNS, Sheet, over}
use Rattle.page_fill_cells.specs.Cells.{columns, cell_columns, blank}
use Rattle.page_fill.specs.Filled.{RowWord, row_begun, row_ended}
use Rattle.page_fill.specs.Words.{cell_content}
use Rattle.page_fill_rows.specs.machine.Plain.{next_free_cells, word_end, word_start}

-- a message passes filling by
abbrev pub laid_item : FillEdge → Item → Laid FillEdge
laid_item e (shown piece) = filled e (shown piece ∷ [])
laid_item e (noted message) = record { rows = []; notes = message ∷ []; edge = e }

unfoldable pub laid_items : FillEdge → List Item → Laid FillEdge
laid_items e [] = nothing e
laid_items e (item ∷ items) = seq (laid_item e item) (λ f. laid_items f items)

pub laid_items-append : (e : FillEdge) (xs ys : List Item)
    → laid_items e (xs ++ ys) ≡ join (laid_items e xs) (laid_items (laid_items e xs).edge ys)
unfolding laid_items
laid_items-append e [] ys = refl
laid_items-append e (x ∷ xs) ys =
    let l = laid_item e x in
    ap (λ m. join l m) (laid_items-append l.edge xs ys)
    ∙ sym (join_assoc l (laid_items l.edge xs) (laid_items (laid_items l.edge xs).edge ys))

-- ---- What a word does to a row, in the laws of words, which no page rests on: trust in a page needs no reading of it. The row takes the word
-- with its blanks, or ends before it and it begins the next one. A word's next part is a word without blanks. Source: roff(7), "Filling
-- and adjusting".

-- margin and columns pass the width with the cell
abbrev pub is_wide : Sheet → Cell → Bool
is_wide s cell = not s.literal && nat_lt s.width (s.margin + columns s.cells + cell_columns cell)

-- a word of cells, after blanks
abbrev pub word_of_cells : ℕ → List Cell → Place → RowWord
word_of_cells n cells place = record { notes = []; blanks = n; place = place; content = cell_content place cells }

-- the columns of the open tag with more cells, and whether it has one
abbrev pub tally : ℕ → List Cell → ℕ
tally n [] = n
tally n (c ∷ cs) = tally (min (n + cell_columns c) TAG_COLUMNS) cs

abbrev pub has_cell : Bool → List Cell → Bool
has_cell b [] = b
has_cell b (c ∷ cs) = has_cell true cs

abbrev pub tallied : Sheet → List Cell → Sheet
tallied s cells = record s { tag_columns = tally s.tag_columns cells; tag_begun = has_cell s.tag_begun cells }

-- the row with one more word, and the blanks before it
abbrev pub with_word : Sheet → ℕ → List Cell → Sheet
with_word s n cells =
    record (tallied s (replicate n blank ++ cells)) { cells = s.cells ++ (replicate n blank ++ cells); gap = length s.cells; word = length s.cells + n }

-- the blanks that fit in the row
abbrev pub fitting : Sheet → ℕ
fitting s = s.width - (s.margin + columns s.cells)

-- the word begins a row
abbrev pub word_first : Sheet → List Cell → Sheet
word_first s cells = row_begun (tallied s cells) cells

-- the row ends before the word, which begins the next one; so many blanks before it stood in the row
abbrev pub word_wrapped : Sheet → ℕ → List Cell → Laid Sheet
word_wrapped s n cells = over (row_ended s s.cells) (λ t. word_first (tallied t (replicate n blank)) cells)

-- ---- A machine, which no public clause cites: how many words of a text go into the open row, or into the next one, together.

-- how many bytes of a text, with a blank between two words, are whole words, among the first ones up to a number
abbrev pub whole_words : List ℕ → ℕ → ℕ
whole_words text room = if nat_le (length text) room then length text else word_start (take (room + 1) text) - 1

-- how many bytes of a text begin the next row: the whole words that it has room for, or the first word
abbrev pub next_front : Sheet → List ℕ → ℕ
next_front s text = if whole_words text (next_free_cells s) == 0 then word_end text else whole_words text (next_free_cells s)
