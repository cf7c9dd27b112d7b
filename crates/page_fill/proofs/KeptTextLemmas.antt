-- Characters of a row that is kept as it is: what their pieces lay, one after another, is that the row takes their cells.
use Rattle.std.proofs.Common.{◌≡◌, ℕ, ◌+◌, ◌<◌, ◌≤◌, true, false, ◌==◌, List, [], ◌∷◌, ◌++◌, length, append-nil, append_assoc, length-append, refl, ap, ◌∙◌, arith}
use Rattle.std.specs.Prelude.{min}
use Rattle.std.specs.List.{list_all}
use Rattle.std.proofs.lemmas.List.{length-map}
use Rattle.std.proofs.lemmas.List.Folds.{list_all-append}
use Rattle.page_core_base.specs.declared.cells.Cell.{Cell}
use Rattle.page_core_base.specs.declared.cells.Font.{Font}
use Rattle.page_core_base.specs.declared.pieces.Piece.{Piece}
use Rattle.page_core_base.specs.declared.pieces.Piece.TheVariants.{Text, Glyph, Char, Tab, Blank, Glue, Split, Break, RowEnd, Para, Space, Indent, Literal, Tag, TagEnd, Heading, Column}
use Rattle.page_core_base.specs.declared.places.Place.{Place}
use Rattle.page_core_base.specs.declared.limits.TheConstants.{CELLS}
use Rattle.page_core_base.specs.Rows.{nothing}
use Rattle.page_core_base.specs.laws.Views.{is_kept, letters_of, word_letters, is_printable, is_printable_ascii}
use Rattle.page_fill_cells.specs.Cells.{cell_of, cells_of}
use Rattle.page_fill_rows.specs.declared.TheConstants.{TAG_COLUMNS}
use Rattle.page_fill_rows.specs.machine.Plain.{taken}
use Rattle.page_fill_rows.specs.OpenRows.{Sheet}
use Rattle.page_fill_rows.proofs.PlainLemmas.{are_plain, characters_of-plain, of-plain}
use Rattle.page_fill.specs.laws.Views.{AreKept, goes_on, has_kept_room}
use Rattle.page_fill.specs.declared.edges.FillEdge.{FillEdge}
use Rattle.page_fill.specs.machine.Fill.{laid, laid_piece, on_sheet}
use Rattle.page_fill.proofs.LetteredPieces.{text-printable}
use Rattle.page_fill.proofs.FilledWords.{character-text, text-part}

-- the row with these cells
abbrev pub with_cells : FillEdge → List Cell → FillEdge
with_cells e [] = e
with_cells e (cell ∷ cells) = on_sheet e (taken e.sheet (cell ∷ cells))

counts-both : (columns m n : ℕ) → min (min (columns + m) TAG_COLUMNS + n) TAG_COLUMNS ≡ min (columns + (m + n)) TAG_COLUMNS
counts-both columns m n = omega arith

taken-both : (s : Sheet) (front back : List Cell) → (length s.cells == 0) ≡ false → taken (taken s front) back ≡ taken s (front ++ back)
taken-both s front back some = grind (arith, length-append, append_assoc, counts-both)

with-both : (e : FillEdge) (front back : List Cell) → (length e.sheet.cells == 0) ≡ false → with_cells (with_cells e front) back ≡ with_cells e (front ++ back)
with-both e [] back some = refl
with-both e (cell ∷ cells) [] some = rw (append-nil cells) refl
with-both e (cell ∷ cells) (next ∷ more) some = ap (on_sheet e) (taken-both e.sheet (cell ∷ cells) (next ∷ more) some)

with-goes-on : (e : FillEdge) (cells : List Cell) → goes_on e ≡ true → goes_on (with_cells e cells) ≡ true
with-goes-on e [] goes = goes
with-goes-on e (cell ∷ cells) goes = grind (arith, length-append)

with-length : (e : FillEdge) (cells : List Cell) → length (with_cells e cells).sheet.cells ≡ length e.sheet.cells + length cells
with-length e [] = omega arith
with-length e (cell ∷ cells) = length-append e.sheet.cells (cell ∷ cells)

-- a text of such a row
text-kept : (e : FillEdge) (bytes : List ℕ) (font : Font) (place : Place) → is_kept (Text bytes font place) ≡ true → are_plain (cells_of font bytes) ≡ true
    → goes_on e ≡ true → length e.sheet.cells + length bytes ≤ CELLS → laid_piece e (Text bytes font place) ≡ nothing (on_sheet e (taken e.sheet (cells_of font bytes)))
unfolding laid_piece
text-kept e bytes font place kept plain goes room = grind (arith, text-printable, characters_of-plain, text-part)

-- a character of such a row
char-kept : (e : FillEdge) (c : ℕ) (font : Font) (place : Place) → are_plain (cell_of font c ∷ []) ≡ true
    → goes_on e ≡ true → length e.sheet.cells + 1 ≤ CELLS → laid_piece e (Char c font place) ≡ nothing (on_sheet e (taken e.sheet (cell_of font c ∷ [])))
unfolding laid_piece
char-kept e c font place plain goes room = grind (arith, text-printable, character-text, text-part)

-- a piece lays its cells
piece-kept : (e : FillEdge) (p : Piece (List ℕ)) → is_kept p ≡ true → are_plain (letters_of p) ≡ true → goes_on e ≡ true
    → length e.sheet.cells + length (letters_of p) ≤ CELLS → laid_piece e p ≡ nothing (with_cells e (letters_of p))
unfolding laid_piece
piece-kept e (Text [] font place) kept plain goes room = absurd (grind (arith, kept))
piece-kept e (Text (b ∷ bytes) font place) kept plain goes room = grind (arith, length-map, text-kept)
piece-kept e Split kept plain goes room = grind arith
piece-kept e (Char c font place) kept plain goes room = char-kept e c font place plain goes room
piece-kept e (Glyph name font place) kept plain goes room = absurd (grind (arith, kept))
piece-kept e (Tab font place) kept plain goes room = absurd (grind (arith, kept))
piece-kept e (Blank count has_tab) kept plain goes room = absurd (grind (arith, kept))
piece-kept e Glue kept plain goes room = absurd (grind (arith, kept))
piece-kept e Break kept plain goes room = absurd (grind (arith, kept))
piece-kept e RowEnd kept plain goes room = absurd (grind (arith, kept))
piece-kept e (Para n) kept plain goes room = absurd (grind (arith, kept))
piece-kept e (Space n) kept plain goes room = absurd (grind (arith, kept))
piece-kept e (Indent first rest) kept plain goes room = absurd (grind (arith, kept))
piece-kept e (Literal is) kept plain goes room = absurd (grind (arith, kept))
piece-kept e (Tag hang form) kept plain goes room = absurd (grind (arith, kept))
piece-kept e TagEnd kept plain goes room = absurd (grind (arith, kept))
piece-kept e Heading kept plain goes room = absurd (grind (arith, kept))
piece-kept e (Column column) kept plain goes room = absurd (grind (arith, kept))

pieces-kept : (e : FillEdge) (pieces : List (Piece (List ℕ))) → list_all is_kept pieces ≡ true → are_plain (word_letters pieces) ≡ true → goes_on e ≡ true
    → length e.sheet.cells + length (word_letters pieces) ≤ CELLS → laid e pieces ≡ nothing (with_cells e (word_letters pieces))
unfolding laid
pieces-kept e [] kept plain goes room = refl
pieces-kept e (p ∷ ps) kept plain goes room =
    let own : is_kept p ≡ true = grind (arith, kept) in
    let others : list_all is_kept ps ≡ true = grind (arith, kept) in
    let both = list_all-append (λ (cell : Cell). is_printable cell.c) (letters_of p) (word_letters ps) in
    let first : are_plain (letters_of p) ≡ true = grind (arith, plain, both) in
    let later : are_plain (word_letters ps) ≡ true = grind (arith, plain, both) in
    let len = length-append (letters_of p) (word_letters ps) in
    let some : (length e.sheet.cells == 0) ≡ false = grind (arith, goes) in
    let f = with_cells e (letters_of p) in
    let len-f = with-length e (letters_of p) in
    rw (piece-kept e p own first goes (omega (arith, room, len)))
    (pieces-kept f ps others later (with-goes-on e (letters_of p) goes) (omega (arith, room, len, len-f))
    ∙ ap nothing (with-both e (letters_of p) (word_letters ps) some))

with-some : (e : FillEdge) (cells : List Cell) → 0 < length cells → with_cells e cells ≡ on_sheet e (taken e.sheet cells)
with-some e [] some = absurd (omega (arith, some))
with-some e (cell ∷ cells) some = refl

-- so do those of characters for which there is room
pub kept-laid : (e : FillEdge) (bytes : List ℕ) (font : Font) (pieces : List (Piece (List ℕ))) → has_kept_room e bytes ≡ true → is_printable_ascii bytes ≡ true
    → AreKept bytes font pieces → laid e pieces ≡ nothing (on_sheet e (taken e.sheet (cells_of font bytes)))
kept-laid e bytes font pieces room printable are = grind (arith, of-plain, goes_on, length-map, pieces-kept, with-some)
