-- What a part of a word does to a row: the row takes it where it fits, and else ends before it.
use Rattle.std.proofs.Common.{◌≡◌, ap, ◌∙◌, ℕ, ◌+◌, ◌<◌, ◌≤◌, ◌==◌, Bool, true, false, List, [], ◌∷◌, ◌++◌, length, replicate, inl, inr, refl, arith, append-nil, length-append, zero, suc, not, ◌&&◌, Option, None, Some, length-drop, lit≤, ◌-◌, nat_le, take, sym}
use Rattle.std.proofs.Math.Bool.{and-false}
use Rattle.std.proofs.lemmas.Bool.{cases_Bool, cases_lt}
use Rattle.std.proofs.lemmas.Bool.Decides.{nat_tests}
use Rattle.std.proofs.lemmas.List.{length-map, length-replicate, take-append-le, take_all}
use Rattle.page_core_base.specs.Texts.{characters_of}
use Rattle.page_core_base.specs.declared.cells.Cell.{Cell}
use Rattle.page_core_base.specs.declared.cells.Font.{Font}
use Rattle.page_core_base.specs.declared.page_settings.Output.{Output}
use Rattle.page_core_base.specs.declared.pieces.Piece.TheVariants.{Text, Split, Glyph, Char, Tab, Blank, Glue, Break, RowEnd, Para, Space, Indent, Literal, Tag, TagEnd, Heading, Column}
use Rattle.page_core_base.specs.declared.places.Place.{Place}
use Rattle.page_core_base.specs.Rows.{Laid, nothing, seq, Item, shown}
use Rattle.page_core_base.specs.declared.limits.TheConstants.{CELLS}
use Rattle.page_core_tables.specs.Glyphs.{char_printed, known, glyph_printed}
use Rattle.page_fill.specs.declared.edges.FillEdge.{FillEdge}
use Rattle.page_fill.specs.declared.edges.OpenWord.{OpenWord}
use Rattle.page_fill.specs.Words.{begun_word, cell_content, text_content, RowWords, words_of, word_after_items, next_edge, going_on}
use Rattle.page_fill_rows.specs.OpenRows.{Sheet, fresh}
use Rattle.page_fill_cells.specs.Cells.{columns, blank, cell_of, cells_of}
use Rattle.page_core_base.specs.laws.Views.{is_printable, is_printable_ascii, is_word, blank_words}
use Rattle.page_fill_rows.proofs.PlainLemmas.{characters_of-plain, columns-plain, first-plain, rest-plain}
use Rattle.page_fill.specs.Filled.{RowWord, first_word, outcome, one_word, rest_of_word, filling}
use Rattle.page_fill.specs.Filling.{groups, filled}
use Rattle.page_fill.specs.machine.Words.{with_word, word_wrapped, whole_words}
use Rattle.page_fill.proofs.MarkedPieces.{seq-nothing, one-group, laid-by}
use Rattle.page_fill.proofs.WordLaw.{apart, word-fits, passes-law, columns-append, columns-blanks}
use Rattle.page_core_base.specs.declared.pieces.Piece.{Piece}
use Rattle.page_core_base.specs.declared.pieces.TagForm.TheVariants as forms
use Rattle.page_fill.specs.declared.edges.OpenTag.{OpenTag}
use Rattle.page_fill_rows.specs.machine.Sheets.{letter, letters, space, spaces, new_word, opens, broken, empty_rows}
use Rattle.page_fill_rows.specs.laws.Views.{character, characters, glyph, IsHeld}
use Rattle.page_fill.specs.machine.Fill.{laid_piece, text, one_character, one_glyph, tab, opening, ended, paragraph, spaced, row_ended, heading, tag_ended, tag_end, after_tag, without_tag, missing_rows}
use Rattle.std.specs.List.{list_all, prefix_len}
use Rattle.std.proofs.Math.Seq.{take-append-add}
use Rattle.page_fill_rows.specs.machine.Plain.{word_start}
use Rattle.page_fill_rows.proofs.GroupLemmas.{start-append}
use Rattle.page_fill.specs.laws.Views.{first_letters}

-- ---- what a plain text holds

prints-itself : (output : Output) (b : ℕ) → is_printable b ≡ true → char_printed output b ≡ known (b ∷ [])
prints-itself output b byte = grind arith

bytes-content : (output : Output) (bytes : List ℕ) (font : Font) (place : Place) → is_printable_ascii bytes ≡ true
    → text_content output bytes font place ≡ cell_content place (cells_of font bytes)
unfolding text_content
bytes-content output [] font place plain = refl
bytes-content output (b ∷ bytes) font place plain =
    grind (arith, rest-plain, prints-itself, first-plain, bytes-content output bytes font place (rest-plain b bytes plain))

-- the content of a plain text, with nothing after it
plain-content : (output : Output) (bytes : List ℕ) (font : Font) (place : Place) → is_printable_ascii bytes ≡ true
    → text_content output (characters_of bytes) font place ++ [] ≡ cell_content place (cells_of font bytes)
plain-content output bytes font place plain = grind (arith, append-nil, characters_of-plain, bytes-content)

some-plain : (bytes : List ℕ) → is_printable_ascii bytes ≡ true → 0 < length bytes → (length (characters_of bytes) == 0) ≡ false
some-plain bytes plain some = let e : (length bytes == 0) ≡ false = grind (arith, nat_tests) in rw (characters_of-plain bytes plain) e

-- ---- words that go on from an open row

nothing-left : (s : Sheet) → rest_of_word s [] ≡ nothing s
unfolding first_word outcome
nothing-left s = elim (cases_Bool (s.gap == 0)) [ inl z ↦ rw z refl | inr z ↦ rw z refl ]

abbrev later : List RowWord → RowWords
later words = record { first = []; later = words }

later-words : (s : Sheet) (words : List RowWord) → going_on s (later words) ≡ filling s words
later-words s words = ap (λ (l : Laid Sheet). seq l (λ t. filling t words)) (nothing-left s)

one-word : (s : Sheet) (n : ℕ) (cells : List Cell) (p q : Place) → filling s (apart n cells p q ∷ []) ≡ one_word s (apart n cells p q)
unfolding filling
one-word s n cells p q = seq-nothing (one_word s (apart n cells p q))

word-before : (s next : Sheet) (n : ℕ) (cells : List Cell) (p q : Place) (words : List RowWord) → one_word s (apart n cells p q) ≡ nothing next
    → filling s (apart n cells p q ∷ words) ≡ filling next words
unfolding filling
word-before s next n cells p q words step = ap (λ (l : Laid Sheet). seq l (λ t. filling t words)) step

-- ---- the words of the pieces

-- the place of a part's blanks, of which there are none
abbrev nowhere : Place
nowhere = record { line = 0; column = 0 }

abbrev part : List ℕ → Font → Place → List Item
part b font place = shown Split ∷ shown (Text b font place) ∷ []

part-after : (literal : Bool) (w : OpenWord) (b : List ℕ) (font : Font) (place : Place) → w.is_joined ≡ true → (length (characters_of b) == 0) ≡ false
    → word_after_items literal w (part b font place) ≡ w
unfolding word_after_items
part-after literal w b font place joined some = rw (some, joined) refl

part-words : (output : Output) (literal empty : Bool) (w : OpenWord) (b : List ℕ) (font : Font) (place : Place) → w.is_joined ≡ true → literal ≡ false → is_printable_ascii b ≡ true
    → (length (characters_of b) == 0) ≡ false → words_of output literal empty w (part b font place) ≡ later (apart 0 (cells_of font b) nowhere place ∷ [])
unfolding words_of
part-words output literal empty w b font place joined fill plain some = grind (arith, plain-content)

abbrev two_parts : List ℕ → List ℕ → Font → Place → List Item
two_parts a b font place = shown (Text a font place) ∷ shown Split ∷ shown (Text b font place) ∷ []

parts-after : (literal : Bool) (w : OpenWord) (a b : List ℕ) (font : Font) (place : Place) → w.is_joined ≡ false → w.has_tab ≡ false
    → (length (characters_of a) == 0) ≡ false → (length (characters_of b) == 0) ≡ false → word_after_items literal w (two_parts a b font place) ≡ begun_word false
unfolding word_after_items
parts-after literal w a b font place new untabbed some some' = rw (some, some', new, untabbed) refl

parts-words : (output : Output) (literal empty : Bool) (w : OpenWord) (a b : List ℕ) (font : Font) (place : Place) → w.is_joined ≡ false → w.has_tab ≡ false → literal ≡ false → empty ≡ false
    → is_printable_ascii a ≡ true → is_printable_ascii b ≡ true → (length (characters_of a) == 0) ≡ false → (length (characters_of b) == 0) ≡ false
    → words_of output literal empty w (two_parts a b font place) ≡ later (apart w.blanks (cells_of font a) place place ∷ apart 0 (cells_of font b) nowhere place ∷ [])
unfolding words_of
parts-words output literal empty w a b font place new untabbed fill begun plain plain' some some' = grind (arith, and-false, plain-content, apart)

-- ---- a part

part-laid : (e : FillEdge) (b : List ℕ) (font : Font) (place : Place) → e.word.is_joined ≡ true → e.sheet.literal ≡ false → is_printable_ascii b ≡ true → 0 < length b
    → filled e (part b font place) ≡ next_edge e e.word (one_word e.sheet (apart 0 (cells_of font b) nowhere place))
unfolding groups
part-laid e b font place joined fill plain some = grind (arith, some-plain, apart, one-group, laid-by, part-after, part-words, later-words, one-word)

pub next-fits : (e : FillEdge) (b : List ℕ) (font : Font) (place : Place) → e.word.is_joined ≡ true → e.sheet.literal ≡ false → 0 < length e.sheet.cells
    → is_printable_ascii b ≡ true → 0 < length b → length e.sheet.cells + length b ≤ CELLS
    → e.sheet.margin + columns e.sheet.cells + length b ≤ e.sheet.width
    → filled e (shown Split ∷ shown (Text b font place) ∷ []) ≡ next_edge e e.word (nothing (with_word e.sheet 0 (cells_of font b)))
next-fits e b font place joined fill begun plain some room fits =
    let n : length (cells_of font b) ≡ length b = length-map b (cell_of font) in
    let w = columns-plain font b plain in
    part-laid e b font place joined fill plain some
    ∙ ap (next_edge e e.word) (word-fits e.sheet 0 (cells_of font b) nowhere place begun (omega arith) (omega arith))

pub next-passes : (e : FillEdge) (b : List ℕ) (font : Font) (place : Place) → e.word.is_joined ≡ true → e.sheet.literal ≡ false → 0 < length e.sheet.cells
    → is_printable_ascii b ≡ true → 0 < length b → length e.sheet.cells + length b ≤ CELLS
    → e.sheet.margin + columns e.sheet.cells ≤ e.sheet.width → e.sheet.width < e.sheet.margin + columns e.sheet.cells + length b
    → filled e (shown Split ∷ shown (Text b font place) ∷ []) ≡ next_edge e e.word (word_wrapped e.sheet 0 (cells_of font b))
next-passes e b font place joined fill begun plain some room fits past =
    let n : length (cells_of font b) ≡ length b = length-map b (cell_of font) in
    let w = columns-plain font b plain in
    part-laid e b font place joined fill plain some
    ∙ ap (next_edge e e.word) (passes-law e.sheet 0 (cells_of font b) nowhere place fill begun (omega arith) (omega arith) (omega arith))

-- ---- a word of two parts

parts-laid : (e : FillEdge) (a b : List ℕ) (font : Font) (place : Place) → e.word.is_joined ≡ false → e.word.has_tab ≡ false → e.sheet.literal ≡ false → 0 < length e.sheet.cells
    → is_printable_ascii a ≡ true → 0 < length a → is_printable_ascii b ≡ true → 0 < length b
    → length e.sheet.cells + e.word.blanks + length a ≤ CELLS → e.sheet.margin + columns e.sheet.cells + e.word.blanks + length a ≤ e.sheet.width
    → filled e (two_parts a b font place) ≡ next_edge e (begun_word false)
    (one_word (with_word e.sheet e.word.blanks (cells_of font a)) (apart 0 (cells_of font b) nowhere place))
unfolding groups
parts-laid e a b font place new untabbed fill begun plain some plain' some' room fits =
    let row = e.sheet in
    let s = some-plain a plain some in
    let t = some-plain b plain' some' in
    let n : length (cells_of font a) ≡ length a = length-map a (cell_of font) in
    let w = columns-plain font a plain in
    let cells : (length e.sheet.cells == 0) ≡ false = grind (arith, nat_tests) in
    let second = apart 0 (cells_of font b) nowhere place in
    let all = apart e.word.blanks (cells_of font a) place place ∷ second ∷ [] in
    let first = word-fits row e.word.blanks (cells_of font a) place place begun (omega arith) (omega arith) in
    one-group e (two_parts a b font place)
    ∙ (laid-by e (two_parts a b font place) (begun_word false) (later all) (parts-after e.sheet.literal e.word a b font place new untabbed s t)
    (parts-words e.output e.sheet.literal (length e.sheet.cells == 0) e.word a b font place new untabbed fill cells plain plain' s t)
    ∙ ap (next_edge e (begun_word false)) (later-words e.sheet all
    ∙ (word-before row (with_word row e.word.blanks (cells_of font a)) e.word.blanks (cells_of font a) place place (second ∷ []) first
    ∙ one-word (with_word row e.word.blanks (cells_of font a)) 0 (cells_of font b) nowhere place)))

with-columns : (cells : List Cell) (n : ℕ) (a : List ℕ) (font : Font) → is_printable_ascii a ≡ true
    → columns (cells ++ (replicate n blank ++ cells_of font a)) ≡ columns cells + n + length a
with-columns cells n a font plain = omega (arith, columns-append cells (replicate n blank ++ cells_of font a), columns-append (replicate n blank) (cells_of font a), columns-blanks n, columns-plain font a plain)

with-length : (cells : List Cell) (n : ℕ) (a : List ℕ) (font : Font) → length (cells ++ (replicate n blank ++ cells_of font a)) ≡ length cells + n + length a
with-length cells n a font = grind (arith, length-append, length-replicate, length-map)

pub both-fit : (e : FillEdge) (a b : List ℕ) (font : Font) (place : Place) → e.word.is_joined ≡ false → e.word.has_tab ≡ false → e.sheet.literal ≡ false
    → 0 < length e.sheet.cells → is_printable_ascii a ≡ true → 0 < length a → is_printable_ascii b ≡ true → 0 < length b
    → length e.sheet.cells + e.word.blanks + length a + length b ≤ CELLS
    → e.sheet.margin + columns e.sheet.cells + e.word.blanks + length a + length b ≤ e.sheet.width
    → filled e (shown (Text a font place) ∷ shown Split ∷ shown (Text b font place) ∷ [])
    ≡ next_edge e (begun_word false) (nothing (with_word (with_word e.sheet e.word.blanks (cells_of font a)) 0 (cells_of font b)))
both-fit e a b font place new untabbed fill begun plain some plain' some' room fits =
    let row = with_word e.sheet e.word.blanks (cells_of font a) in
    let w = with-columns e.sheet.cells e.word.blanks a font plain in
    let n = with-length e.sheet.cells e.word.blanks a font in
    let m : length (cells_of font b) ≡ length b = length-map b (cell_of font) in
    let v = columns-plain font b plain' in
    parts-laid e a b font place new untabbed fill begun plain some plain' some' (omega arith) (omega arith)
    ∙ ap (next_edge e (begun_word false)) (word-fits row 0 (cells_of font b) nowhere place (omega arith) (omega arith) (omega arith))

pub second-passes : (e : FillEdge) (a b : List ℕ) (font : Font) (place : Place) → e.word.is_joined ≡ false → e.word.has_tab ≡ false → e.sheet.literal ≡ false
    → 0 < length e.sheet.cells → is_printable_ascii a ≡ true → 0 < length a → is_printable_ascii b ≡ true → 0 < length b
    → length e.sheet.cells + e.word.blanks + length a + length b ≤ CELLS
    → e.sheet.margin + columns e.sheet.cells + e.word.blanks + length a ≤ e.sheet.width
    → e.sheet.width < e.sheet.margin + columns e.sheet.cells + e.word.blanks + length a + length b
    → filled e (shown (Text a font place) ∷ shown Split ∷ shown (Text b font place) ∷ [])
    ≡ next_edge e (begun_word false) (word_wrapped (with_word e.sheet e.word.blanks (cells_of font a)) 0 (cells_of font b))
second-passes e a b font place new untabbed fill begun plain some plain' some' room fits past =
    let row = with_word e.sheet e.word.blanks (cells_of font a) in
    let w = with-columns e.sheet.cells e.word.blanks a font plain in
    let n = with-length e.sheet.cells e.word.blanks a font in
    let m : length (cells_of font b) ≡ length b = length-map b (cell_of font) in
    let v = columns-plain font b plain' in
    parts-laid e a b font place new untabbed fill begun plain some plain' some' (omega arith) fits
    ∙ ap (next_edge e (begun_word false)) (passes-law row 0 (cells_of font b) nowhere place fill (omega arith) (omega arith) (omega arith) (omega arith))

-- ---- The places of the open row's last word lie within the row, at each edge that a page comes to.

pub letter-held : (s : Sheet) (cell : Cell) (place : Place) → IsHeld s → IsHeld (letter s cell place).edge
unfolding letter
letter-held s cell place h = grind (arith, length-append, length-drop)

pub space-held : (s : Sheet) (place : Place) → IsHeld s → IsHeld (space s place).edge
unfolding space
space-held s place h = grind (arith, length-append)

pub letters-held : (s : Sheet) (cells : List Cell) (place : Place) → IsHeld s → IsHeld (letters s cells place).edge
unfolding letters
letters-held s [] place h = h
letters-held s (cell ∷ cells) place h = letters-held (letter s cell place).edge cells place (letter-held s cell place h)

spaces-held : (s : Sheet) (n : ℕ) (place : Place) → IsHeld s → IsHeld (spaces s n place).edge
unfolding spaces
spaces-held s zero place h = h
spaces-held s (suc n) place h = spaces-held (space s place).edge n place (space-held s place h)

pub opens-held : (s : Sheet) → IsHeld s → IsHeld (opens s)
opens-held s h = record { gap_within = omega arith; word_within = omega arith; bounded = h.bounded }

new-word-held : (s : Sheet) (n : ℕ) (stands : Bool) (place : Place) → IsHeld s → IsHeld (new_word s n stands place).edge
new-word-held s n true place h = letters-held (opens s) (replicate n blank) place (opens-held s h)
new-word-held s n false place h = spaces-held (opens s) n place (opens-held s h)

pub opening-held : (e : FillEdge) (place : Place) → IsHeld e.sheet → IsHeld (opening e place).edge.sheet
unfolding opening
opening-held e place h = grind (arith, new-word-held)

character-held : (output : Output) (s : Sheet) (c : ℕ) (font : Font) (place : Place) → IsHeld s → IsHeld (character output s c font place).edge
unfolding character
character-held output s c font place h = letters-held s (cells_of font (char_printed output c).characters) place h

characters-held : (output : Output) (s : Sheet) (cs : List ℕ) (font : Font) (place : Place) → IsHeld s → IsHeld (characters output s cs font place).edge
unfolding characters
characters-held output s [] font place h = h
characters-held output s (c ∷ cs) font place h = characters-held output (character output s c font place).edge cs font place (character-held output s c font place h)

glyph-held : (output : Output) (s : Sheet) (name : List ℕ) (font : Font) (place : Place) → IsHeld s → IsHeld (glyph output s name font place).edge
unfolding glyph
glyph-held output s name font place h = letters-held s (cells_of font (glyph_printed output name).characters) place h

text-held : (e : FillEdge) (cs : List ℕ) (font : Font) (place : Place) → IsHeld e.sheet → IsHeld (text e cs font place).edge.sheet
unfolding text
text-held e cs font place h = grind (arith, characters-held, opening-held)

tab-held : (e : FillEdge) (font : Font) (place : Place) → IsHeld e.sheet → IsHeld (tab e font place).edge.sheet
unfolding tab
tab-held e font place h = grind (arith, letters-held, opening-held, letter-held)

broken-held : (s : Sheet) → IsHeld s → IsHeld (broken s).edge
unfolding broken
broken-held s h = grind arith

ended-held : (e : FillEdge) → IsHeld e.sheet → IsHeld (ended e).edge.sheet
unfolding ended
ended-held e h = broken-held e.sheet h

heading-held : (e : FillEdge) → IsHeld e.sheet → IsHeld (heading e).edge.sheet
unfolding heading
heading-held e h = grind (arith, ended-held)

after_tag-held : (e : FillEdge) (t : OpenTag) → IsHeld e.sheet → IsHeld (after_tag e t).edge.sheet
after_tag-held e t h = grind (arith, ended-held)

tag-held : (e : FillEdge) (tag : Option OpenTag) → IsHeld e.sheet → IsHeld (tag_ended e tag).edge.sheet
tag-held e None h = ended-held e h
tag-held e (Some t) h = grind (arith, after_tag-held)

tag_end-held : (e : FillEdge) (set_in : Option ℕ) → IsHeld e.sheet → IsHeld (tag_end e set_in).edge.sheet
tag_end-held e None h = tag-held (without_tag e) e.tag h
tag_end-held e (Some blanks) h = h

empty-held : (s : Sheet) (n : ℕ) → IsHeld s → IsHeld (empty_rows s n).edge
unfolding empty_rows
empty-held s n h = record { gap_within = h.gap_within; word_within = h.word_within; bounded = h.bounded }

row_ended-held : (e : FillEdge) → IsHeld e.sheet → IsHeld (row_ended e).edge.sheet
unfolding row_ended spaced
row_ended-held e h = grind (arith, empty-held, ended-held)

pub piece-held : (e : FillEdge) (p : Piece (List ℕ)) → IsHeld e.sheet → IsHeld (laid_piece e p).edge.sheet
unfolding laid_piece one_character one_glyph paragraph spaced
piece-held e (Text bytes font place) h = text-held e (characters_of bytes) font place h
piece-held e (Glyph name font place) h = glyph-held (opening e place).edge.output (opening e place).edge.sheet name font place (opening-held e place h)
piece-held e (Char c font place) h = character-held (opening e place).edge.output (opening e place).edge.sheet c font place (opening-held e place h)
piece-held e (Tab font place) h = tab-held e font place h
piece-held e (Blank count has_tab) h = h
piece-held e Glue h = h
piece-held e Split h = elim (cases_Bool (e.word.is_joined && not e.sheet.literal)) [ inl b ↦ rw b (opens-held e.sheet h) | inr b ↦ rw b h ]
piece-held e Break h = ended-held e h
piece-held e RowEnd h = row_ended-held e h
piece-held e (Para n) h = empty-held (ended e).edge.sheet (missing_rows (ended e).edge.sheet n) (ended-held e h)
piece-held e (Space n) h = empty-held (ended e).edge.sheet n (ended-held e h)
piece-held e (Indent first rest) h = record { gap_within = h.gap_within; word_within = h.word_within; bounded = h.bounded }
piece-held e (Literal b) h = record { gap_within = h.gap_within; word_within = h.word_within; bounded = h.bounded }
piece-held e (Tag hang forms.Row) h = record { gap_within = h.gap_within; word_within = h.word_within; bounded = h.bounded }
piece-held e (Tag hang forms.Hang) h = record { gap_within = h.gap_within; word_within = h.word_within; bounded = h.bounded }
piece-held e (Tag hang (forms.Inset n)) h = h
piece-held e TagEnd h = tag_end-held e e.set_in h
piece-held e Heading h = heading-held e h
piece-held e (Column n) h = h

pub fresh-held : (width : ℕ) → IsHeld (fresh width)
fresh-held width = record { gap_within = omega arith; word_within = omega arith; bounded = lit≤ tt }

-- ---- Words of a text, with a blank before each or between two.

-- no byte of these is a blank
abbrev pub is_letters : List ℕ → Bool
is_letters bytes = list_all (λ b. not (b == 32)) bytes

pub word-letters : (word : List ℕ) → is_word word ≡ true → is_letters word ≡ true
word-letters word is = grind (arith, is)

pub words-first : (word : List ℕ) (words : List (List ℕ)) → list_all is_word (word ∷ words) ≡ true → is_word word ≡ true
words-first word words all = grind (arith, all)

pub words-rest : (word : List ℕ) (words : List (List ℕ)) → list_all is_word (word ∷ words) ≡ true → list_all is_word words ≡ true
words-rest word words all = grind (arith, all)

-- ---- where the last word begins

pub start-letters : (bytes : List ℕ) → is_letters bytes ≡ true → word_start bytes ≡ 0
unfolding word_start
start-letters [] all = refl
start-letters (b ∷ bytes) all =
    let other : (b == 32) ≡ false = grind (arith, all) in
    let others : is_letters bytes ≡ true = grind (arith, all) in
    rw (start-letters bytes others, other) refl

start-word : (bytes : List ℕ) → is_letters bytes ≡ true → word_start (32 ∷ bytes) ≡ 1
unfolding word_start
start-word bytes all = rw (start-letters bytes all) refl

pub start-some : (bytes : List ℕ) → (word_start (32 ∷ bytes) == 0) ≡ false
unfolding word_start
start-some bytes = grind arith

pub start-blank : (bytes : List ℕ) → word_start (32 ∷ bytes) ≡ 1 + word_start bytes
unfolding word_start
start-blank bytes = grind arith

letters-front : (bytes : List ℕ) (count : ℕ) → is_letters bytes ≡ true → is_letters (take count bytes) ≡ true
letters-front [] zero all = refl
letters-front [] (suc count) all = refl
letters-front (b ∷ bytes) zero all = refl
letters-front (b ∷ bytes) (suc count) all =
    let other : (b == 32) ≡ false = grind (arith, all) in
    let others : is_letters bytes ≡ true = grind (arith, all) in
    rw other (letters-front bytes count others)

-- ---- a front of whole words

-- the first bytes, up to the last blank among them, are whole words
abbrev Cut : List (List ℕ) → ℕ → Type 0
Cut words room = (count : ℕ) × (word_start (take room (blank_words words)) - 1 ≡ length (blank_words (take count words)))

cut-none : (room : ℕ) → word_start (take room []) - 1 ≡ 0
unfolding word_start
cut-none zero = refl
cut-none (suc room) = refl

-- not a whole word
cut-short : (word : List ℕ) (room : ℕ) → is_letters word ≡ true → word_start (take room (32 ∷ word)) - 1 ≡ 0
unfolding word_start
cut-short word zero all = refl
cut-short word (suc room) all = let one = start-word (take room word) (letters-front word room all) in omega (arith, one)

-- a word, and whole words after it
cut-more : (word next : List ℕ) (words : List (List ℕ)) (more : ℕ) → is_letters word ≡ true → Cut (next ∷ words) (suc more)
    → Cut (word ∷ next ∷ words) (length (32 ∷ word) + suc more)
unfolding blank_words
cut-more word next words more letters others =
    let back = take (suc more) (blank_words (next ∷ words)) in
    let some : (word_start back == 0) ≡ false = start-some (take more (next ++ blank_words words)) in
    let sum = start-append (32 ∷ word) back some in
    let front = take-append-add (32 ∷ word) (blank_words (next ∷ words)) (suc more) in
    let len = length-append word (blank_words (take others.0 (next ∷ words))) in
    let above : 0 < word_start back = grind (arith, nat_tests, some) in
    (suc others.0, ap (λ (bytes : List ℕ). word_start bytes - 1) front ∙ omega (arith, sum, len, above, others.1))

-- the last word
cut-last : (word : List ℕ) (room : ℕ) → is_letters word ≡ true → length (32 ∷ word) ≤ room → Cut (word ∷ []) room
unfolding blank_words
cut-last word room letters long = grind (arith, start-word, append-nil, take_all)

-- not the whole first word
cut-first : (word : List ℕ) (words : List (List ℕ)) (room : ℕ) → is_letters word ≡ true → room ≤ length (32 ∷ word) → Cut (word ∷ words) room
unfolding blank_words
cut-first word words room letters short =
    (0, ap (λ (bytes : List ℕ). word_start bytes - 1) (take-append-le room (32 ∷ word) (blank_words words) short) ∙ cut-short word room letters)

cut-words : (words : List (List ℕ)) (room : ℕ) → list_all is_word words ≡ true → Cut words room
unfolding blank_words
cut-words [] room all = (0, cut-none room)
cut-words (word ∷ []) room all =
    let letters = word-letters word (words-first word [] all) in
    elim (cases_lt (length (32 ∷ word)) room) [
      | inl long ↦ cut-last word room letters (omega (arith, long))
      | inr short ↦ cut-first word [] room letters short
    ]
cut-words (word ∷ next ∷ words) room all =
    let letters = word-letters word (words-first word (next ∷ words) all) in
    elim (cases_lt (length (32 ∷ word)) room) [
      | inl long ↦
          let more = room - length (32 ∷ word) - 1 in
          let is : length (32 ∷ word) + suc more ≡ room = omega (arith, long) in
          rw is at (cut-more word next words more letters (cut-words (next ∷ words) (suc more) (words-rest word (next ∷ words) all)))
      | inr short ↦ cut-first word (next ∷ words) room letters short
    ]

-- ---- words with a blank between two

abbrev pub joined_words : List (List ℕ) → List ℕ
joined_words [] = []
joined_words (word ∷ words) = word ++ blank_words words

joined-length : (words : List (List ℕ)) → length (joined_words words) ≡ length (blank_words words) - 1
unfolding blank_words
joined-length [] = refl
joined-length (word ∷ words) = omega arith

cut-joined : (word : List ℕ) (words : List (List ℕ)) (room : ℕ) → list_all is_word (word ∷ words) ≡ true
    → (count : ℕ) × (word_start (take room (joined_words (word ∷ words))) - 1 ≡ length (joined_words (take count (word ∷ words))))
unfolding blank_words
cut-joined word words room all =
    let cut = cut-words (word ∷ words) (suc room) all in
    let is : word_start (32 ∷ take room (joined_words (word ∷ words))) - 1 ≡ length (blank_words (take cut.0 (word ∷ words))) = cut.1 in
    let start = start-blank (take room (joined_words (word ∷ words))) in
    let len = joined-length (take cut.0 (word ∷ words)) in
    (cut.0, omega (arith, is, start, len))

pub whole-words : (words : List (List ℕ)) (room : ℕ) → list_all is_word words ≡ true
    → (count : ℕ) × (whole_words (joined_words words) room ≡ length (joined_words (take count words)))
whole-words [] room all = (0, let fits : nat_le 0 room ≡ true = grind (arith, nat_tests) in rw fits refl)
whole-words (word ∷ words) room all = elim (cases_Bool (nat_le (length (joined_words (word ∷ words))) room)) [
  | inl fits ↦ let all = take_all (length words) words (omega arith) in (length (word ∷ words), rw (fits, all) refl)
  | inr more ↦ let cut = cut-joined word words (room + 1) all in (cut.0, rw more cut.1)
]

-- ---- the first word

-- where there is room for it, it is among the whole words
first-whole : (word : List ℕ) (words : List (List ℕ)) (room : ℕ) → 0 < length word → length word ≤ room → 0 < whole_words (joined_words (word ∷ words)) room
unfolding blank_words
first-whole word [] room some fits = grind (arith, append-nil)
first-whole word (next ∷ words) room some fits = elim (cases_Bool (nat_le (length (joined_words (word ∷ next ∷ words))) room)) [
  | inl all ↦ let len = length-append word (blank_words (next ∷ words)) in rw all (omega (arith, len, some))
  | inr more ↦
      let n = room - length word in
      let is : length word + suc n ≡ room + 1 = omega (arith, fits) in
      let back = take (suc n) (blank_words (next ∷ words)) in
      let other : (word_start back == 0) ≡ false = start-some (take n (next ++ blank_words words)) in
      let sum = start-append word back other in
      let above : 0 < word_start back = grind (arith, nat_tests, other) in
      let front = take-append-add word (blank_words (next ∷ words)) (suc n) in
      let start : word_start (take (room + 1) (joined_words (word ∷ next ∷ words))) ≡ length word + word_start back =
      ap (λ (k : ℕ). word_start (take k (joined_words (word ∷ next ∷ words)))) (sym is) ∙ (ap word_start front ∙ sum) in
      rw more (omega (arith, start, above, some))
]

-- where no whole word is, there is no room for it
pub none-whole : (word : List ℕ) (words : List (List ℕ)) (room : ℕ) → is_word word ≡ true → whole_words (joined_words (word ∷ words)) room ≡ 0 → room < length word
none-whole word words room is none = grind (arith, cases_lt, first-whole)

letters-first : (word back : List ℕ) → is_letters word ≡ true → prefix_len (λ b. not (b == 32)) back ≡ 0 → prefix_len (λ b. not (b == 32)) (word ++ back) ≡ length word
letters-first [] back letters none = none
letters-first (b ∷ word) back letters none =
    let other : (b == 32) ≡ false = grind (arith, letters) in
    let others : is_letters word ≡ true = grind (arith, letters) in
    rw (other, letters-first word back others none) (omega arith)

none-first : (words : List (List ℕ)) → prefix_len (λ b. not (b == 32)) (blank_words words) ≡ 0
unfolding blank_words
none-first [] = refl
none-first (word ∷ words) = refl

-- so many bytes it has
pub first-length : (word : List ℕ) (words : List (List ℕ)) → is_letters word ≡ true → first_letters (joined_words (word ∷ words)) ≡ length word
first-length word words letters = letters-first word (blank_words words) letters (none-first words)
