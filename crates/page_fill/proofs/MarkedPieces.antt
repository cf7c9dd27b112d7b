-- Marks, between the steps of filling and the definition in words: words are written out as a list of them. Here a word begins, here is a blank
-- before it, here is a cell of it.
use Rattle.std.specs.Prelude.{ℕ, Bool, true, false, not, ◌&&◌, ◌||◌, ◌==◌, List, [], ◌∷◌, ◌++◌, length, map, replicate, if◌then◌else◌}
use Rattle.page_core_base.specs.Texts.{characters_of}
use Rattle.page_core_base.specs.declared.cells.Cell.{Cell}
use Rattle.page_core_base.specs.declared.cells.Font.{Font}
use Rattle.page_core_base.specs.declared.page_settings.Output.{Output}
use Rattle.page_core_base.specs.declared.pieces.Piece.{Piece}
use Rattle.page_core_base.specs.declared.pieces.Piece.TheVariants.{Text, Glyph, Char, Tab, Blank, Glue, Split, Break, RowEnd, Para, Indent, Literal, Tag, TagEnd, Heading}
use Rattle.page_core_base.specs.declared.places.Place.{Place}
use Rattle.page_core_base.specs.Messages.{Message, message_about}
use Rattle.page_core_tables.specs.Glyphs.{Printing, char_printed, glyph_printed}
use Rattle.page_fill_cells.specs.Cells.{blank, cell_of, cells_of}
use Rattle.page_fill_rows.specs.OpenRows.{unknown_notes, Sheet, with_notes, over, fresh}
use Rattle.page_fill.specs.declared.edges.OpenWord.{OpenWord}
use Rattle.page_fill.specs.Words.{tab_notes, after_cell, word_after, begun_word, text_content, RowWords, word_of, words_of, word_after_items, going_on, next_edge, words_laid, content_laid, no_word}
use Rattle.std.proofs.Common.{◌≡◌, refl, sym, ap, ◌∙◌, zero, suc, Option, None, Some, inl, inr, append-nil, arith, ◌<◌, IsUtf8, append_assoc, chars}
use Rattle.page_core_base.specs.Rows.{Laid, nothing, join, seq, Item, shown, noted, LaidRow, row_of}
use Rattle.page_core_base.specs.laws.Views.{join_assoc}
use Rattle.page_fill_rows.specs.machine.Sheets.{letter, space, opens, letters, spaces, new_word}
use Rattle.std.proofs.lemmas.Bool.{cases_Bool}
use Rattle.page_fill_rows.specs.laws.Views.{put, character, characters, glyph}
use Rattle.page_fill.specs.declared.edges.FillEdge.{FillEdge}
use Rattle.page_fill.specs.machine.Fill.{laid_piece, text, one_character, one_glyph, tab, opening, stands, fixed_tab, filled_tab, on_sheet, blanks_wait, opened_word, glued_word}
use Rattle.page_fill.specs.laws.Views.{is_sound}
use Rattle.std.proofs.lemmas.Bool.Decides.{nat_tests}
use Rattle.std.proofs.lemmas.Str.{chars-append, IsUtf8-append}
use Rattle.page_core_base.proofs.LatchLemmas.{characters_of-text}
use Rattle.page_fill_rows.proofs.CharacterLemmas.{chars-empty}
use Rattle.page_fill.specs.Filled.{CellOrNote, first_word, outcome, filling}
use Rattle.page_fill.specs.Filling.{words, groups, groups_laid, filled, other_laid}
use Rattle.unicode_width.specs.Width.{char_width}
use Rattle.page_core_base.specs.declared.cells.Font.TheVariants.{R}
use Rattle.page_core_base.specs.declared.page_settings.Output.TheVariants.{Ascii}
use Rattle.page_core_base.specs.declared.pieces.TagForm.TheVariants as forms
use Rattle.page_core_base.specs.declared.note_kinds.NoteKind.TheVariants as notes
use Rattle.page_fill.specs.Filling as filling_of

-- ---- marks

pub data Mark : Type 0 where
  -- a message in front of what follows
  reported : Message → Mark
  -- a word begins
  opened : Mark
  -- a blank before the word, and a cell of it, for a part of the page at a place
  spaced : Place → Mark
  lettered : Cell → Place → Mark

-- ---- the marks of pieces

abbrev pub letters_of : Place → List Cell → List Mark
letters_of place cells = map (λ cell. lettered cell place) cells

-- what is printed, after a report of what can't be
abbrev pub printed_marks : Printing → Font → Place → List Mark
printed_marks printing font place = map reported (unknown_notes printing.unknown place) ++ letters_of place (cells_of font printing.characters)

unfoldable pub character_marks : Output → ℕ → Font → Place → List Mark
character_marks output c font place = printed_marks (char_printed output c) font place

unfoldable pub text_marks : Output → List ℕ → Font → Place → List Mark
text_marks output [] font place = []
text_marks output (c ∷ cs) font place = character_marks output c font place ++ text_marks output cs font place

-- the messages of tabs
abbrev pub tab_marks : Bool → Place → List Mark
tab_marks tells place = map reported (tab_notes tells place)

-- before a cell, where no word is open with one: a word begins with the blanks that wait. They are cells of it where rows are kept as they are,
-- and where they place it in an empty row.
abbrev pub blank_marks : Bool → ℕ → Place → List Mark
blank_marks stands n place = if stands then letters_of place (replicate n blank) else replicate n (spaced place)

abbrev pub opening_marks : Bool → Bool → OpenWord → Place → List Mark
opening_marks literal empty w place =
    if w.is_joined then []
    else tab_marks (w.has_tab && not literal) place ++ opened ∷ blank_marks (literal || (w.is_placed && empty)) w.blanks place

-- a piece of words
abbrev pub is_of_words : Bool → Piece (List ℕ) → Bool
is_of_words literal (Text bytes font place) = true
is_of_words literal (Glyph name font place) = true
is_of_words literal (Char c font place) = true
is_of_words literal (Tab font place) = not literal
is_of_words literal (Blank count has_tab) = true
is_of_words literal Glue = true
is_of_words literal Split = true
is_of_words literal _ = false

abbrev pub piece_marks : Output → Bool → Bool → OpenWord → Piece (List ℕ) → List Mark
piece_marks output literal empty w (Text bytes font place) = if length (characters_of bytes) == 0 then [] else opening_marks literal empty w place ++ text_marks output (characters_of bytes) font place
piece_marks output literal empty w (Glyph name font place) = opening_marks literal empty w place ++ printed_marks (glyph_printed output name) font place
piece_marks output literal empty w (Char c font place) = opening_marks literal empty w place ++ character_marks output c font place
piece_marks output literal empty w (Tab font place) = opening_marks literal empty w place ++ (tab_marks (not (after_cell literal w).is_reported) place ++ lettered (cell_of font 32) place ∷ [])
piece_marks output literal empty w Split = if w.is_joined && not literal then opened ∷ [] else []
piece_marks output literal empty w _ = []

-- ---- What marks do to the open row, one by one.

-- what one mark does
abbrev pub step : Sheet → Mark → Laid Sheet
step s (reported m) = with_notes (m ∷ []) (nothing s)
step s opened = nothing (opens s)
step s (spaced place) = space s place
step s (lettered cell place) = letter s cell place

unfoldable pub run : Sheet → List Mark → Laid Sheet
run s [] = nothing s
run s (m ∷ ms) = seq (step s m) (λ t. run t ms)

-- ---- one list of marks after another

pub run-append : (s : Sheet) (xs ys : List Mark) → run s (xs ++ ys) ≡ seq (run s xs) (λ t. run t ys)
unfolding run
run-append s [] ys = refl
run-append s (m ∷ ms) ys =
    let x = step s m in
    ap (λ l. join x l) (run-append x.edge ms ys) ∙ sym (join_assoc x (run x.edge ms) (run (run x.edge ms).edge ys))

-- ---- What pieces of words lay is what their marks do.

pub letters-run : (s : Sheet) (cells : List Cell) (place : Place) → letters s cells place ≡ run s (letters_of place cells)
unfolding letters run
letters-run s [] place = refl
letters-run s (cell ∷ cells) place = ap (λ l. join (letter s cell place) l) (letters-run (letter s cell place).edge cells place)

spaces-run : (s : Sheet) (n : ℕ) (place : Place) → spaces s n place ≡ run s (replicate n (spaced place))
unfolding spaces run
spaces-run s zero place = refl
spaces-run s (suc n) place = ap (λ l. join (space s place) l) (spaces-run (space s place).edge n place)

one-run : (s : Sheet) (cell : Cell) (place : Place) → letter s cell place ≡ run s (lettered cell place ∷ [])
unfolding run
one-run s cell place = rw (append-nil (letter s cell place).rows, append-nil (letter s cell place).notes) refl

opened-run : (s : Sheet) (ms : List Mark) → run s (opened ∷ ms) ≡ run (opens s) ms
unfolding run
opened-run s ms = refl

notes-run : (s : Sheet) (unknown : Option (List ℕ)) (place : Place) (l : Laid Sheet) (ms : List Mark) → l ≡ run s ms
    → with_notes (unknown_notes unknown place) l ≡ run s (map reported (unknown_notes unknown place) ++ ms)
unfolding run
notes-run s None place l ms e = e
notes-run s (Some text) place l ms e = ap (with_notes (unknown_notes (Some text) place)) e

printed-run : (s : Sheet) (p : Printing) (font : Font) (place : Place) → put s p font place ≡ run s (printed_marks p font place)
printed-run s p font place = grind (arith, notes-run, letters-run)

character-run : (output : Output) (s : Sheet) (c : ℕ) (font : Font) (place : Place) → character output s c font place ≡ run s (character_marks output c font place)
unfolding character character_marks
character-run output s c font place = printed-run s (char_printed output c) font place

characters-run : (output : Output) (s : Sheet) (cs : List ℕ) (font : Font) (place : Place) → characters output s cs font place ≡ run s (text_marks output cs font place)
unfolding characters text_marks run
characters-run output s [] font place = refl
characters-run output s (c ∷ cs) font place =
    let x = character output s c font place in
    let y = run s (character_marks output c font place) in
    ap (λ l. join x l) (characters-run output x.edge cs font place)
    ∙ (ap (λ l. seq l (λ t. run t (text_marks output cs font place))) (character-run output s c font place)
    ∙ sym (run-append s (character_marks output c font place) (text_marks output cs font place)))

glyph-run : (output : Output) (s : Sheet) (name : List ℕ) (font : Font) (place : Place)
    → glyph output s name font place ≡ run s (printed_marks (glyph_printed output name) font place)
unfolding glyph
glyph-run output s name font place = printed-run s (glyph_printed output name) font place

tabs-run : (s : Sheet) (tells : Bool) (place : Place) (ms : List Mark) → with_notes (tab_notes tells place) (run s ms) ≡ run s (tab_marks tells place ++ ms)
unfolding run
tabs-run s true place ms = refl
tabs-run s false place ms = refl

blanks-run : (s : Sheet) (literal : Bool) (n : ℕ) (place : Place) → new_word s n literal place ≡ run s (opened ∷ blank_marks literal n place)
blanks-run s true n place = letters-run (opens s) (replicate n blank) place ∙ sym (opened-run s (letters_of place (replicate n blank)))
blanks-run s false n place = spaces-run (opens s) n place ∙ sym (opened-run s (replicate n (spaced place)))

-- ---- rows stay filled, or as they are

letter-literal : (s : Sheet) (cell : Cell) (place : Place) → (letter s cell place).edge.literal ≡ s.literal
unfolding letter
letter-literal s cell place = grind arith

space-literal : (s : Sheet) (place : Place) → (space s place).edge.literal ≡ s.literal
unfolding space
space-literal s place = grind arith

step-literal : (s : Sheet) (m : Mark) → (step s m).edge.literal ≡ s.literal
step-literal s (reported m) = refl
step-literal s opened = refl
step-literal s (spaced place) = space-literal s place
step-literal s (lettered cell place) = letter-literal s cell place

pub run-literal : (s : Sheet) (ms : List Mark) → (run s ms).edge.literal ≡ s.literal
unfolding run
run-literal s [] = refl
run-literal s (m ∷ ms) = run-literal (step s m).edge ms ∙ step-literal s m

-- ---- pieces

-- the same with another sheet and word
abbrev pub with_word : FillEdge → OpenWord → Sheet → FillEdge
with_word e w s = record e { sheet = s; word = w }

two-runs : (e : FillEdge) (w : OpenWord) (xs ys : List Mark)
    → seq (over (run e.sheet xs) (with_word e w)) (λ f. over (run f.sheet ys) (on_sheet f)) ≡ over (run e.sheet (xs ++ ys)) (with_word e w)
two-runs e w xs ys = ap (λ l. over l (with_word e w)) (sym (run-append e.sheet xs ys))

-- whether the blanks that wait are cells of the next word, where the row was empty or not when they were placed
abbrev pub AreStanding : FillEdge → Bool → Type 0
AreStanding e empty = stands e ≡ (e.sheet.literal || (e.word.is_placed && empty))

pub opening-run : (e : FillEdge) (empty : Bool) (place : Place) → AreStanding e empty
    → opening e place ≡ over (run e.sheet (opening_marks e.sheet.literal empty e.word place)) (with_word e (after_cell e.sheet.literal e.word))
unfolding opening run
opening-run e empty place same = grind (arith, blanks-run, tabs-run)

text-run : (e : FillEdge) (empty : Bool) (cs : List ℕ) (font : Font) (place : Place) → AreStanding e empty → (length cs == 0) ≡ false
    → text e cs font place ≡ over (run e.sheet (opening_marks e.sheet.literal empty e.word place ++ text_marks e.output cs font place)) (with_word e (after_cell e.sheet.literal e.word))
unfolding text
text-run e empty cs font place h some =
    let xs = opening_marks e.sheet.literal empty e.word place in
    let w = after_cell e.sheet.literal e.word in
    rw some (
    ap (λ (l : Laid FillEdge). seq l (λ f. over (characters f.output f.sheet cs font place) (on_sheet f))) (opening-run e empty place h)
    ∙ (ap (λ (l : Laid Sheet). seq (over (run e.sheet xs) (with_word e w)) (λ f. over l (on_sheet f))) (characters-run e.output (run e.sheet xs).edge cs font place)
    ∙ two-runs e w xs (text_marks e.output cs font place))
    )

one_character-run : (e : FillEdge) (empty : Bool) (c : ℕ) (font : Font) (place : Place) → AreStanding e empty
    → one_character e c font place ≡ over (run e.sheet (opening_marks e.sheet.literal empty e.word place ++ character_marks e.output c font place)) (with_word e (after_cell e.sheet.literal e.word))
unfolding one_character
one_character-run e empty c font place h =
    let xs = opening_marks e.sheet.literal empty e.word place in
    let w = after_cell e.sheet.literal e.word in
    ap (λ (l : Laid FillEdge). seq l (λ f. over (character f.output f.sheet c font place) (on_sheet f))) (opening-run e empty place h)
    ∙ (ap (λ (l : Laid Sheet). seq (over (run e.sheet xs) (with_word e w)) (λ f. over l (on_sheet f))) (character-run e.output (run e.sheet xs).edge c font place)
    ∙ two-runs e w xs (character_marks e.output c font place))

one_glyph-run : (e : FillEdge) (empty : Bool) (name : List ℕ) (font : Font) (place : Place) → AreStanding e empty
    → one_glyph e name font place ≡ over (run e.sheet (opening_marks e.sheet.literal empty e.word place ++ printed_marks (glyph_printed e.output name) font place)) (with_word e (after_cell e.sheet.literal e.word))
unfolding one_glyph
one_glyph-run e empty name font place h =
    let xs = opening_marks e.sheet.literal empty e.word place in
    let w = after_cell e.sheet.literal e.word in
    ap (λ (l : Laid FillEdge). seq l (λ f. over (glyph f.output f.sheet name font place) (on_sheet f))) (opening-run e empty place h)
    ∙ (ap (λ (l : Laid Sheet). seq (over (run e.sheet xs) (with_word e w)) (λ f. over l (on_sheet f))) (glyph-run e.output (run e.sheet xs).edge name font place)
    ∙ two-runs e w xs (printed_marks (glyph_printed e.output name) font place))

-- a tab after an opening
tab_cell-run : (e : FillEdge) (w : OpenWord) (xs : List Mark) (font : Font) (place : Place)
    → seq (over (run e.sheet xs) (with_word e w)) (λ f. filled_tab f font place)
    ≡ over (run e.sheet (xs ++ (tab_marks (not w.is_reported) place ++ lettered (cell_of font 32) place ∷ []))) (with_word e (record w { is_reported = true }))
tab_cell-run e w xs font place = grind (arith, one-run, tabs-run, run-append)

pub tab-run : (e : FillEdge) (empty : Bool) (font : Font) (place : Place) → AreStanding e empty → e.sheet.literal ≡ false
    → tab e font place ≡ over (run e.sheet (opening_marks e.sheet.literal empty e.word place ++ (tab_marks (not (after_cell e.sheet.literal e.word).is_reported) place ++ lettered (cell_of font 32) place ∷ [])))
    (with_word e (record (after_cell e.sheet.literal e.word) { is_reported = true }))
unfolding tab
tab-run e empty font place h fill =
    let xs = opening_marks e.sheet.literal empty e.word place in
    let w = after_cell e.sheet.literal e.word in
    let still : (run e.sheet xs).edge.literal ≡ false = run-literal e.sheet xs ∙ fill in
    ap (λ (l : Laid FillEdge). seq l (λ f. if f.sheet.literal then fixed_tab f place else filled_tab f font place)) (opening-run e empty place h)
    ∙ (rw still refl ∙ tab_cell-run e w xs font place)

text-empty : (e : FillEdge) (cs : List ℕ) (font : Font) (place : Place) → (length cs == 0) ≡ true → text e cs font place ≡ nothing (record e { word = opened_word e.word })
unfolding text
text-empty e cs font place z = rw z refl

pub piece-run : (e : FillEdge) (empty : Bool) (p : Piece (List ℕ)) → AreStanding e empty → is_of_words e.sheet.literal p ≡ true
    → laid_piece e p ≡ over (run e.sheet (piece_marks e.output e.sheet.literal empty e.word p)) (with_word e (word_after e.sheet.literal e.word p))
unfolding laid_piece run
piece-run e empty (Text bytes font place) h k = grind (arith, text-empty, text-run)
piece-run e empty (Glyph name font place) h k = one_glyph-run e empty name font place h
piece-run e empty (Char c font place) h k = one_character-run e empty c font place h
piece-run e empty (Tab font place) h k = tab-run e empty font place h (elim (cases_Bool e.sheet.literal) [ inl t ↦ absurd (let q : false ≡ true = rw t at k in cc) | inr t ↦ t ])
piece-run e empty (Blank count has_tab) h k = refl
piece-run e empty Glue h k = refl
piece-run e empty Split h k = elim (cases_Bool (e.word.is_joined && not e.sheet.literal)) [ inl b ↦ rw b refl | inr b ↦ rw b refl ]
piece-run e empty _ h k = cc

-- ---- what waits after a piece

unplaced-cell : (literal : Bool) (w : OpenWord) → is_sound w ≡ true → (after_cell literal w).is_placed ≡ false
unplaced-cell literal w h = grind arith

sound-unplaced : (w : OpenWord) → w.is_placed ≡ false → is_sound w ≡ true
sound-unplaced w h = elim (cases_Bool w.is_joined) [ inl j ↦ rw (j, h) refl | inr j ↦ rw j refl ]

pub sound-after : (literal : Bool) (w : OpenWord) (p : Piece (List ℕ)) → is_sound w ≡ true → is_sound (word_after literal w p) ≡ true
sound-after literal w (Text bytes font place) h = elim (cases_Bool (length (characters_of bytes) == 0)) [ inl z ↦ rw z h | inr z ↦ rw z (sound-unplaced (after_cell literal w) (unplaced-cell literal w h)) ]
sound-after literal w (Glyph name font place) h = sound-unplaced (after_cell literal w) (unplaced-cell literal w h)
sound-after literal w (Char c font place) h = sound-unplaced (after_cell literal w) (unplaced-cell literal w h)
sound-after literal w (Tab font place) h = sound-unplaced (record (after_cell literal w) { is_reported = true }) (unplaced-cell literal w h)
sound-after literal w (Blank count has_tab) h = elim (cases_Bool w.is_placed) [ inl p ↦ rw p (rw p at h) | inr p ↦ rw p refl ]
sound-after literal w Glue h = elim (cases_Bool w.is_open) [ inl o ↦ rw o h | inr o ↦ rw o refl ]
sound-after literal w _ h = h

-- a word that isn't placed
unplaced-stands : (e : FillEdge) (empty : Bool) (w : OpenWord) (s : Sheet) → w.is_placed ≡ false → AreStanding (with_word e w s) empty
unplaced-stands e empty w s h = rw h refl

-- nothing was put yet
same-stands : (e : FillEdge) (empty : Bool) (w : OpenWord) → (e.word.is_placed ≡ false → w.is_placed ≡ false) → AreStanding e empty → AreStanding (with_word e w e.sheet) empty
same-stands e empty w keeps same = grind arith

pub stands-after : (e : FillEdge) (empty : Bool) (p : Piece (List ℕ)) → is_sound e.word ≡ true → AreStanding e empty
    → AreStanding (with_word e (word_after e.sheet.literal e.word p) (run e.sheet (piece_marks e.output e.sheet.literal empty e.word p)).edge) empty
unfolding run
stands-after e empty (Text bytes font place) h same = grind arith
stands-after e empty (Glyph name font place) h same = unplaced-stands e empty (after_cell e.sheet.literal e.word) (run e.sheet (opening_marks e.sheet.literal empty e.word place ++ printed_marks (glyph_printed e.output name) font place)).edge (unplaced-cell e.sheet.literal e.word h)
stands-after e empty (Char c font place) h same = unplaced-stands e empty (after_cell e.sheet.literal e.word) (run e.sheet (opening_marks e.sheet.literal empty e.word place ++ character_marks e.output c font place)).edge (unplaced-cell e.sheet.literal e.word h)
stands-after e empty (Tab font place) h same = unplaced-stands e empty (record (after_cell e.sheet.literal e.word) { is_reported = true }) (run e.sheet (opening_marks e.sheet.literal empty e.word place ++ (tab_marks (not (after_cell e.sheet.literal e.word).is_reported) place ++ lettered (cell_of font 32) place ∷ []))).edge (unplaced-cell e.sheet.literal e.word h)
stands-after e empty (Blank count has_tab) h same = same-stands e empty (blanks_wait e.word count has_tab) (λ u. rw u refl) same
stands-after e empty Glue h same = same-stands e empty (glued_word e.word) (λ u. elim (cases_Bool e.word.is_open) [ inl o ↦ rw o u | inr o ↦ rw o refl ]) same
stands-after e empty Split h same = elim (cases_Bool (e.word.is_joined && not e.sheet.literal)) [ inl b ↦ rw b same | inr b ↦ rw b same ]
stands-after e empty _ h same = same-stands e empty e.word (λ u. u) same

-- ---- Texts that are glued are one word.

pub seq-nothing : {E : Type 0} (l : Laid E) → seq l (λ f. nothing f) ≡ l
seq-nothing l = rw (append-nil l.rows, append-nil l.notes) refl

-- one group of words
pub one-group : (e : FillEdge) (items : List Item) → groups_laid e (words items ∷ []) ≡ words_laid e items
unfolding groups_laid
one-group e items = seq-nothing (words_laid e items)

-- a group of words, by its words and what waits after them
pub laid-by : (e : FillEdge) (items : List Item) (w : OpenWord) (all : RowWords) → word_after_items e.sheet.literal e.word items ≡ w
    → words_of e.output e.sheet.literal (length e.sheet.cells == 0) e.word items ≡ all → words_laid e items ≡ next_edge e w (going_on e.sheet all)
unfolding words_laid
laid-by e items w all after is = rw (after, is) refl

text-append : (output : Output) (xs ys : List ℕ) (font : Font) (place : Place)
    → text_content output (xs ++ ys) font place ≡ text_content output xs font place ++ text_content output ys font place
unfolding text_content
text-append output [] ys font place = refl
text-append output (c ∷ cs) ys font place = grind (arith, append_assoc, text-append output cs ys font place)

-- ---- glued texts

empty-text : (output : Output) (cs : List ℕ) (font : Font) (place : Place) → (length cs == 0) ≡ true → text_content output cs font place ≡ []
unfolding text_content
empty-text output [] font place z = refl
empty-text output (c ∷ cs) font place z = let full : (length (c ∷ cs) == 0) ≡ false = grind (arith, nat_tests) in absurd (let q : false ≡ true = sym full ∙ z in cc)

-- two texts with blanks and glue between
abbrev two : List ℕ → List ℕ → Font → Place → ℕ → Bool → List Item
two a b font place n has_tab = shown (Text a font place) ∷ shown (Blank n has_tab) ∷ shown Glue ∷ shown (Text b font place) ∷ []

abbrev whole : List ℕ → Font → Place → List Item
whole a font place = shown (Text a font place) ∷ []

whole-after : (literal : Bool) (w : OpenWord) (a : List ℕ) (font : Font) (place : Place) → w.is_joined ≡ false → (length (characters_of a) == 0) ≡ false
    → word_after_items literal w (whole a font place) ≡ begun_word (w.has_tab && not literal)
unfolding word_after_items
whole-after literal w a font place new some = rw (some, new) refl

two-after : (literal : Bool) (w : OpenWord) (a b : List ℕ) (font : Font) (place : Place) (n : ℕ) (has_tab : Bool) → w.is_joined ≡ false → (length (characters_of a) == 0) ≡ false
    → word_after_items literal w (two a b font place n has_tab) ≡ begun_word (w.has_tab && not literal)
unfolding word_after_items
two-after literal w a b font place n has_tab new some = grind arith

-- a word of this content
abbrev one_of : Bool → Bool → OpenWord → Place → List CellOrNote → RowWords
one_of literal empty w place content = record { first = []; later = word_of literal empty w place content ∷ [] }

whole-words : (output : Output) (literal empty : Bool) (w : OpenWord) (a : List ℕ) (font : Font) (place : Place) → w.is_joined ≡ false → (length (characters_of a) == 0) ≡ false
    → words_of output literal empty w (whole a font place) ≡ one_of literal empty w place (text_content output (characters_of a) font place)
unfolding words_of
whole-words output literal empty w a font place new some = grind (arith, append-nil)

two-words : (output : Output) (literal empty : Bool) (w : OpenWord) (a b : List ℕ) (font : Font) (place : Place) (n : ℕ) (has_tab : Bool) → w.is_joined ≡ false → (length (characters_of a) == 0) ≡ false
    → words_of output literal empty w (two a b font place n has_tab)
    ≡ one_of literal empty w place (text_content output (characters_of a) font place ++ text_content output (characters_of b) font place)
unfolding words_of
two-words output literal empty w a b font place n has_tab new some = grind (arith, empty-text, append-nil)

some-append : (xs ys : List ℕ) → (length xs == 0) ≡ false → (length (xs ++ ys) == 0) ≡ false
some-append [] ys h = absurd (let q : true ≡ false = h in cc)
some-append (x ∷ xs) ys h = grind (arith, nat_tests)

chars-nonempty : (bytes : List ℕ) → IsUtf8 bytes → 0 < length bytes → (length (characters_of bytes) == 0) ≡ false
chars-nonempty bytes u some = let e : (length bytes == 0) ≡ false = grind (arith, nat_tests) in rw (characters_of-text bytes u) (chars-empty bytes u ∙ e)

pub glued-texts : (e : FillEdge) (a b : List ℕ) (font : Font) (place : Place) (n : ℕ) (has_tab : Bool) → e.word.is_joined ≡ false → IsUtf8 a → IsUtf8 b → 0 < length a
    → filled e (shown (Text a font place) ∷ shown (Blank n has_tab) ∷ shown Glue ∷ shown (Text b font place) ∷ []) ≡ filled e (shown (Text (a ++ b) font place) ∷ [])
unfolding groups
glued-texts e a b font place n has_tab new u v some =
    let literal = e.sheet.literal in
    let empty = length e.sheet.cells == 0 in
    let w = begun_word (e.word.has_tab && not literal) in
    let first = chars-nonempty a u some in
    let both : characters_of (a ++ b) ≡ characters_of a ++ characters_of b =
    rw (characters_of-text a u, characters_of-text b v, characters_of-text (a ++ b) (IsUtf8-append a b u v)) (chars-append a b u) in
    let more : (length (characters_of (a ++ b)) == 0) ≡ false = rw both (some-append (characters_of a) (characters_of b) first) in
    let content = text_content e.output (characters_of a) font place ++ text_content e.output (characters_of b) font place in
    let same : text_content e.output (characters_of (a ++ b)) font place ≡ content =
    ap (λ cs. text_content e.output cs font place) both ∙ text-append e.output (characters_of a) (characters_of b) font place in
    let all = one_of literal empty e.word place content in
    one-group e (two a b font place n has_tab)
    ∙ (laid-by e (two a b font place n has_tab) w all (two-after literal e.word a b font place n has_tab new first) (two-words e.output literal empty e.word a b font place n has_tab new first)
    ∙ (sym (laid-by e (whole (a ++ b) font place) w all (whole-after literal e.word (a ++ b) font place new more)
    (whole-words e.output literal empty e.word (a ++ b) font place new more ∙ ap (one_of literal empty e.word place) same))
    ∙ sym (one-group e (whole (a ++ b) font place))))

-- ---- Small rows, computed.

-- the start of a page of so many columns
abbrev at_start : ℕ → FillEdge
at_start width = record { sheet = fresh width; word = no_word; tag = None; set_in = None; output = Ascii }

abbrev one : ℕ → Piece (List ℕ)
one c = Char c R (record { line = 1; column = 1 })

abbrev letter_item : ℕ → Item
letter_item c = shown (one c)

abbrev rows_of : ℕ → List Item → List LaidRow
rows_of width items = (filling_of.filled (at_start width) items).rows

-- a word that fills the row exactly stays in it
exact_fit : rows_of 4 (letter_item 97 ∷ letter_item 98 ∷ shown (Blank 1 false) ∷ letter_item 99 ∷ shown Break ∷ []) ≡ row_of 0 (cells_of R (97 ∷ 98 ∷ 32 ∷ 99 ∷ [])) ∷ []
unfolding char_width first_word outcome filling words_of word_after_items words_laid other_laid groups groups_laid
exact_fit = refl

-- a paragraph between rows
one_blank_row : rows_of 4 (letter_item 97 ∷ shown (Para 1) ∷ shown (Para 1) ∷ letter_item 98 ∷ shown Break ∷ [])
    ≡ row_of 0 (cells_of R (97 ∷ [])) ∷ row_of 0 [] ∷ row_of 0 (cells_of R (98 ∷ [])) ∷ []
unfolding char_width first_word outcome filling words_of word_after_items words_laid other_laid groups groups_laid
one_blank_row = refl

-- a word of two glued parts goes to the next row, with its message; the break leaves no open row
by_words : (filling_of.filled (at_start 4) (letter_item 97 ∷ letter_item 98 ∷ shown (Blank 1 false) ∷ letter_item 99 ∷ noted (message_about notes.TabFill (record { line = 1; column = 1 }) []) ∷ shown Glue ∷ letter_item 100 ∷ shown Break ∷ []))
    ≡ record {
      rows = row_of 0 (cells_of R (97 ∷ 98 ∷ [])) ∷ row_of 0 (cells_of R (99 ∷ 100 ∷ [])) ∷ [];
      notes = message_about notes.TabFill (record { line = 1; column = 1 }) [] ∷ [];
      edge = record (at_start 4) { sheet = record (fresh 4) { blank_rows = 0; tag_columns = 5; tag_begun = true } };
    }
unfolding char_width first_word outcome filling words_of word_after_items words_laid other_laid groups groups_laid
by_words = refl

-- a heading, a tag with its text at the hang, and a kept row with a tab
by_pieces : (filling_of.filled (at_start 9) (letter_item 97 ∷ shown Heading ∷ shown (Indent 1 4) ∷ shown (Para 1) ∷ shown (Tag 3 forms.Row) ∷ letter_item 98 ∷ shown TagEnd ∷ letter_item 99
    ∷ shown Break ∷ shown (Literal true) ∷ letter_item 100 ∷ shown (Tab R (record { line = 1; column = 1 })) ∷ letter_item 101 ∷ shown RowEnd ∷ [])).rows
    ≡ row_of 0 (cells_of R (97 ∷ [])) ∷ row_of 1 (cells_of R (98 ∷ 32 ∷ 32 ∷ 99 ∷ [])) ∷ row_of 4 (cells_of R (100 ∷ 32 ∷ 32 ∷ 32 ∷ 32 ∷ 32 ∷ 32 ∷ 32 ∷ 101 ∷ [])) ∷ []
unfolding char_width first_word outcome filling words_of word_after_items words_laid content_laid other_laid groups groups_laid
by_pieces = refl

-- the row may end after a hyphen: what follows begins the next one
by_parts : (filling_of.filled (at_start 5) (letter_item 97 ∷ letter_item 98 ∷ shown (Blank 1 false) ∷ letter_item 99 ∷ letter_item 45 ∷ shown Split ∷ letter_item 100 ∷ shown Break ∷ [])).rows
    ≡ row_of 0 (cells_of R (97 ∷ 98 ∷ 32 ∷ 99 ∷ 45 ∷ [])) ∷ row_of 0 (cells_of R (100 ∷ [])) ∷ []
unfolding char_width first_word outcome filling words_of word_after_items words_laid other_laid groups groups_laid
by_parts = refl

-- ---- A text, with cells or without.

pub text-none : (e : FillEdge) (bytes : List ℕ) (font : Font) (place : Place) → IsUtf8 bytes → (length bytes == 0) ≡ true
    → text e (chars bytes) font place ≡ nothing (record e { word = opened_word e.word })
unfolding text
text-none e bytes font place u h = rw (chars-empty bytes u ∙ h) refl

pub text-some : (e : FillEdge) (bytes : List ℕ) (font : Font) (place : Place) → IsUtf8 bytes → (length bytes == 0) ≡ false
    → text e (chars bytes) font place ≡ seq (opening e place) (λ f. over (characters f.output f.sheet (chars bytes) font place) (on_sheet f))
unfolding text
text-some e bytes font place u h = rw (chars-empty bytes u ∙ h) refl
