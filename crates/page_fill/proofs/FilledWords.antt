-- Words fill rows as their marks do, one by one.
use Rattle.std.proofs.Common.{◌≡◌, ℕ, zero, suc, ◌+◌, ◌<◌, ◌≤◌, ◌==◌, true, false, List, [], ◌∷◌, ◌++◌, length, take, drop, map, replicate, inl, inr, refl, sym, ap, ◌∙◌, arith, append_assoc, length-append, length-drop, lit<, Bool, not, ◌&&◌, subst, append-nil, ◌⊎◌, ◌*◌, ◌-◌}
use Rattle.std.specs.Prelude.{if◌then◌else◌}
use Rattle.std.proofs.lemmas.List.{take-append-le, drop-append-le, map-append, length-replicate, replicate-append-replicate}
use Rattle.std.proofs.lemmas.Bool.{cases_Bool, and_parts}
use Rattle.std.proofs.lemmas.Bool.Decides.{nat_tests}
use Rattle.page_core_base.specs.declared.cells.Cell.{Cell}
use Rattle.page_core_base.specs.declared.places.Place.{Place}
use Rattle.page_core_base.specs.Messages.{Message}
use Rattle.page_core_base.specs.Rows.{join, seq, Laid, Item, nothing}
use Rattle.page_core_base.specs.declared.limits.TheConstants.{CELLS}
use Rattle.page_fill_rows.specs.OpenRows.{Sheet, with_notes, over}
use Rattle.page_fill_cells.specs.Cells.{blank, cell_of, cells_of}
use Rattle.page_fill_rows.specs.machine.Sheets.{passes, letter, space, given, begins, emptied, letters, opens, spaces}
use Rattle.page_fill_rows.specs.machine.Sheets as sheets
use Rattle.page_fill.proofs.MarkedPieces.{Mark, reported, opened, spaced, lettered, letters_of, printed_marks, character_marks, text_marks, tab_marks, blank_marks, opening_marks, is_of_words, piece_marks, step, run, run-append, AreStanding, with_word, piece-run, stands-after, sound-after, run-literal, seq-nothing}
use Rattle.page_fill.specs.Filled.{CellOrNote, shown, noted, RowWord, counted, with_cell, before_word, row_begun, row_ended, full_row_ended, first_word, WordOutcome, fits, too_wide, after_note, outcome, by_word, by_blanks, one_word, rest_of_word, filling}
use Rattle.page_fill.specs.machine.Words.{is_wide}
use Rattle.page_fill_rows.specs.laws.Views.{IsHeld, characters}
use Rattle.page_fill.proofs.WordRunLemmas.{letter-held, space-held, opens-held}
use Rattle.page_core_base.specs.declared.cells.Font.{Font}
use Rattle.page_core_base.specs.declared.page_settings.Output.{Output}
use Rattle.page_core_base.specs.declared.pieces.Piece.{Piece}
use Rattle.page_core_base.specs.declared.pieces.Piece.TheVariants.{Text, Glyph, Char, Tab, Split}
use Rattle.page_core_base.specs.Rows as items
use Rattle.page_core_tables.specs.Glyphs.{Printing, char_printed}
use Rattle.page_fill.specs.declared.edges.OpenWord.{OpenWord}
use Rattle.page_fill.specs.declared.edges.FillEdge.{FillEdge}
use Rattle.page_fill.specs.machine.Fill.{laid_piece, text, one_character, opening, on_sheet, laid}
use Rattle.page_fill.specs.Words.{cell_content, printed_content, text_content, tab_content, RowWords, and_then, words_from, words_of, word_after_items, next_edge, going_on, words_laid, word_after, begun_word}
use Rattle.page_fill.specs.machine.Items.{laid_items}
use Rattle.page_fill.specs.laws.Views.{is_sound}
use Rattle.page_fill_rows.specs.machine.Plain.{has_part_room, has_word_room, spaced_by, taken}
use Rattle.page_core_base.specs.laws.Views.{is_printable_ascii, join_assoc}
use Rattle.page_fill_rows.proofs.PlainLemmas.{characters-plain, letters-fits, spaces-fit, characters_of-plain}
use Rattle.std.specs.List.{list_all}
use Rattle.page_fill_cells.specs.machine.BlankRuns.{is_blank_byte}
use Rattle.page_fill_cells.proofs.BlankRunLemmas.{blanks-plain, count-blank, count-cells}
use Rattle.page_fill_rows.proofs.CharacterLemmas.{letters-append}

abbrev pub mark_of : CellOrNote → Mark
mark_of (shown cell place) = lettered cell place
mark_of (noted m) = reported m

abbrev pub marks_of : List CellOrNote → List Mark
marks_of content = map mark_of content

-- no row is open
abbrev pub closed : Sheet → Sheet
closed s = record s { cells = []; gap = 0; word = 0 }

-- where a row of these cells has ended
abbrev pub ended : Sheet → List Cell → Sheet
ended s cells = (row_ended s cells).edge

-- the cells of the last word
abbrev pub of_word : Sheet → List Cell
of_word s = drop s.word s.cells

-- the next row with these cells, none where it has not begun
abbrev pub started : Sheet → List Cell → Sheet
started s cells = if length cells == 0 then s else row_begun s cells

-- ---- a row's first word

pub first-run : (s : Sheet) (content : List CellOrNote) → s.gap ≡ 0 → run s (marks_of content) ≡ first_word s content
unfolding run first_word letter
first-run s [] first = refl
first-run s (noted m ∷ content) first = ap (with_notes (m ∷ [])) (first-run s content first)
first-run s (shown cell place ∷ content) first =
    let stays : passes (sheets.counted s cell) cell ≡ false = rw first (grind (arith, nat_tests)) in
    elim (cases_Bool (length s.cells == CELLS)) [
      | inl full ↦
          rw (stays, full) (ap (λ l. join (full_row_ended s s.cells place) l) (first-run (begins (given (sheets.counted s cell) s.cells) (cell ∷ [])) content refl))
      | inr room ↦ elim (cases_Bool (length s.cells == 0)) [
        | inl z ↦ rw (stays, room, z) (first-run (begins (sheets.counted s cell) (cell ∷ [])) content refl)
        | inr z ↦ rw (stays, room, z) (first-run (record (sheets.counted s cell) { cells = s.cells ++ cell ∷ [] }) content first)
      ]
    ]

-- ---- another word of a row

-- a row that begins with some cells and one more
more-begun : (s : Sheet) (front : List Cell) (cell : Cell) (content : List CellOrNote)
    → first_word (row_begun s (front ++ cell ∷ [])) content ≡ first_word (started s (front ++ cell ∷ [])) content
more-begun s front cell content = grind (arith, length-append)

-- there is one more cell
first-front : (s : Sheet) (front : List Cell) (cell : Cell) (place : Place) (content : List CellOrNote) → length front < CELLS
    → first_word (started (closed s) front) (shown cell place ∷ content) ≡ first_word (started (counted (closed s) cell) (front ++ cell ∷ [])) content
unfolding first_word
first-front s [] cell place content room = refl
first-front s (c ∷ cs) cell place content room = grind arith

note-first : (s : Sheet) (m : Message) (content : List CellOrNote) → with_notes (m ∷ []) (first_word s content) ≡ first_word s (noted m ∷ content)
unfolding first_word
note-first s m content = refl

by_word-note : (s : Sheet) (m : Message) (content : List CellOrNote) (o : WordOutcome)
    → with_notes (m ∷ []) (by_word s content o) ≡ by_word s (noted m ∷ content) (after_note m o)
by_word-note s m content (too_wide taken) = ap (λ l. join (row_ended s (before_word s)) l) (note-first (started (ended s (before_word s)) (of_word s)) m content)
by_word-note s m content _ = refl

-- in the midst of a word that is not its row's first
pub record IsInWord (s : Sheet) : Type 0 where
  pub later : 0 < s.gap
  pub gap_within : s.gap ≤ s.word
  pub word_within : s.word ≤ length s.cells
  pub bounded : length s.cells ≤ CELLS

passes-later : (s : Sheet) (cell : Cell) → 0 < s.gap → passes (sheets.counted s cell) cell ≡ is_wide s cell
passes-later s cell later = grind arith

passes-blank : (s : Sheet) → 0 < s.gap → passes s blank ≡ is_wide s blank
passes-blank s later = passes-later s blank later

front-short : (s : Sheet) → IsInWord s → length (drop s.word s.cells) < CELLS
front-short s i = grind (arith, length-drop)

-- one more cell of the word
in-word-more : (s : Sheet) (cell : Cell) → IsInWord s → (length s.cells == CELLS) ≡ false → IsInWord (record (sheets.counted s cell) { cells = s.cells ++ cell ∷ [] })
in-word-more s cell i room = grind (arith, length-append)

wide-more : (s : Sheet) (cell : Cell) (place : Place) (content : List CellOrNote) (base front : List Cell) → base ≡ before_word s → front ≡ of_word s ++ cell ∷ []
    → length (of_word s) < CELLS
    → join (row_ended s base) (first_word (started (counted (ended s base) cell) front) content)
    ≡ join (row_ended s (before_word s)) (first_word (started (ended s (before_word s)) (of_word s)) (shown cell place ∷ content))
wide-more s cell place content base front same more room =
    rw (same, more) (ap (λ l. join (row_ended s (before_word s)) l) (sym (first-front (ended s (before_word s)) (of_word s) cell place content room)))

by_word-more : (s : Sheet) (cell : Cell) (place : Place) (content : List CellOrNote) (o : WordOutcome)
    → s.gap ≤ length s.cells → s.word ≤ length s.cells → length (of_word s) < CELLS
    → by_word (with_cell s cell) content o ≡ by_word s (shown cell place ∷ content) o
by_word-more s cell place content (too_wide taken) gap word room = grind (arith, wide-more, take-append-le, drop-append-le)
by_word-more s cell place content _ gap word room = refl

-- the cells of a word, from any of them on
pub word-run : (s : Sheet) (content : List CellOrNote) → IsInWord s → run s (marks_of content) ≡ by_word s content (outcome s content)
unfolding run outcome letter
word-run s [] i = refl
word-run s (noted m ∷ content) i = ap (with_notes (m ∷ [])) (word-run s content i) ∙ by_word-note s m content (outcome s content)
word-run s (shown cell place ∷ content) i =
    let wide = passes-later s cell i.later in
    let short = front-short s i in
    let some : (length s.cells == 0) ≡ false = grind (arith, nat_tests, i.later, i.gap_within, i.word_within) in
    let last = ended s (before_word s) in
    elim (cases_Bool (is_wide s cell)) [
      | inl w ↦
          let t = begins (given (sheets.counted s cell) (take s.gap s.cells)) (drop s.word s.cells ++ cell ∷ []) in
          rw (wide, w)
          (ap (λ l. join (row_ended s (before_word s)) l)
          (first-run t content refl ∙ (more-begun (counted last cell) (of_word s) cell content ∙ sym (first-front last (of_word s) cell place content short))))
      | inr w ↦ elim (cases_Bool (length s.cells == CELLS)) [
        | inl full ↦
            rw (wide, w, full)
            (ap (λ l. join (full_row_ended s s.cells place) l)
            (first-run (begins (given (sheets.counted s cell) s.cells) (cell ∷ [])) content refl ∙ sym (first-front (ended s s.cells) [] cell place content (lit< tt))))
        | inr room ↦
            rw (wide, w, room, some)
            (word-run (record (sheets.counted s cell) { cells = s.cells ++ cell ∷ [] }) content (in-word-more s cell i room)
            ∙ by_word-more s cell place content (outcome (with_cell s cell) content) (omega (arith, i.gap_within, i.word_within)) i.word_within short)
      ]
    ]

-- ---- the blanks before it

-- no row is open: blanks are dropped
no-blanks : (s : Sheet) (n : ℕ) (place : Place) (ms : List Mark) → (length s.cells == 0) ≡ true → run s (replicate n (spaced place) ++ ms) ≡ run s ms
unfolding run space
no-blanks s zero place ms none = refl
no-blanks s (suc n) place ms none = rw none (no-blanks s n place ms none)

-- one more blank
in-blanks-more : (s : Sheet) → IsInWord s → (length s.cells == CELLS) ≡ false
    → IsInWord (record (sheets.counted s blank) { cells = s.cells ++ blank ∷ []; word = length s.cells + 1 })
in-blanks-more s i room = grind (arith, length-append)

-- the row before its blanks, of which the word's place is known after them alone
abbrev pub with_place : Sheet → ℕ → Sheet
with_place s word = record s { word = word }

blanks-end : (s : Sheet) (content : List CellOrNote) (w : ℕ) → s.word ≡ length s.cells
    → by_word s content (outcome s content) ≡ by_blanks content (fits [] (with_place s w))
blanks-end s content w at_end = ap (λ (n : ℕ). by_word (with_place s n) content (outcome (with_place s n) content)) at_end

pub blanks-run : (s : Sheet) (n : ℕ) (place : Place) (content : List CellOrNote) (w : ℕ) → IsInWord s → s.word ≡ length s.cells
    → run s (replicate n (spaced place) ++ marks_of content) ≡ by_blanks content (outcome (with_place s w) (replicate n (shown blank place)))
unfolding run outcome space
blanks-run s zero place content w i at_end = word-run s content i ∙ blanks-end s content w at_end
blanks-run s (suc n) place content w i at_end =
    let wide = passes-blank s i.later in
    let some : (length s.cells == 0) ≡ false = grind (arith, nat_tests, i.later, i.gap_within, i.word_within) in
    let last = emptied (given s (take s.gap s.cells)) in
    elim (cases_Bool (is_wide s blank)) [
      | inl p ↦ rw (some, wide, p) (ap (λ l. join (row_ended s (before_word s)) l) (no-blanks last n place (marks_of content) refl ∙ first-run last content refl))
      | inr p ↦ elim (cases_Bool (length s.cells == CELLS)) [
        | inl full ↦ rw (some, wide, p, full) (ap (λ l. join (full_row_ended s (before_word s) place) l) (no-blanks last n place (marks_of content) refl ∙ first-run last content refl))
        | inr room ↦
            let t : Sheet = record (sheets.counted s blank) { cells = s.cells ++ blank ∷ []; word = length s.cells + 1 } in
            let len : length (s.cells ++ blank ∷ []) ≡ length s.cells + 1 = length-append s.cells (blank ∷ []) in
            rw (some, wide, p, room) (blanks-run t n place content w (in-blanks-more s i room) (sym len))
      ]
    ]

-- ---- a word

abbrev pub word_marks : RowWord → List Mark
word_marks w = map reported w.notes ++ (opened ∷ (replicate w.blanks (spaced w.place) ++ marks_of w.content))

opened-in : (s : Sheet) → length s.cells ≤ CELLS → (length s.cells == 0) ≡ false → IsInWord (sheets.opens s)
opened-in s bound some = record { later = grind (arith, nat_tests, some); gap_within = omega arith; word_within = omega arith; bounded = bound }

one-word-run : (s : Sheet) (w : RowWord) → length s.cells ≤ CELLS
    → run s (opened ∷ (replicate w.blanks (spaced w.place) ++ marks_of w.content)) ≡ one_word s w
unfolding run
one-word-run s w bound = elim (cases_Bool (length s.cells == 0)) [
  | inl z ↦
      let gap : length s.cells ≡ 0 = grind (arith, nat_tests, z) in
      rw z (no-blanks (sheets.opens s) w.blanks w.place (marks_of w.content) z ∙ first-run (sheets.opens s) w.content gap)
  | inr z ↦ rw z (blanks-run (sheets.opens s) w.blanks w.place w.content (length s.cells) (opened-in s bound z) refl)
]

-- ---- words one after another

step-held : (s : Sheet) (m : Mark) → IsHeld s → IsHeld (step s m).edge
step-held s (reported m) h = h
step-held s opened h = opens-held s h
step-held s (spaced place) h = space-held s place h
step-held s (lettered cell place) h = letter-held s cell place h

pub run-held : (s : Sheet) (ms : List Mark) → IsHeld s → IsHeld (run s ms).edge
unfolding run
run-held s [] h = h
run-held s (m ∷ ms) h = run-held (step s m).edge ms (step-held s m h)

notes-run : (s : Sheet) (notes : List Message) (ms : List Mark) → run s (map reported notes ++ ms) ≡ with_notes notes (run s ms)
unfolding run
notes-run s [] ms = refl
notes-run s (m ∷ notes) ms = ap (with_notes (m ∷ [])) (notes-run s notes ms)

abbrev pub words_marks : List RowWord → List Mark
words_marks [] = []
words_marks (w ∷ ws) = word_marks w ++ words_marks ws

pub filling-run : (s : Sheet) (ws : List RowWord) → IsHeld s → run s (words_marks ws) ≡ filling s ws
unfolding run filling
filling-run s [] h = refl
filling-run s (w ∷ ws) h =
    let ms = opened ∷ (replicate w.blanks (spaced w.place) ++ marks_of w.content) in
    let x = run s ms in
    ap (run s) (append_assoc (map reported w.notes) ms (words_marks ws))
    ∙ (notes-run s w.notes (ms ++ words_marks ws)
    ∙ ap (with_notes w.notes)
    (run-append s ms (words_marks ws)
    ∙ (ap (λ l. join x l) (filling-run x.edge ws (run-held s ms h)) ∙ ap (λ l. seq l (λ t. filling t ws)) (one-word-run s w h.bounded))))

-- ---- from any open row

pub rest-run : (s : Sheet) (content : List CellOrNote) → IsHeld s → run s (marks_of content) ≡ rest_of_word s content
rest-run s content h = grind (arith, first-run, word-run)

-- ---- The words of pieces are their marks, and so pieces fill rows as their words do.

-- ---- marks of cells and messages

pub cell-marks : (place : Place) (cells : List Cell) → letters_of place cells ≡ marks_of (cell_content place cells)
cell-marks place [] = refl
cell-marks place (cell ∷ cells) = ap (λ ms. lettered cell place ∷ ms) (cell-marks place cells)

noted-marks : (notes : List Message) → map reported notes ≡ marks_of (map noted notes)
noted-marks [] = refl
noted-marks (m ∷ notes) = ap (λ ms. reported m ∷ ms) (noted-marks notes)

printed-marks : (p : Printing) (font : Font) (place : Place) → printed_marks p font place ≡ marks_of (printed_content p font place)
printed-marks p font place = grind (arith, noted-marks, cell-marks, map-append)

text-marks : (output : Output) (cs : List ℕ) (font : Font) (place : Place) → text_marks output cs font place ≡ marks_of (text_content output cs font place)
unfolding text_marks text_content character_marks
text-marks output [] font place = refl
text-marks output (c ∷ cs) font place = grind (arith, printed-marks, map-append, text-marks output cs font place)

tab-part-marks : (is_reported : Bool) (font : Font) (place : Place) → tab_marks (not is_reported) place ++ lettered (cell_of font 32) place ∷ [] ≡ marks_of (tab_content is_reported font place)
tab-part-marks is_reported font place = grind arith

-- ---- marks of words

abbrev pub all_marks : RowWords → List Mark
all_marks words = marks_of words.first ++ words_marks words.later

blanks-marks : (n : ℕ) (place : Place) (content : List CellOrNote) → letters_of place (replicate n blank) ++ marks_of content ≡ marks_of (cell_content place (replicate n blank) ++ content)
blanks-marks n place content = grind (arith, cell-marks, map-append)

word-of-marks : (stands : Bool) (notes : List Message) (n : ℕ) (place : Place) (content : List CellOrNote)
    → map reported notes ++ (opened ∷ (blank_marks stands n place ++ marks_of content))
    ≡ word_marks (if stands then record { notes = notes; blanks = 0; place = place; content = cell_content place (replicate n blank) ++ content } else record { notes = notes; blanks = n; place = place; content = content })
word-of-marks true notes n place content = ap (λ ms. map reported notes ++ (opened ∷ ms)) (blanks-marks n place content)
word-of-marks false notes n place content = refl

pub and-then-marks : (literal empty : Bool) (w : OpenWord) (place : Place) (ms : List Mark) (content : List CellOrNote) (rest : RowWords) → ms ≡ marks_of content
    → (opening_marks literal empty w place ++ ms) ++ all_marks rest ≡ all_marks (and_then literal empty w place content rest)
and-then-marks literal empty w place ms content rest is = grind (arith, map-append, append_assoc, word-of-marks)

char-marks : (output : Output) (c : ℕ) (font : Font) (place : Place) → character_marks output c font place ≡ marks_of (printed_content (char_printed output c) font place)
unfolding character_marks
char-marks output c font place = printed-marks (char_printed output c) font place

piece-words : (output : Output) (literal empty : Bool) (w : OpenWord) (p : Piece (List ℕ)) (rest : RowWords)
    → piece_marks output literal empty w p ++ all_marks rest ≡ all_marks (words_from output literal empty w p rest)
piece-words output literal empty w (Text bytes font place) rest = grind (arith, and-then-marks, text-marks)
piece-words output literal empty w (Glyph name font place) rest = grind (arith, and-then-marks, printed-marks)
piece-words output literal empty w (Char c font place) rest = grind (arith, and-then-marks, char-marks)
piece-words output literal empty w (Tab font place) rest = grind (arith, and-then-marks, tab-part-marks)
piece-words output literal empty w Split rest = elim (cases_Bool (w.is_joined && not literal)) [ inl b ↦ rw b refl | inr b ↦ rw b refl ]
piece-words output literal empty w _ rest = refl

-- ---- words from an edge

words-run : (s : Sheet) (words : RowWords) → IsHeld s → run s (all_marks words) ≡ going_on s words
words-run s words h = grind (arith, run-append, filling-run, run-held, rest-run)

-- what marks do is what the words do on the whole edge
pub edge-run : (e : FillEdge) (w : OpenWord) (words : RowWords) → IsHeld e.sheet
    → over (run e.sheet (all_marks words)) (with_word e w) ≡ next_edge e w (going_on e.sheet words)
edge-run e w words h = ap (next_edge e w) (words-run e.sheet words h)

-- ---- items

-- all of them are of words
abbrev pub are_items_of_words : Bool → List Item → Bool
are_items_of_words literal [] = true
are_items_of_words literal (items.noted m ∷ more) = are_items_of_words literal more
are_items_of_words literal (items.shown p ∷ more) = is_of_words literal p && are_items_of_words literal more

pub items-run : (e : FillEdge) (literal empty : Bool) (list : List Item) → e.sheet.literal ≡ literal → is_sound e.word ≡ true → AreStanding e empty → are_items_of_words literal list ≡ true
    → laid_items e list ≡ over (run e.sheet (all_marks (words_of e.output literal empty e.word list))) (with_word e (word_after_items literal e.word list))
unfolding laid_items words_of word_after_items run
items-run e literal empty [] same h stand k = refl
items-run e literal empty (items.noted m ∷ more) same h stand k = ap (λ (l : Laid FillEdge). with_notes (m ∷ []) l) (items-run e literal empty more same h stand k)
items-run e literal empty (items.shown p ∷ more) same h stand k =
    let content = and_parts (is_of_words literal p) (are_items_of_words literal more) k in
    let ms = piece_marks e.output literal empty e.word p in
    let x = run e.sheet (piece_marks e.output literal empty e.word p) in
    let w = word_after literal e.word p in
    let rest = words_of e.output literal empty (word_after literal e.word p) more in
    let Runs : Bool → Type 0 = λ b. laid_piece e p ≡ over (run e.sheet (piece_marks e.output b empty e.word p)) (with_word e (word_after b e.word p)) in
    let Fits : Bool → Type 0 = λ b. is_of_words b p ≡ true in
    let Stands : Bool → Type 0 = λ b. AreStanding (with_word e (word_after b e.word p) (run e.sheet (piece_marks e.output b empty e.word p)).edge) empty in
    let first = subst Runs same (piece-run e empty p stand (subst Fits (sym same) content.0)) in
    let still = subst Stands same (stands-after e empty p h stand) in
    let later = items-run (with_word e w x.edge) literal empty more (run-literal e.sheet ms ∙ same) (sound-after literal e.word p h) still content.1 in
    ap (λ (l : Laid FillEdge). seq l (λ f. laid_items f more)) first
    ∙ (ap (λ (l : Laid FillEdge). join (over x (with_word e w)) l) later
    ∙ (ap (λ l. over l (with_word e (word_after_items literal w more))) (sym (run-append e.sheet ms (all_marks rest)))
    ∙ ap (λ l. over (run e.sheet l) (with_word e (word_after_items literal w more))) (piece-words e.output literal empty e.word p rest)))

pub words-law : (e : FillEdge) (list : List Item) → IsHeld e.sheet → is_sound e.word ≡ true → are_items_of_words e.sheet.literal list ≡ true → laid_items e list ≡ words_laid e list
unfolding words_laid
words-law e list h sound k =
    let literal = e.sheet.literal in
    let empty = length e.sheet.cells == 0 in
    items-run e literal empty list refl sound refl k ∙ edge-run e (word_after_items literal e.word list) (words_of e.output literal empty e.word list) h

-- ---- A plain text, one that goes on with the last word of the open row, a character, and the blanks before a word.

pub text-plain : (e : FillEdge) (bytes : List ℕ) (font : Font) (place : Place) → is_printable_ascii bytes ≡ true → (length bytes == 0) ≡ false
    → text e bytes font place
    ≡ join (opening e place) (over (letters (opening e place).edge.sheet (cells_of font bytes) place) (on_sheet (opening e place).edge))
unfolding text
text-plain e bytes font place plain some = grind (arith, characters-plain)

-- ---- a text that goes on with the row's last word

pub text-part : (e : FillEdge) (bytes : List ℕ) (font : Font) (place : Place) → is_printable_ascii bytes ≡ true → (length bytes == 0) ≡ false
    → e.word.is_joined ≡ true → has_part_room e.sheet (length bytes) ≡ true
    → text e bytes font place ≡ nothing (on_sheet e (taken e.sheet (cells_of font bytes)))
unfolding opening
text-part e bytes font place plain some joined room = grind (arith, text-plain, letters-fits)

-- ---- a character

pub character-text : (e : FillEdge) (c : ℕ) (font : Font) (place : Place) → one_character e c font place ≡ text e (c ∷ []) font place
unfolding one_character text characters
character-text e c font place = grind (arith, append-nil)

-- ---- the blanks before a word

pub opening-fits : (e : FillEdge) (m n : ℕ) (place : Place) → e.word.is_joined ≡ false → e.word.has_tab ≡ false → e.word.blanks ≡ suc m
    → has_word_room e.sheet (suc m) n ≡ true → opening e place ≡ nothing (record e { sheet = spaced_by e.sheet (suc m); word = begun_word false })
unfolding opening
opening-fits e m n place joined tab is room = grind (arith, spaces-fit)

pub opening-one : (e : FillEdge) (place : Place) → e.word.is_joined ≡ false → e.word.has_tab ≡ false → e.word.blanks ≡ 1 → e.sheet.literal ≡ false
    → (length e.sheet.cells == 0) ≡ false → opening e place ≡ over (space (opens e.sheet) place) (λ s. record e { sheet = s; word = begun_word false })
unfolding opening spaces
opening-one e place joined tab one literal some = grind (arith, append-nil)

-- ---- Texts of blanks next to one another, which are put together.

-- bytes that are blanks are a count of them
pub blanks-bytes : (bytes : List ℕ) → list_all is_blank_byte bytes ≡ true → bytes ≡ replicate (length bytes) 32
blanks-bytes [] all = refl
blanks-bytes (b ∷ bytes) all =
    let first : b ≡ 32 = grind (arith, nat_tests, all) in
    let others : list_all is_blank_byte bytes ≡ true = grind (arith, all) in
    rw first (ap (λ rest. 32 ∷ rest) (blanks-bytes bytes others))

-- a text of a count of blanks
pub blanks-some : (e : FillEdge) (n : ℕ) (font : Font) (place : Place) → (n == 0) ≡ false
    → text e (replicate n 32) font place
    ≡ join (opening e place) (over (letters (opening e place).edge.sheet (replicate n (cell_of font 32)) place) (on_sheet (opening e place).edge))
blanks-some e n font place some = grind (arith, length-replicate, count-cells, text-plain, blanks-plain, count-blank)

-- ---- one text after another

joined-then : (e : FillEdge) (place : Place) → (opening e place).edge.word.is_joined ≡ true
unfolding opening
joined-then e place = elim (cases_Bool e.word.is_joined) [ inl is ↦ rw is refl | inr new ↦ rw new refl ]

pub goes-on : (e : FillEdge) (place : Place) → e.word.is_joined ≡ true → opening e place ≡ nothing e
unfolding opening
goes-on e place is = rw is refl

-- the second of two texts of blanks goes on with the word of the first
blanks-after : (e : FillEdge) (cells : ℕ) (font : Font) (place : Place) → (cells == 0) ≡ false → e.word.is_joined ≡ true
    → text e (replicate cells 32) font place ≡ over (letters e.sheet (replicate cells (cell_of font 32)) place) (on_sheet e)
blanks-after e cells font place some is = blanks-some e cells font place some ∙ rw (goes-on e place is) refl

both-texts : (e : FillEdge) (m n : ℕ) (font : Font) (place : Place) → (m == 0) ≡ false → (n == 0) ≡ false
    → text e (replicate (m + n) 32) font place
    ≡ join (text e (replicate m 32) font place) (text (text e (replicate m 32) font place).edge (replicate n 32) font place)
both-texts e m n font place some more =
    let o = opening e place in
    let f = o.edge in
    let cell = cell_of font 32 in
    let first = letters f.sheet (replicate m cell) place in
    let second = letters first.edge (replicate n cell) place in
    let sum : (m + n == 0) ≡ false = grind (arith, nat_tests, some, more) in
    let cells : letters f.sheet (replicate (m + n) cell) place ≡ join first second =
    ap (λ cs. letters f.sheet cs place) (sym (replicate-append-replicate m n cell)) ∙ letters-append f.sheet (replicate m cell) (replicate n cell) place in
    let whole : text e (replicate (m + n) 32) font place ≡ join o (over (join first second) (on_sheet f)) =
    blanks-some e (m + n) font place sum ∙ ap (λ (l : Laid Sheet). join o (over l (on_sheet f))) cells in
    let next : text (on_sheet f first.edge) (replicate n 32) font place ≡ over second (on_sheet f) =
    blanks-after (on_sheet f first.edge) n font place more (joined-then e place) in
    let front = blanks-some e m font place some in
    rw (front, next) (whole ∙ sym (join_assoc o (over first (on_sheet f)) (over second (on_sheet f))))

-- ---- as many texts

-- without a blank they are the first one
twice-none : (e : FillEdge) (font : Font) (place : Place) → join (text e [] font place) (text (text e [] font place).edge [] font place) ≡ text e [] font place
unfolding text
twice-none e font place = refl

abbrev blanks_piece : ℕ → Font → Place → Piece (List ℕ)
blanks_piece count font place = Text (replicate count 32) font place

one-piece : (e : FillEdge) (count : ℕ) (font : Font) (place : Place) → laid_piece e (blanks_piece count font place) ≡ text e (replicate count 32) font place
unfolding laid_piece
one-piece e count font place = grind (arith, characters_of-plain, blanks-plain, count-blank)

one-more : (k count : ℕ) → suc k * count ≡ count + k * count
one-more k count = grind arith

first-others : (e : FillEdge) (k count : ℕ) (font : Font) (place : Place) → ((count == 0) ≡ true) ⊎ ((count == 0) ≡ false)
    → join (text e (replicate count 32) font place) (text (text e (replicate count 32) font place).edge (replicate (suc k * count) 32) font place)
    ≡ text e (replicate (suc (suc k) * count) 32) font place
first-others e k count font place (inl none) = grind (arith, twice-none)
first-others e k count font place (inr some) = grind (arith, one-more, both-texts)

pub texts-together : (e : FillEdge) (k count : ℕ) (font : Font) (place : Place)
    → laid e (replicate (suc k) (blanks_piece count font place)) ≡ text e (replicate (suc k * count) 32) font place
unfolding laid
texts-together e zero count font place = grind (arith, seq-nothing, one-piece)
texts-together e (suc k) count font place =
    let first = text e (replicate count 32) font place in
    let others = texts-together first.edge k count font place in
    let step : laid e (replicate (suc (suc k)) (blanks_piece count font place)) ≡ join first (text first.edge (replicate (suc k * count) 32) font place) =
    ap (λ (l : Laid FillEdge). seq l (λ f. laid f (replicate (suc k) (blanks_piece count font place)))) (one-piece e count font place) ∙ ap (λ (l : Laid FillEdge). join first l) others in
    step ∙ first-others e k count font place (cases_Bool (count == 0))

-- ---- some of them, and the others

pub laid-append : (e : FillEdge) (front back : List (Piece (List ℕ))) → laid e (front ++ back) ≡ join (laid e front) (laid (laid e front).edge back)
unfolding laid
laid-append e [] back = refl
laid-append e (piece ∷ front) back =
    let first = laid_piece e piece in
    let others = laid first.edge front in
    ap (λ (l : Laid FillEdge). join first l) (laid-append first.edge front back) ∙ sym (join_assoc first others (laid others.edge back))

pub texts-parted : (e : FillEdge) (times part count : ℕ) (font : Font) (place : Place) → 0 < part → part ≤ times
    → laid e (replicate times (blanks_piece count font place))
    ≡ join (text e (replicate (part * count) 32) font place)
    (laid (text e (replicate (part * count) 32) font place).edge (replicate (times - part) (blanks_piece count font place)))
texts-parted e times part count font place some within =
    let piece = blanks_piece count font place in
    let sum : part + (times - part) ≡ times = omega arith in
    let is : suc (part - 1) ≡ part = omega arith in
    let together : laid e (replicate part piece) ≡ text e (replicate (part * count) 32) font place =
    ap (λ (k : ℕ). laid e (replicate k piece)) (sym is)
    ∙ (texts-together e (part - 1) count font place ∙ ap (λ (k : ℕ). text e (replicate (k * count) 32) font place) is) in
    let parts = replicate-append-replicate part (times - part) piece ∙ ap (λ (k : ℕ). replicate k piece) sum in
    ap (laid e) (sym parts)
    ∙ (laid-append e (replicate part piece) (replicate (times - part) piece)
    ∙ ap (λ (l : Laid FillEdge). join l (laid l.edge (replicate (times - part) piece))) together)
