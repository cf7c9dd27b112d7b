-- What a word does to a row: the row takes it where it fits, and else ends before it.
use Rattle.std.proofs.Common.{◌≡◌, ap, ◌∙◌, ℕ, zero, suc, ◌+◌, ◌<◌, ◌≤◌, ◌==◌, min, Bool, true, false, List, [], ◌∷◌, ◌++◌, length, drop, replicate, inl, inr, refl, arith, append_assoc, append-nil, length-append}
use Rattle.std.specs.Prelude.{sum_by, if◌then◌else◌}
use Rattle.std.proofs.lemmas.Bool.{cases_Bool}
use Rattle.std.proofs.lemmas.Bool.Decides.{nat_tests}
use Rattle.std.proofs.lemmas.List.{length-replicate, take_at, drop_all}
use Rattle.std.proofs.lemmas.List.Sums.{sum_by-append, sum_by-cons}
use Rattle.unicode_width.specs.Width.{char_width}
use Rattle.page_core_base.specs.declared.cells.Cell.{Cell}
use Rattle.page_core_base.specs.declared.places.Place.{Place}
use Rattle.page_core_base.specs.Rows.{nothing}
use Rattle.page_core_base.specs.declared.limits.TheConstants.{CELLS}
use Rattle.page_fill_rows.specs.declared.TheConstants.{TAG_COLUMNS}
use Rattle.page_fill_rows.specs.OpenRows.{Sheet}
use Rattle.page_fill_cells.specs.Cells.{columns, cell_columns, blank}
use Rattle.page_fill.specs.Filled.{CellOrNote, shown, RowWord, opens, before_word, with_cell, row_ended, first_word, WordOutcome, fits, too_wide, outcome, by_word, by_blanks, one_word, noted, counted, row_begun, full_row_ended, too_many, after_note, rest_of_word, filling}
use Rattle.page_fill.specs.Words.{cell_content, RowWords, going_on}
use Rattle.page_fill.specs.machine.Words.{is_wide, tally, has_cell, tallied, fitting, with_word, word_wrapped, word_first}
use Rattle.page_core_base.specs.Messages.{Message}

columns-cons : (c : Cell) (cs : List Cell) → columns (c ∷ cs) ≡ cell_columns c + columns cs
columns-cons c cs = sum_by-cons cell_columns c cs

sum_by-nil : sum_by cell_columns [] ≡ 0
sum_by-nil = refl

columns-push : (cs : List Cell) (c : Cell) → columns (cs ++ c ∷ []) ≡ columns cs + cell_columns c
columns-push cs c = omega (arith, sum_by-append cell_columns cs (c ∷ []), sum_by-cons cell_columns c [], sum_by-nil)

pub columns-append : (xs ys : List Cell) → columns (xs ++ ys) ≡ columns xs + columns ys
columns-append xs ys = sum_by-append cell_columns xs ys

columns-blank : cell_columns blank ≡ 1
unfolding char_width
columns-blank = refl

pub columns-blanks : (n : ℕ) → columns (replicate n blank) ≡ n
unfolding char_width
columns-blanks zero = refl
columns-blanks (suc n) = omega (arith, columns-cons blank (replicate n blank), columns-blanks n, columns-blank)

-- ---- the open tag's count

tally-append : (n : ℕ) (xs ys : List Cell) → tally (tally n xs) ys ≡ tally n (xs ++ ys)
tally-append n [] ys = refl
tally-append n (c ∷ cs) ys = tally-append (min (n + cell_columns c) TAG_COLUMNS) cs ys

has_cell-append : (b : Bool) (xs ys : List Cell) → has_cell (has_cell b xs) ys ≡ has_cell b (xs ++ ys)
has_cell-append b [] ys = refl
has_cell-append b (c ∷ cs) ys = has_cell-append true cs ys

-- ---- cells

-- the row with more cells
abbrev pub more : Sheet → List Cell → Sheet
more s cells = record (tallied s cells) { cells = s.cells ++ cells }

not-wide : (s : Sheet) (c : Cell) → s.margin + columns s.cells + cell_columns c ≤ s.width → is_wide s c ≡ false
not-wide s c h = grind (arith, nat_tests)

within : (s : Sheet) (c : Cell) → s.literal ≡ false → is_wide s c ≡ false → s.margin + columns s.cells + cell_columns c ≤ s.width
within s c fill h = grind (arith, nat_tests)

not-full : (s : Sheet) → length s.cells < CELLS → (length s.cells == CELLS) ≡ false
not-full s room = grind (arith, nat_tests)

-- cells that fit
cells-fit : (s : Sheet) (cs : List Cell) (place : Place) → length s.cells + length cs ≤ CELLS → s.margin + columns s.cells + columns cs ≤ s.width
    → outcome s (cell_content place cs) ≡ fits [] (more s cs)
unfolding outcome
cells-fit s [] place room fit = rw (append-nil s.cells) refl
cells-fit s (c ∷ cs) place room fit =
    let here = not-wide s c (omega (arith, columns-cons c cs)) in
    let free = not-full s (omega arith) in
    let n = length-append s.cells (c ∷ []) in
    let rest = cells-fit (with_cell s c) cs place (omega arith) (omega (arith, columns-cons c cs, columns-push s.cells c)) in
    rw (here, free, rest, append_assoc) refl

-- cells of which one passes the width
pub record PassesAt (s : Sheet) (content : List CellOrNote) : Type 0 where
  pub taken : Sheet
  pub is : outcome s content ≡ too_wide taken

cells-pass : (s : Sheet) (cs : List Cell) (place : Place) → s.literal ≡ false → length s.cells + length cs ≤ CELLS
    → s.margin + columns s.cells ≤ s.width → s.width < s.margin + columns s.cells + columns cs → PassesAt s (cell_content place cs)
unfolding outcome
cells-pass s [] place fill room fit past = absurd (omega (arith, sum_by-nil))
cells-pass s (c ∷ cs) place fill room fit past = elim (cases_Bool (is_wide s c)) [
  | inl wide ↦ record { taken = s; is = rw wide refl }
  | inr here ↦
      let free = not-full s (omega arith) in
      let n = length-append s.cells (c ∷ []) in
      let still : s.margin + columns (s.cells ++ c ∷ []) ≤ s.width = omega (arith, columns-push s.cells c, within s c fill here) in
      let rest = cells-pass (with_cell s c) cs place fill (omega arith) still (omega (arith, columns-cons c cs, columns-push s.cells c)) in
      record { taken = rest.taken; is = rw (here, free) rest.is }
]

-- cells of a row's first word, which has begun
first-more : (s : Sheet) (cs : List Cell) (place : Place) → 0 < length s.cells → length s.cells + length cs ≤ CELLS
    → first_word s (cell_content place cs) ≡ nothing (more s cs)
unfolding first_word
first-more s [] place some room = rw (append-nil s.cells) refl
first-more s (c ∷ cs) place some room =
    let free = not-full s (omega arith) in
    let begun : (length s.cells == 0) ≡ false = grind (arith, nat_tests) in
    let n = length-append s.cells (c ∷ []) in
    let rest = first-more (with_cell s c) cs place (omega arith) (omega arith) in
    rw (free, begun, rest, append_assoc) refl

-- a word that begins a row
first-begins : (s : Sheet) (c : Cell) (cs : List Cell) (place : Place) → length s.cells ≡ 0 → length (c ∷ cs) ≤ CELLS
    → first_word s (cell_content place (c ∷ cs)) ≡ nothing (word_first s (c ∷ cs))
unfolding first_word
first-begins s c cs place none room = grind (arith, first-more)

-- ---- blanks before a word

blanks-shown : (n : ℕ) (place : Place) → replicate n (shown blank place) ≡ cell_content place (replicate n blank)
blanks-shown zero place = refl
blanks-shown (suc n) place = ap (λ l. shown blank place ∷ l) (blanks-shown n place)

blanks-fit : (s : Sheet) (n : ℕ) (place : Place) → length s.cells + n ≤ CELLS → s.margin + columns s.cells + n ≤ s.width
    → outcome s (replicate n (shown blank place)) ≡ fits [] (more s (replicate n blank))
blanks-fit s n place room fit = grind (arith, columns-blanks, length-replicate, blanks-shown, cells-fit)

-- blanks of which one passes the width, after those that fit
blanks-pass : (s : Sheet) (n k : ℕ) (place : Place) → s.literal ≡ false → length s.cells + n ≤ CELLS → k ≡ fitting s
    → k < n → outcome s (replicate n (shown blank place)) ≡ too_wide (more s (replicate k blank))
unfolding outcome
blanks-pass s zero k place fill room is past = absurd (omega arith)
blanks-pass s (suc n) zero place fill room is past = grind (arith, columns-blank, append-nil)
blanks-pass s (suc n) (suc k) place fill room is past =
    let here = not-wide s blank (omega (arith, columns-blank)) in
    let free = not-full s (omega arith) in
    let m = length-append s.cells (blank ∷ []) in
    let rest = blanks-pass (with_cell s blank) n k place fill (omega arith) (omega (arith, columns-push s.cells blank, columns-blank)) (omega arith) in
    rw (here, free, rest, append_assoc) refl

-- ---- a word with its blanks

-- a word of cells; messages about its blanks name one place, those about its cells another
abbrev pub apart : ℕ → List Cell → Place → Place → RowWord
apart n cells p q = record { notes = []; blanks = n; place = p; content = cell_content q cells }

not-empty : (s : Sheet) → 0 < length s.cells → (length s.cells == 0) ≡ false
not-empty s some = grind (arith, nat_tests)

word-begun : (s : Sheet) (n : ℕ) (cells : List Cell) (p q : Place) (o : WordOutcome) → 0 < length s.cells → outcome (opens s) (replicate n (shown blank p)) ≡ o
    → one_word s (apart n cells p q) ≡ by_blanks (cell_content q cells) o
word-begun s n cells p q o some is = let z = not-empty s some in rw (z, is) refl

-- the row with the blanks before its next word
abbrev pub gapped : Sheet → ℕ → Sheet
gapped s n = let full = more (opens s) (replicate n blank) in record full { word = length full.cells }

blanks-taken : (s : Sheet) (n : ℕ) (cells : List Cell) (p q : Place) → 0 < length s.cells → length s.cells + n ≤ CELLS
    → s.margin + columns s.cells + n ≤ s.width
    → one_word s (apart n cells p q) ≡ by_word (gapped s n) (cell_content q cells) (outcome (gapped s n) (cell_content q cells))
blanks-taken s n cells p q some room fit = grind (arith, word-begun, blanks-fit)

gapped-columns : (s : Sheet) (n : ℕ) → columns (s.cells ++ replicate n blank) ≡ columns s.cells + n
gapped-columns s n = omega (arith, columns-append s.cells (replicate n blank), columns-blanks n)

gapped-length : (s : Sheet) (n : ℕ) → length (s.cells ++ replicate n blank) ≡ length s.cells + n
gapped-length s n = omega (arith, length-append s.cells (replicate n blank), length-replicate n blank)

pub word-fits : (s : Sheet) (n : ℕ) (cells : List Cell) (p q : Place) → 0 < length s.cells → length s.cells + n + length cells ≤ CELLS
    → s.margin + columns s.cells + n + columns cells ≤ s.width → one_word s (apart n cells p q) ≡ nothing (with_word s n cells)
word-fits s n cells p q some room fit = grind (arith, gapped-columns, gapped-length, blanks-taken, cells-fit, append_assoc, tally-append, has_cell-append)

-- a word of which there is nothing in the row
row-left : (s : Sheet) (n : ℕ) → before_word (gapped s n) ≡ s.cells
row-left s n = take_at s.cells (replicate n blank) (length s.cells) refl

none-left : (s : Sheet) (n : ℕ) → drop (gapped s n).word (gapped s n).cells ≡ []
none-left s n = let k = gapped-length s n in drop_all (length (s.cells ++ replicate n blank)) (s.cells ++ replicate n blank) (omega arith)

word-passes : (s : Sheet) (n : ℕ) (c : Cell) (cs : List Cell) (p q : Place) → s.literal ≡ false → 0 < length s.cells
    → length s.cells + n + length (c ∷ cs) ≤ CELLS → s.margin + columns s.cells + n ≤ s.width
    → s.width < s.margin + columns s.cells + n + columns (c ∷ cs)
    → one_word s (apart n (c ∷ cs) p q) ≡ word_wrapped s n (c ∷ cs)
word-passes s n c cs p q fill some room fit past =
    let w = gapped-columns s n in
    let k = gapped-length s n in
    let step = blanks-taken s n (c ∷ cs) p q some (omega arith) (omega arith) in
    let pass = cells-pass (gapped s n) (c ∷ cs) q fill (omega arith) (omega arith) (omega arith) in
    let left = row-left s n in
    let none = none-left s n in
    let rest = first-begins (row_ended (gapped s n) s.cells).edge c cs q refl (omega arith) in
    step ∙ (ap (by_word (gapped s n) (cell_content q (c ∷ cs))) pass.is
    ∙ rw (left, none, rest) refl)

pub word-after_end : (s : Sheet) (n : ℕ) (c : Cell) (cs : List Cell) (p q : Place) → s.literal ≡ false → 0 < length s.cells → length s.cells + n ≤ CELLS
    → s.width < s.margin + columns s.cells + n → 0 < n → length (c ∷ cs) ≤ CELLS
    → one_word s (apart n (c ∷ cs) p q) ≡ word_wrapped s (fitting s) (c ∷ cs)
word-after_end s n c cs p q fill some room past blanks short = grind (arith, blanks-pass, word-begun, take_at, first-begins)

pub word-begins : (s : Sheet) (n : ℕ) (c : Cell) (cs : List Cell) (p q : Place) → length s.cells ≡ 0 → length (c ∷ cs) ≤ CELLS
    → one_word s (apart n (c ∷ cs) p q) ≡ nothing (word_first s (c ∷ cs))
word-begins s n c cs p q none room = grind (arith, first-begins)

pub passes-law : (s : Sheet) (n : ℕ) (cells : List Cell) (p q : Place) → s.literal ≡ false → 0 < length s.cells
    → length s.cells + n + length cells ≤ CELLS → s.margin + columns s.cells + n ≤ s.width
    → s.width < s.margin + columns s.cells + n + columns cells → one_word s (apart n cells p q) ≡ word_wrapped s n cells
passes-law s n [] p q fill some room fit past = absurd (omega (arith, sum_by-nil))
passes-law s n (c ∷ cs) p q fill some room fit past = word-passes s n c cs p q fill some room fit past

-- ---- Filling leaves the width of rows as it was.

first_width : (s : Sheet) (content : List CellOrNote) → (first_word s content).edge.width ≡ s.width
unfolding first_word
first_width s [] = refl
first_width s (noted m ∷ content) = first_width s content
first_width s (shown cell place ∷ content) =
    grind (arith, first_width (row_begun (counted (full_row_ended s s.cells place).edge cell) (cell ∷ [])) content, first_width (row_begun (counted s cell) (cell ∷ [])) content, first_width (with_cell s cell) content)

-- the width of the row that is left
abbrev HasWidth : ℕ → WordOutcome → Type 0
HasWidth w (fits notes taken) = taken.width ≡ w
HasWidth w (too_wide taken) = taken.width ≡ w
HasWidth w (too_many notes taken place left) = taken.width ≡ w

note_width : (w : ℕ) (m : Message) (o : WordOutcome) → HasWidth w o → HasWidth w (after_note m o)
note_width w m (fits notes taken) h = h
note_width w m (too_wide taken) h = h
note_width w m (too_many notes taken place left) h = h

outcome_width : (s : Sheet) (content : List CellOrNote) → HasWidth s.width (outcome s content)
unfolding outcome
outcome_width s [] = refl
outcome_width s (noted m ∷ content) = note_width s.width m (outcome s content) (outcome_width s content)
outcome_width s (shown cell place ∷ content) = grind (arith, outcome_width (with_cell s cell) content)

started_width : (s : Sheet) (cells : List Cell) → (if length cells == 0 then s else row_begun s cells).width ≡ s.width
started_width s cells = elim (cases_Bool (length cells == 0)) [ inl z ↦ rw z refl | inr z ↦ rw z refl ]

word_width : (s : Sheet) (content : List CellOrNote) (w : ℕ) (o : WordOutcome) → s.width ≡ w → HasWidth w o → (by_word s content o).edge.width ≡ w
word_width s content w (fits notes taken) same h = h
word_width s content w (too_wide taken) same h = first_width _ content ∙ (started_width _ (drop s.word s.cells) ∙ same)
word_width s content w (too_many notes taken place left) same h = first_width _ left ∙ h

blanks_width : (content : List CellOrNote) (w : ℕ) (o : WordOutcome) → HasWidth w o → (by_blanks content o).edge.width ≡ w
blanks_width content w (fits notes taken) h = grind (arith, word_width, outcome_width)
blanks_width content w (too_wide taken) h = first_width _ content ∙ h
blanks_width content w (too_many notes taken place left) h = first_width _ content ∙ h

one_width : (s : Sheet) (word : RowWord) → (one_word s word).edge.width ≡ s.width
one_width s word = grind (arith, first_width, blanks_width, outcome_width)

rest_width : (s : Sheet) (content : List CellOrNote) → (rest_of_word s content).edge.width ≡ s.width
rest_width s content = grind (arith, first_width, word_width, outcome_width)

filling_width : (s : Sheet) (words : List RowWord) → (filling s words).edge.width ≡ s.width
unfolding filling
filling_width s [] = refl
filling_width s (word ∷ words) = filling_width (one_word s word).edge words ∙ one_width s word

pub going_width : (s : Sheet) (words : RowWords) → (going_on s words).edge.width ≡ s.width
going_width s words = filling_width (rest_of_word s words.first).edge words.later ∙ rest_width s words.first
