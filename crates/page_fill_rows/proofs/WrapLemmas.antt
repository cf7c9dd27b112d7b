-- A plain word before which the open row ends.
use Rattle.std.proofs.Common.{◌≡◌, ℕ, suc, ◌+◌, ◌<◌, ◌≤◌, true, false, ◌==◌, List, [], ◌∷◌, ◌++◌, length, min, append_assoc, length-append, refl, ap, ◌∙◌, arith, inl, inr, ◌-◌, replicate, length-drop}
use Rattle.std.proofs.Math.Seq.{take-append_seam, take-length, drop-append-add}
use Rattle.std.proofs.lemmas.Bool.{cases_Bool}
use Rattle.std.proofs.lemmas.Bool.Decides.{nat_tests}
use Rattle.std.proofs.lemmas.List.Sums.{sum_by-append}
use Rattle.page_core_base.specs.declared.cells.Cell.{Cell}
use Rattle.page_core_base.specs.declared.places.Place.{Place}
use Rattle.page_core_base.specs.Rows.{Laid, nothing, join, row_of}
use Rattle.page_core_base.specs.declared.limits.TheConstants.{CELLS}
use Rattle.page_fill_rows.specs.declared.TheConstants.{TAG_COLUMNS}
use Rattle.page_fill_rows.specs.OpenRows.{Sheet, over}
use Rattle.page_fill_cells.specs.Cells.{blank, cell_columns, columns, cell_of}
use Rattle.page_fill_rows.specs.machine.Sheets.{counted, emptied, given, gives, letter, letters, opens, passes, space, wraps}
use Rattle.page_fill_rows.specs.machine.Plain.{ends_before, has_room, spaced, wraps_plain, room, taken}
use Rattle.page_fill_rows.proofs.PlainLemmas.{are_plain, blank-one, cells-fit, counts-more, first-column, has-more, others-plain, letters-fits, sound-more}
use Rattle.page_fill_rows.proofs.CharacterLemmas.{letters-one, letters-append}
use Rattle.std.proofs.lemmas.List.{length-replicate, replicate-append-replicate}
use Rattle.page_core_base.specs.declared.cells.Font.{Font}
use Rattle.page_fill_rows.specs.machine.RowPlans.{IsSound}
use Rattle.page_fill_cells.proofs.BlankRunLemmas.{blanks-plain, count-blank, count-cells}

-- the row of some cells was given, and the next one has others
abbrev wrapped : Sheet → List Cell → List Cell → ℕ → Laid Sheet
wrapped s front cells count = record {
  rows = row_of s.margin front ∷ [];
  notes = [];
  edge = record (given s front) {
    margin = s.first;
    first = s.rest;
    cells = cells;
    gap = 0;
    word = 0;
    tag_columns = min (s.tag_columns + count) TAG_COLUMNS;
    tag_begun = true;
  };
}

-- ---- one cell

letter-passes : (s : Sheet) (cell : Cell) (place : Place) → passes (counted s cell) cell ≡ true → letter s cell place ≡ wraps (counted s cell) cell
unfolding letter
letter-passes s cell place p = rw p refl

letter-stays : (s : Sheet) (cell : Cell) (place : Place) → passes (counted s cell) cell ≡ false → (length s.cells == CELLS) ≡ false
    → (length s.cells == 0) ≡ false → letter s cell place ≡ nothing (record (counted s cell) { cells = s.cells ++ cell ∷ [] })
unfolding letter
letter-stays s cell place p full some = rw (p, full, some) refl

-- the cell at which the word passes the width
letter-wraps : (s : Sheet) (base done : List Cell) (cell : Cell) (place : Place) → s.cells ≡ base ++ blank ∷ done → s.gap ≡ length base
    → s.word ≡ length base + 1 → cell_columns cell ≡ 1 → passes (counted s cell) cell ≡ true
    → letter s cell place ≡ wrapped s base (done ++ cell ∷ []) 1
letter-wraps s base done cell place is gap word one p = grind (arith, take-append_seam, drop-append-add, letter-passes)

-- ---- the cells after it

room-after : (s : Sheet) (n : ℕ) → s.gap ≡ 0 → length s.cells + n ≤ CELLS → has_room s n ≡ true
room-after s n gap room = grind (arith, nat_tests, gap, room)

others-fit : (s : Sheet) (base done : List Cell) (cell next : Cell) (cells : List Cell) (place : Place)
    → length done + 1 + length (next ∷ cells) ≤ CELLS → are_plain (next ∷ cells) ≡ true
    → letters (wrapped s base (done ++ cell ∷ []) 1).edge (next ∷ cells) place
    ≡ nothing (wrapped s base (done ++ cell ∷ next ∷ cells) (suc (length (next ∷ cells)))).edge
others-fit s base done cell next cells place room plain = grind (arith, length-append, cells-fit, room-after, has-more, counts-more, append_assoc)

-- ---- a word

never-stays : (s : Sheet) (cell : Cell) → s.literal ≡ false → 0 < s.gap → cell_columns cell ≡ 1 → s.width < s.margin + columns s.cells + 1
    → passes (counted s cell) cell ≡ false → ⊥
never-stays s cell literal gap one wide stays = grind (arith, nat_tests, literal, gap, one, wide, stays)

cells-more : (s : Sheet) (base done : List Cell) (cell : Cell) → s.cells ≡ base ++ blank ∷ done → s.cells ++ cell ∷ [] ≡ base ++ blank ∷ (done ++ cell ∷ [])
cells-more s base done cell is = rw is (append_assoc base (blank ∷ done) (cell ∷ []))

columns-more : (s : Sheet) (cell : Cell) → cell_columns cell ≡ 1 → columns (s.cells ++ cell ∷ []) ≡ columns s.cells + 1
columns-more s cell one = grind (arith, sum_by-append)

letters-more : (s : Sheet) (cell : Cell) (cells : List Cell) (place : Place)
    → letters s (cell ∷ cells) place ≡ join (letter s cell place) (letters (letter s cell place).edge cells place)
unfolding letters
letters-more s cell cells place = refl

-- a part of it is in the row, after a blank, and all of it passes the width
letters-wrap : (s : Sheet) (base done : List Cell) (cell : Cell) (cells : List Cell) (place : Place)
    → s.cells ≡ base ++ blank ∷ done → s.gap ≡ length base → s.word ≡ length base + 1 → s.literal ≡ false → 0 < length base
    → length s.cells + length (cell ∷ cells) ≤ CELLS → s.width < s.margin + columns s.cells + length (cell ∷ cells)
    → are_plain (cell ∷ cells) ≡ true
    → letters s (cell ∷ cells) place ≡ wrapped s base (done ++ cell ∷ cells) (length (cell ∷ cells))
letters-wrap s base done cell [] place is gap word literal some room wide plain =
    let one = first-column cell [] plain in
    grind (arith, letters-one, letter-wraps, never-stays)
letters-wrap s base done cell (next ∷ cells) place is gap word literal some room wide plain =
    let one = first-column cell (next ∷ cells) plain in
    let others = others-plain cell (next ∷ cells) plain in
    let len : length (base ++ blank ∷ done) ≡ length base + suc (length done) = length-append base (blank ∷ done) in
    let count : length s.cells ≡ length base + suc (length done) = ap length is ∙ len in
    elim (cases_Bool (passes (counted s cell) cell)) [
      | inl p ↦ letters-more s cell (next ∷ cells) place
          ∙ rw (letter-wraps s base done cell place is gap word one p, others-fit s base done cell next cells place (omega (arith, count, room)) others) refl
      | inr p ↦
          let full : (length s.cells == CELLS) ≡ false = grind (arith, nat_tests, room) in
          let begun : (length s.cells == 0) ≡ false = grind (arith, nat_tests, count) in
          let more = length-append s.cells (cell ∷ []) in
          let wider = columns-more s cell one in
          let t = record (counted s cell) { cells = s.cells ++ cell ∷ [] } in
          let rest = letters-wrap t base (done ++ cell ∷ []) next cells place (cells-more s base done cell is) gap word literal some
          (omega (arith, more, room)) (omega (arith, wider, wide)) others in
          letters-more s cell (next ∷ cells) place
          ∙ rw (letter-stays s cell place p full begun)
          (rest ∙ rw (one, counts-more s.tag_columns (length cells), append_assoc done (cell ∷ []) (next ∷ cells)) refl)
    ]

-- ---- the blank before it

space-passes : (s : Sheet) (place : Place) → (length s.cells == 0) ≡ false → passes (opens s) blank ≡ true
    → space (opens s) place ≡ over (gives (opens s) s.cells) emptied
unfolding space
space-passes s place some p = rw (some, p, take-length s.cells) refl

space-stays : (s : Sheet) (place : Place) → (length s.cells == 0) ≡ false → passes (opens s) blank ≡ false → (length s.cells == CELLS) ≡ false
    → space (opens s) place ≡ nothing (spaced s)
unfolding space
space-stays s place some p full = rw (some, p, full) refl

-- ---- blank and word

-- what the blank settles, and then the word
abbrev pub both : Sheet → List Cell → Place → Laid Sheet
both s cells place = join (space (opens s) place) (letters (space (opens s) place).edge cells place)

-- it ends before them
pub both-cells : (s : Sheet) (cell : Cell) (cells : List Cell) (place : Place) → are_plain (cell ∷ cells) ≡ true
    → ends_before s (length (cell ∷ cells)) ≡ true → both s (cell ∷ cells) place ≡ wraps_plain s (cell ∷ cells)
both-cells s cell cells place plain ends =
    let literal : s.literal ≡ false = grind (arith, ends) in
    let some : (length s.cells == 0) ≡ false = grind (arith, nat_tests, ends) in
    let room : length s.cells + 1 + length (cell ∷ cells) ≤ CELLS = grind (arith, nat_tests, ends) in
    let wide : s.width < s.margin + columns s.cells + 1 + length (cell ∷ cells) = grind (arith, nat_tests, ends) in
    let held : 0 < length s.cells = grind (arith, nat_tests, some) in
    elim (cases_Bool (passes (opens s) blank)) [
      | inl p ↦
          let t = emptied (given (opens s) s.cells) in
          let fits = cells-fit t cell cells place plain (room-after t (length (cell ∷ cells)) refl (omega (arith, room))) in
          rw (space-passes s place some p, p, fits) refl
      | inr p ↦
          let full : (length s.cells == CELLS) ≡ false = grind (arith, nat_tests, room) in
          let t = spaced s in
          let len = length-append s.cells (blank ∷ []) in
          let sum = columns-more s blank blank-one in
          let wraps = letters-wrap t s.cells [] cell cells place refl refl refl literal held (omega (arith, len, room)) (omega (arith, sum, wide)) plain in
          rw (space-stays s place some p full, p, wraps) refl
    ]

-- ---- Blanks of a row's last word, those together that the row has room for.

room-part : (s : Sheet) (n : ℕ) → 0 < n → n ≤ room s → has_room s n ≡ true
room-part s n some within = grind (arith, nat_tests, some, within)

-- a part of them for which it has room
blanks-fit : (s : Sheet) (n : ℕ) (font : Font) (place : Place) → 0 < n → n ≤ room s
    → letters s (replicate n (cell_of font 32)) place ≡ nothing (taken s (replicate n (cell_of font 32)))
blanks-fit s n font place some within =
    let bytes = replicate {A = ℕ} n 32 in
    let len = length-replicate {A = ℕ} n 32 in
    let any : (n == 0) ≡ false = grind (arith, nat_tests, some) in
    let fits = letters-fits s bytes font place (rw len any) (blanks-plain bytes (count-blank n)) (rw len (room-part s n some within)) in
    rw (count-cells font n) at fits

pub blanks-parted : (s : Sheet) (n part : ℕ) (font : Font) (place : Place) → 0 < part → part ≤ n → part ≤ room s
    → letters s (replicate n (cell_of font 32)) place
    ≡ letters (taken s (replicate part (cell_of font 32))) (replicate (n - part) (cell_of font 32)) place
blanks-parted s n part font place some less within =
    let cell = cell_of font 32 in
    let sum : part + (n - part) ≡ n = omega arith in
    let parts = replicate-append-replicate part (n - part) cell ∙ ap (λ (k : ℕ). replicate k cell) sum in
    grind (arith, letters-append, blanks-fit)

-- a sound row with blanks is sound
pub sound-blanks : {blanks : ℕ} (cells : List Cell) (n : ℕ) (font : Font) (count gap word tag tag-now : ℕ) → IsSound cells count gap word tag blanks
    → length cells + n ≤ CELLS → tag-now ≤ TAG_COLUMNS → IsSound (cells ++ replicate n (cell_of font 32)) (count + n) gap word tag-now blanks
sound-blanks cells n font count gap word tag tag-now sound room tagged =
    let len = length-replicate {A = ℕ} n 32 in
    let plain = blanks-plain (replicate n 32) (count-blank n) in
    let more = sound-more cells (replicate n 32) font count gap word tag tag-now sound plain (omega (arith, len, room)) tagged in
    rw (count-cells font n, len) at more

-- ---- A row that has room for all cells is the same wherever they are in the page: only the message that it has too many names a place.

letter-anywhere : (s : Sheet) (cell : Cell) (p q : Place) → length s.cells < CELLS → letter s cell p ≡ letter s cell q
unfolding letter
letter-anywhere s cell p q room = let full : (length s.cells == CELLS) ≡ false = grind (arith, nat_tests, room) in rw full refl

letter-length : (s : Sheet) (cell : Cell) (place : Place) → length s.cells < CELLS → length (letter s cell place).edge.cells ≤ length s.cells + 1
unfolding letter
letter-length s cell place room = grind (arith, length-append, length-drop)

pub letters-anywhere : (s : Sheet) (cells : List Cell) (p q : Place) → length s.cells + length cells ≤ CELLS → letters s cells p ≡ letters s cells q
unfolding letters
letters-anywhere s [] p q room = refl
letters-anywhere s (cell ∷ cells) p q room =
    let some : length s.cells < CELLS = omega (arith, room) in
    let first = letter s cell q in
    let len = letter-length s cell q some in
    grind (arith, letter-anywhere, letters-anywhere first.edge cells p q (omega (arith, len, room)))

pub letters-length : (s : Sheet) (cells : List Cell) (place : Place) → length s.cells + length cells ≤ CELLS
    → length (letters s cells place).edge.cells ≤ length s.cells + length cells
unfolding letters
letters-length s [] place room = omega arith
letters-length s (cell ∷ cells) place room =
    let len = letter-length s cell place (omega (arith, room)) in
    grind (arith, letters-length (letter s cell place).edge cells place (omega (arith, len, room)))

-- ---- a blank

pub space-anywhere : (s : Sheet) (p q : Place) → length s.cells < CELLS → space s p ≡ space s q
unfolding space
space-anywhere s p q room = let full : (length s.cells == CELLS) ≡ false = grind (arith, nat_tests, room) in rw full refl

pub space-length : (s : Sheet) (place : Place) → length s.cells < CELLS → length (space s place).edge.cells ≤ length s.cells + 1
unfolding space
space-length s place room = grind (arith, length-append)
