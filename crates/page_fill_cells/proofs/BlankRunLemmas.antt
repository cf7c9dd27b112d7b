-- Places of a row that are known to have blanks.
use Rattle.std.proofs.Common.{◌≡◌, ℕ, zero, suc, ◌+◌, ◌-◌, ◌<◌, ◌≤◌, max, true, List, [], ◌∷◌, ◌++◌, length, take, drop, get_or, replicate, append_assoc, append-nil, add-one, refl, sym, ap, ◌∙◌, arith}
use Rattle.std.specs.List.{list_all}
use Rattle.std.proofs.lemmas.Bool.Decides.{leb_tells, nat_tests}
use Rattle.std.proofs.lemmas.List.{drop_at, get_or_append_left, get_or-take, get_or-append_right, get_or-replicate, length-replicate, length-take-le, replicate-append-replicate, take-take, take_more}
use Rattle.std.proofs.lemmas.Grind.{common_steps}
use Rattle.page_core_base.specs.declared.cells.Cell.{Cell}
use Rattle.page_core_base.specs.declared.cells.Font.{Font}
use Rattle.page_core_base.specs.Rows.{is_blank_row, row_of}
use Rattle.page_fill_cells.specs.Cells.{cell_of, cells_of}
use Rattle.page_fill_cells.specs.machine.BlankRuns.{HasRun, is_blank_byte, put_at}
use Rattle.page_core_base.specs.laws.Views.{is_printable_ascii}
use Rattle.page_fill_cells.proofs.PlaceLemmas.{put-after, put-length, blank-append, blanks-blank, part-blank}

-- ---- bytes that are blanks

first-blank : (b : ℕ) (bytes : List ℕ) → list_all is_blank_byte (b ∷ bytes) ≡ true → b ≡ 32
first-blank b bytes all = grind (arith, nat_tests, all)

rest-blanks : (b : ℕ) (bytes : List ℕ) → list_all is_blank_byte (b ∷ bytes) ≡ true → list_all is_blank_byte bytes ≡ true
rest-blanks b bytes all = grind (arith, all)

pub blanks-cells : (font : Font) (bytes : List ℕ) → list_all is_blank_byte bytes ≡ true → cells_of font bytes ≡ replicate (length bytes) (cell_of font 32)
blanks-cells font [] all = refl
blanks-cells font (b ∷ bytes) all = grind (arith, first-blank, rest-blanks, blanks-cells font bytes (rest-blanks b bytes all))

pub blanks-plain : (bytes : List ℕ) → list_all is_blank_byte bytes ≡ true → is_printable_ascii bytes ≡ true
blanks-plain [] all = refl
blanks-plain (b ∷ bytes) all = rw (first-blank b bytes all, blanks-plain bytes (rest-blanks b bytes all)) refl

-- their cells, added to others
pub blanks-added : (cells new : List Cell) (font : Font) (bytes : List ℕ) → list_all is_blank_byte bytes ≡ true
    → new ≡ cells ++ replicate (length bytes) (cell_of font 32) → new ≡ cells ++ cells_of font bytes
blanks-added cells new font bytes all added = added ∙ ap (λ more. cells ++ more) (sym (blanks-cells font bytes all))

-- a count of blanks
pub count-blank : (count : ℕ) → list_all is_blank_byte (replicate count 32) ≡ true
count-blank zero = refl
count-blank (suc count) = count-blank count

pub count-cells : (font : Font) (count : ℕ) → cells_of font (replicate count 32) ≡ replicate count (cell_of font 32)
count-cells font zero = refl
count-cells font (suc count) = ap (λ cells. cell_of font 32 ∷ cells) (count-cells font count)

-- ---- places

one-more : (n : ℕ) (cell : Cell) → replicate n cell ++ cell ∷ [] ≡ replicate (suc n) cell
one-more n cell = replicate-append-replicate n 1 cell ∙ ap (λ k. replicate k cell) (add-one n)

-- places that have one cell each
same-cells : (places : List Cell) (start n : ℕ) (cell : Cell) → ((k : ℕ) → start ≤ k → k < start + n → get_or places k cell ≡ cell)
    → start + n ≤ length places → take (start + n) places ≡ take start places ++ replicate n cell
same-cells places start zero cell all room = grind (arith, append-nil)
same-cells places start (suc n) cell all room =
    let fewer = same-cells places start n cell (λ k h g. all k h (omega (arith, g))) (omega (arith, room)) in
    let more : start + suc n ≡ (start + n) + 1 = omega arith in
    let last : get_or places (start + n) cell ≡ cell = all (start + n) (omega arith) (omega arith) in
    ap (λ k. take k places) more
    ∙ (take_more places (start + n) cell (omega (arith, room))
    ∙ (ap (λ c. take (start + n) places ++ c ∷ []) last
    ∙ (ap (λ cells. cells ++ cell ∷ []) fewer
    ∙ (append_assoc (take start places) (replicate n cell) (cell ∷ [])
    ∙ ap (λ cells. take start places ++ cells) (one-more n cell)))))

-- blanks that are there already
pub run-cells : (places : List Cell) (first last start count : ℕ) (font : Font) → HasRun places first last font
    → first ≤ start → start + count ≤ last → start + count ≤ length places
    → take (start + count) places ≡ take start places ++ replicate count (cell_of font 32)
run-cells places first last start count font run from to room = grind (arith, same-cells)

-- ---- what is known after places were put

-- places were put up to an end
pub cut-run : (old new : List Cell) (first last end : ℕ) (font : Font) → HasRun old first last font
    → ((k : ℕ) (d : Cell) → end ≤ k → get_or new k d ≡ get_or old k d) → HasRun new (max first end) last font
cut-run old new first last end font run after = grind arith

-- blanks were put
pub put-run : (old new : List Cell) (start count : ℕ) (font : Font) → take (start + count) new ≡ take start old ++ replicate count (cell_of font 32)
    → start ≤ length old → HasRun new start (start + count) font
put-run old new start count font put within = grind (arith, get_or-take, get_or-append_right, length-take-le, get_or-replicate)

-- blanks were put in all places before those that are known
pub front-run : (old : List Cell) (first last : ℕ) (font : Font) → HasRun old first last font → HasRun (put_at old 0 (replicate first (cell_of font 32))) 0 last font
front-run old first last font run = grind (arith, common_steps, length-replicate, leb_tells, put-after, get_or_append_left, get_or-replicate)

-- the first cells of a row are taken away where the others are blanks that are known: the places before those get blanks too
pub record Kept (old new : List Cell) (last start len : ℕ) (font : Font) : Type 0 where
  pub size : length new ≡ length old
  pub run : HasRun new 0 last font
  pub rest : take (len - start) new ≡ drop start (take len old)

pub kept-run : (old : List Cell) (first last start len : ℕ) (font : Font) → HasRun old first last font → first ≤ start → start ≤ length (take len old)
    → len ≤ last → len ≤ length old → Kept old (put_at old 0 (replicate first (cell_of font 32))) last start len font
kept-run old first last start len font run from within to room =
    let count = len - start in
    let cell = cell_of font 32 in
    let new = put_at old 0 (replicate first cell) in
    let front = front-run old first last font run in
    let short = length-take-le len old room in
    let whole : start + count ≡ len = omega (arith, within, short) in
    let none : 0 + count ≡ count = omega arith in
    let size : length new ≡ length old = put-length old (replicate first cell) 0 (omega (arith, length-replicate first cell, from, within, short, room)) in
    let row = ap (λ k. take k old) (sym whole) ∙ run-cells old first last start count font run from (omega (arith, whole, to)) (omega (arith, whole, room)) in
    let rest = ap (drop start) row ∙ drop_at (take start old) (replicate count cell) start (length-take-le start old (omega (arith, whole, room))) in
    let blanks = same-cells new 0 count cell (λ k h g. front.at k h (omega (arith, g, whole, to))) (omega (arith, whole, size, room)) in
    record { size = size; run = front; rest = ap (λ k. take k new) (sym none) ∙ (blanks ∙ sym rest) }

-- ---- a row of blanks

pub blank-places : (places : List Cell) (last end : ℕ) (font : Font) → HasRun places 0 last font → end ≤ last → end ≤ length places
    → is_blank_row (row_of 0 (take end places)) ≡ true
blank-places places last end font run to room =
    let none : 0 + end ≡ end = omega arith in
    let cells = ap (λ k. take k places) (sym none) ∙ same-cells places 0 end (cell_of font 32) (λ k h g. run.at k h (omega (arith, g, to))) (omega (arith, room)) in
    ap (λ row. is_blank_row (row_of 0 row)) cells ∙ blanks-blank end (cell_of font 32) refl

-- the same of the first cells of a row
pub blank-front : (places : List Cell) (first last len end : ℕ) (font : Font) → HasRun places first last font → first ≡ 0 → end ≤ last → end ≤ len → len ≤ length places
    → is_blank_row (row_of 0 (take end (take len places))) ≡ true
blank-front places first last len end font run begins to within room = grind (arith, take-take, blank-places)

-- some of the first places that are known to have blanks, as cells of the row
pub known-front : (places : List Cell) (known len end : ℕ) → is_blank_row (row_of 0 (take known places)) ≡ true → end ≤ known → end ≤ len
    → is_blank_row (row_of 0 (take end (take len places))) ≡ true
known-front places known len end blank to within =
    ap (λ cells. is_blank_row (row_of 0 cells)) (take-take end len places within ∙ sym (take-take end known places to)) ∙ part-blank (take known places) end blank

-- blanks were put behind places that are known to have blanks
pub grown-front : (old new : List Cell) (start count known : ℕ) (font : Font) → is_blank_row (row_of 0 (take known old)) ≡ true → start ≤ known
    → take (start + count) new ≡ take start old ++ replicate count (cell_of font 32) → is_blank_row (row_of 0 (take (start + count) new)) ≡ true
grown-front old new start count known font blank within put =
    let cell = cell_of font 32 in
    let front : is_blank_row (row_of 0 (take start old)) ≡ true =
    ap (λ cells. is_blank_row (row_of 0 cells)) (sym (take-take start known old within)) ∙ part-blank (take known old) start blank in
    grind (arith, blanks-blank, blank-append)
