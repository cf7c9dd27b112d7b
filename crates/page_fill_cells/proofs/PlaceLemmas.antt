-- Printable characters of ASCII, of a column each.
use Rattle.std.proofs.Common.{◌≡◌, ℕ, true, List, [], ◌∷◌, length, refl, ◌∙◌, arith, ◌+◌, ◌-◌, ◌≤◌, Bool, false, ◌++◌, take, drop, sym, ap, zero, suc, ◌&&◌, ◌==◌, replicate, inl, inr, ◌<◌, set, get_or, append_assoc, length-append}
use Rattle.std.proofs.lemmas.Bool.Decides.{nat_tests}
use Rattle.std.proofs.lemmas.List.Sums.{sum_by-append}
use Rattle.unicode_width.specs.Width.{char_width}
use Rattle.page_core_base.specs.declared.cells.Font.{Font}
use Rattle.page_fill_cells.specs.Cells.{cell_columns, cell_of, cells_of, columns}
use Rattle.page_core_base.specs.laws.Views.{is_printable, is_printable_ascii, cells_in, is_ascii}
use Rattle.std.specs.List.{list_all}
use Rattle.std.proofs.lemmas.List.{length-drop, take-append-drop, take_all, drop-take, drop_more, get_or-append_right, get_or-drop, length-map, length-replicate, length-take-le, map-append, replicate-append-replicate, set_at, take-append-le, take_at, take_more}
use Rattle.std.proofs.lemmas.List.Folds.{list_all-append}
use Rattle.std.proofs.Math.Seq.{take-add}
use Rattle.std.proofs.lemmas.Bool.{cases_Bool}
use Rattle.page_core_base.specs.declared.cells.Cell.{Cell}
use Rattle.page_core_base.specs.Rows.{is_blank, is_blank_row, row_of, trimmed, trimmed_before}
use Rattle.std.proofs.lemmas.Grind.{common_steps}
use Rattle.page_core_base.specs.declared.limits.TheConstants.{CELLS}
use Rattle.page_core_base.proofs.RowLemmas.{cells-more}
use Rattle.page_fill_cells.specs.machine.BlankRuns.{is_blank_byte, put_at}

-- a plain byte has a column
pub plain-columns : (font : Font) (b : ℕ) → is_printable b ≡ true → cell_columns (cell_of font b) ≡ 1
unfolding char_width
plain-columns font b h = grind (arith, nat_tests)

pub first-plain : (b : ℕ) (bytes : List ℕ) → is_printable_ascii (b ∷ bytes) ≡ true → is_printable b ≡ true
first-plain b bytes h = grind (arith, h)

pub rest-plain : (b : ℕ) (bytes : List ℕ) → is_printable_ascii (b ∷ bytes) ≡ true → is_printable_ascii bytes ≡ true
rest-plain b bytes h = grind (arith, h)

-- ---- its columns

pub columns-plain : (font : Font) (bytes : List ℕ) → is_printable_ascii bytes ≡ true → columns (cells_of font bytes) ≡ length bytes
columns-plain font [] plain = refl
columns-plain font (b ∷ bytes) plain =
    let one : cell_columns (cell_of font b) ≡ 1 = plain-columns font b (first-plain b bytes plain) in
    let others : columns (cells_of font bytes) ≡ length bytes = columns-plain font bytes (rest-plain b bytes plain) in
    let last : columns (cell_of font b ∷ []) ≡ 1 = omega (arith, one) in
    sum_by-append cell_columns (cell_of font b ∷ []) (cells_of font bytes) ∙ omega (arith, last, others)

-- ---- Texts of which a group of bytes is read at a time.

-- ---- bytes that pass a test

both : (p : ℕ → Bool) (front back : List ℕ) → list_all p front ≡ true → list_all p (front ++ back) ≡ list_all p back
both p front back pass = list_all-append p front back ∙ rw pass refl

-- a group that does not pass ends the search
pub group-fails : (p : ℕ → Bool) (bytes : List ℕ) (at count : ℕ) → list_all p (take at bytes) ≡ true → list_all p (take (at + count - at) (drop at bytes)) ≡ false
    → list_all p bytes ≡ false
group-fails p bytes at count before other =
    let same : at + count - at ≡ count = omega arith in
    let fails : list_all p (take count (drop at bytes)) ≡ false = rw same at other in
    let group = drop at bytes in
    let parts = list_all-append p (take count group) (drop count group) in
    let here : list_all p (take count group ++ drop count group) ≡ false = parts ∙ rw fails refl in
    let all = both p (take at bytes) group before in
    ap (list_all p) (sym (take-append-drop at bytes)) ∙ (all ∙ (ap (list_all p) (sym (take-append-drop count group)) ∙ here))

-- a group that passes comes to those before it
pub group-more : (p : ℕ → Bool) (bytes : List ℕ) (at count : ℕ) → list_all p (take at bytes) ≡ true → list_all p (take (at + count - at) (drop at bytes)) ≡ true
    → list_all p (take (at + count) bytes) ≡ true
group-more p bytes at count before here = grind (arith, take-add, both)

pub passes-front : (p : ℕ → Bool) (front back : List ℕ) → list_all p (front ++ back) ≡ true → list_all p front ≡ true
passes-front p [] back pass = refl
passes-front p (b ∷ front) back pass = grind (arith, list_all-append p (b ∷ front) back, pass)

-- the last group, which may overlap those before it
pub group-last : (p : ℕ → Bool) (bytes : List ℕ) (at last : ℕ) → list_all p (take at bytes) ≡ true → last ≤ at
    → list_all p (take (length bytes - last) (drop last bytes)) ≡ list_all p bytes
group-last p bytes at last before le =
    let len = length-drop last bytes in
    let group = take_all (length bytes - last) (drop last bytes) (omega (arith, len)) in
    let sum : at ≡ last + (at - last) = omega (arith, le) in
    let parts = ap (λ n. take n bytes) sum ∙ take-add last (at - last) bytes in
    let front = passes-front p (take last bytes) (take (at - last) (drop last bytes)) (ap (list_all p) (sym parts) ∙ before) in
    ap (list_all p) group ∙ sym (ap (list_all p) (sym (take-append-drop last bytes)) ∙ both p (take last bytes) (drop last bytes) front)

-- ---- Rows of which a part is blank.

pub before-blank : (cell : Cell) (cells : List Cell) → (length (trimmed_before cell cells) == 0) ≡ (is_blank cell && (length cells == 0))
before-blank cell [] = elim (cases_Bool (is_blank cell)) [ inl t ↦ rw t refl | inr f ↦ rw f refl ]
before-blank cell (next ∷ cells) = elim (cases_Bool (is_blank cell)) [ inl t ↦ rw t (grind (arith, nat_tests)) | inr f ↦ rw f (grind (arith, nat_tests)) ]

pub blank-append : (front back : List Cell) → is_blank_row (row_of 0 (front ++ back)) ≡ (is_blank_row (row_of 0 front) && is_blank_row (row_of 0 back))
blank-append [] back = refl
blank-append (cell ∷ front) back = grind (arith, nat_tests, blank-append front back, before-blank cell (trimmed (front ++ back)), before-blank cell (trimmed front))

-- the first cells of a blank row are blank
pub part-blank : (cells : List Cell) (n : ℕ) → is_blank_row (row_of 0 cells) ≡ true → is_blank_row (row_of 0 (take n cells)) ≡ true
part-blank cells n blank =
    let whole : is_blank_row (row_of 0 (take n cells ++ drop n cells)) ≡ true = ap (λ row. is_blank_row (row_of 0 row)) (take-append-drop n cells) ∙ blank in
    grind (arith, blank-append)

-- the first cells of a row are blank
pub rest-blank : (cells : List Cell) (n : ℕ) → is_blank_row (row_of 0 (take n cells)) ≡ true → is_blank_row (row_of 0 cells) ≡ is_blank_row (row_of 0 (drop n cells))
rest-blank cells n blank =
    ap (λ row. is_blank_row (row_of 0 row)) (sym (take-append-drop n cells)) ∙ (blank-append (take n cells) (drop n cells) ∙ rw blank refl)

-- they are not
pub some-stand : (cells : List Cell) (n : ℕ) → is_blank_row (row_of 0 (take n cells)) ≡ false → is_blank_row (row_of 0 cells) ≡ false
some-stand cells n stands =
    ap (λ row. is_blank_row (row_of 0 row)) (sym (take-append-drop n cells)) ∙ (blank-append (take n cells) (drop n cells) ∙ rw stands refl)

-- all of its cells are one blank
pub blanks-blank : (n : ℕ) (cell : Cell) → is_blank cell ≡ true → is_blank_row (row_of 0 (replicate n cell)) ≡ true
blanks-blank zero cell blank = refl
blanks-blank (suc n) cell blank = grind (arith, before-blank, blanks-blank n cell blank)

-- ---- Places of a row of which some are put anew, and characters with a font each.

-- ---- places put anew

-- one more
pub put-more : {A : Type 0} (old added : List A) (start : ℕ) (y : A) → start + length added < length old
    → set (put_at old start added) (start + length added) y ≡ put_at old start (added ++ y ∷ [])
put-more old added start y room =
    let at = start + length added in
    let front = take start old ++ added in
    let before : length (take start old) ≡ start = length-take-le start old (omega (arith, room)) in
    let len : length front ≡ at = length-append (take start old) added ∙ ap (λ n. n + length added) before in
    let more : start + length (added ++ y ∷ []) ≡ at + 1 = ap (λ n. start + n) (length-append added (y ∷ [])) ∙ omega arith in
    ap (λ l. set l at y) (sym (append_assoc (take start old) added (drop at old)) ∙ ap (λ l. front ++ l) (drop_more old at y room))
    ∙ (set_at front (get_or old at y) (drop (at + 1) old) y at len
    ∙ (append_assoc (take start old) added (y ∷ drop (at + 1) old)
    ∙ ap (λ l. take start old ++ l) (sym (append_assoc added (y ∷ []) (drop (at + 1) old)) ∙ ap (λ n. (added ++ y ∷ []) ++ drop n old) (sym more))))

pub put-front : {A : Type 0} (old added : List A) (start : ℕ) → start ≤ length old → take (start + length added) (put_at old start added) ≡ take start old ++ added
put-front old added start within = grind (arith, length-take-le, length-append, append_assoc, take_at)

pub put-before : {A : Type 0} (old added : List A) (start k : ℕ) → k ≤ start → start ≤ length old → take k (put_at old start added) ≡ take k old
put-before old added start k to within = grind (arith, common_steps, length-take-le, take-append-le, take-append-drop)

pub put-after : {A : Type 0} (old added : List A) (start k : ℕ) (d : A) → start ≤ length old → start + length added ≤ k → get_or (put_at old start added) k d ≡ get_or old k d
put-after old added start k d within from = grind (arith, length-take-le, length-append, append_assoc, get_or-append_right, get_or-drop)

pub put-length : {A : Type 0} (old added : List A) (start : ℕ) → start + length added ≤ length old → length (put_at old start added) ≡ length old
put-length old added start within = grind (arith, length-take-le, length-drop, length-append)

-- other places begin with what was put there
pub put-first : {A : Type 0} (old added : List A) (n : ℕ) → length added ≡ n → take n (put_at old 0 added) ≡ added
put-first old added n len = take_at added (drop (0 + length added) old) n len

-- ---- cells of one text, one after another

pub in-length : (bytes : List ℕ) (fonts : List Font) → length fonts ≡ length bytes → length (cells_in bytes fonts) ≡ length bytes
in-length [] fonts same = refl
in-length (b ∷ bytes) [] same = absurd (omega (arith, same))
in-length (b ∷ bytes) (f ∷ fonts) same = ap suc (in-length bytes fonts (omega (arith, same)))

pub put-cell : (old : List Cell) (bytes : List ℕ) (start i b : ℕ) (font : Font) → i < length bytes → start + length bytes ≤ length old
    → set (put_at old start (cells_of font (take i bytes))) (start + i) (cell_of font (get_or bytes i b)) ≡ put_at old start (cells_of font (take (i + 1) bytes))
put-cell old bytes start i b font within room = grind (arith, common_steps, length-map, length-take-le, take_more, map-append, put-more)

-- of letters, each in its font
pub put-letter : (old : List Cell) (bytes : List ℕ) (fonts : List Font) (start i b : ℕ) (font : Font) → i < length bytes → length fonts ≡ length bytes
    → start + length bytes ≤ length old
    → set (put_at old start (cells_in (take i bytes) (take i fonts))) (start + i) (record { c = get_or bytes i b; font = get_or fonts i font })
    ≡ put_at old start (cells_in (take (i + 1) bytes) (take (i + 1) fonts))
put-letter old bytes fonts start i b font within same room = grind (arith, cells_in, length-take-le, in-length, put-more, cells-more)

one-more : {A : Type 0} (n : ℕ) (y : A) → replicate n y ++ y ∷ [] ≡ replicate (n + 1) y
one-more n y = replicate-append-replicate n 1 y

pub put-same : {A : Type 0} (old : List A) (start i : ℕ) (y : A) → start + i < length old
    → set (put_at old start (replicate i y)) (start + i) y ≡ put_at old start (replicate (i + 1) y)
put-same old start i y room = grind (arith, length-replicate, put-more, one-more)

-- one more came to the front
pub put-moved : {A : Type 0} (old : List A) (start i : ℕ) (d : A) → start + i < length old
    → set (put_at old 0 (take i (drop start old))) i (get_or (put_at old 0 (take i (drop start old))) (start + i) d) ≡ put_at old 0 (take (i + 1) (drop start old))
put-moved old start i d within =
    let dropped = length-drop start old in
    let len : length (take i (drop start old)) ≡ i = length-take-le i (drop start old) (omega (arith, dropped, within)) in
    let from : get_or (put_at old 0 (take i (drop start old))) (start + i) d ≡ get_or old (start + i) d =
    put-after old (take i (drop start old)) 0 (start + i) d (omega arith) (omega (arith, len)) in
    let more : take (i + 1) (drop start old) ≡ take i (drop start old) ++ get_or old (start + i) d ∷ [] =
    take_more (drop start old) i d (omega (arith, dropped, within)) ∙ ap (λ x. take i (drop start old) ++ x ∷ []) (get_or-drop start old i d) in
    let at : i ≡ 0 + length (take i (drop start old)) = omega (arith, len) in
    ap (λ x. set (put_at old 0 (take i (drop start old))) i x) from
    ∙ (ap (λ n. set (put_at old 0 (take i (drop start old))) n (get_or old (start + i) d)) at
    ∙ (put-more old (take i (drop start old)) 0 (get_or old (start + i) d) (omega (arith, len, within)) ∙ ap (put_at old 0) (sym more)))

-- ---- characters, each in its font

pub in-take : (n : ℕ) (bytes : List ℕ) (fonts : List Font) → take n (cells_in bytes fonts) ≡ cells_in (take n bytes) (take n fonts)
in-take zero bytes fonts = refl
in-take (suc n) [] fonts = refl
in-take (suc n) (b ∷ bytes) [] = refl
in-take (suc n) (b ∷ bytes) (f ∷ fonts) = ap (λ cells. record { c = b; font = f } ∷ cells) (in-take n bytes fonts)

pub in-drop : (n : ℕ) (bytes : List ℕ) (fonts : List Font) → length fonts ≡ length bytes → drop n (cells_in bytes fonts) ≡ cells_in (drop n bytes) (drop n fonts)
in-drop zero bytes fonts same = refl
in-drop (suc n) [] fonts same = refl
in-drop (suc n) (b ∷ bytes) [] same = absurd (omega (arith, same))
in-drop (suc n) (b ∷ bytes) (f ∷ fonts) same = in-drop n bytes fonts (omega (arith, same))

in-append : (bytes more : List ℕ) (fonts others : List Font) → length fonts ≡ length bytes
    → cells_in (bytes ++ more) (fonts ++ others) ≡ cells_in bytes fonts ++ cells_in more others
in-append [] more [] others same = refl
in-append [] more (f ∷ fonts) others same = absurd (omega (arith, same))
in-append (b ∷ bytes) more [] others same = absurd (omega (arith, same))
in-append (b ∷ bytes) more (f ∷ fonts) others same = ap (λ cells. record { c = b; font = f } ∷ cells) (in-append bytes more fonts others (omega (arith, same)))

pub in-font : (bytes : List ℕ) (font : Font) → cells_in bytes (replicate (length bytes) font) ≡ cells_of font bytes
in-font [] font = refl
in-font (b ∷ bytes) font = ap (λ cells. cell_of font b ∷ cells) (in-font bytes font)

pub in-blanks : (count : ℕ) (font : Font) → cells_in (replicate {A = ℕ} count 32) (replicate count font) ≡ replicate count (cell_of font 32)
in-blanks zero font = refl
in-blanks (suc count) font = ap (λ cells. cell_of font 32 ∷ cells) (in-blanks count font)

pub in-put-letters : (bytes text : List ℕ) (fonts own : List Font) (start : ℕ) → length fonts ≡ length bytes → length own ≡ length text → start + length text ≤ length bytes
    → cells_in (put_at bytes start text) (put_at fonts start own) ≡ put_at (cells_in bytes fonts) start (cells_in text own)
in-put-letters bytes text fonts own start same len room = grind (arith, cells_in, in-length, length-take-le, in-append, in-take, in-drop)

pub in-part : (bytes : List ℕ) (fonts : List Font) (start n : ℕ) → length fonts ≡ length bytes
    → cells_in (take n (drop start bytes)) (take n (drop start fonts)) ≡ take n (drop start (cells_in bytes fonts))
in-part bytes fonts start n same = sym (ap (take n) (in-drop start bytes fonts same) ∙ in-take n (drop start bytes) (drop start fonts))

-- ---- bytes that pass a test

pub part-passes : (p : ℕ → Bool) (n : ℕ) (bytes : List ℕ) → list_all p bytes ≡ true → (list_all p (take n bytes) ≡ true) × (list_all p (drop n bytes) ≡ true)
part-passes p n bytes pass =
    let both = ap (list_all p) (sym (take-append-drop n bytes)) ∙ list_all-append p (take n bytes) (drop n bytes) in
    grind arith

pub put-passes : (p : ℕ → Bool) (bytes text : List ℕ) (start : ℕ) → list_all p bytes ≡ true → list_all p text ≡ true → list_all p (put_at bytes start text) ≡ true
put-passes p bytes text start pass all =
    let front = (part-passes p start bytes pass).0 in
    let back = (part-passes p (start + length text) bytes pass).1 in
    grind (arith, list_all-append)

pub moved-passes : (bytes : List ℕ) (start n : ℕ) → is_printable_ascii bytes ≡ true → is_printable_ascii (take n (drop start bytes)) ≡ true
moved-passes bytes start n pass = (part-passes is_printable n (drop start bytes) (part-passes is_printable start bytes pass).1).0

pub same-passes : (p : ℕ → Bool) (n b : ℕ) → p b ≡ true → list_all p (replicate n b) ≡ true
same-passes p zero b one = refl
same-passes p (suc n) b one = rw one (same-passes p n b one)

-- printable bytes are ASCII
pub printable-ascii : (bytes : List ℕ) (n : ℕ) → is_printable_ascii bytes ≡ true → list_all is_ascii (take n bytes) ≡ true
printable-ascii bytes zero all = refl
printable-ascii [] (suc n) all = refl
printable-ascii (b ∷ bytes) (suc n) all = grind (arith, rest-plain, first-plain, printable-ascii bytes n (rest-plain b bytes all))

-- their columns and their blanks
pub in-columns : (bytes : List ℕ) (fonts : List Font) → length fonts ≡ length bytes → is_printable_ascii bytes ≡ true → columns (cells_in bytes fonts) ≡ length bytes
in-columns [] fonts same all = refl
in-columns (b ∷ bytes) [] same all = absurd (omega (arith, same))
in-columns (b ∷ bytes) (f ∷ fonts) same all =
    let one : cell_columns (cell_of f b) ≡ 1 = plain-columns f b (first-plain b bytes all) in
    let others : columns (cells_in bytes fonts) ≡ length bytes = in-columns bytes fonts (omega (arith, same)) (rest-plain b bytes all) in
    let last : columns (cell_of f b ∷ []) ≡ 1 = omega (arith, one) in
    sum_by-append cell_columns (cell_of f b ∷ []) (cells_in bytes fonts) ∙ omega (arith, last, others)

pub in-blank : (bytes : List ℕ) (fonts : List Font) → length fonts ≡ length bytes → is_blank_row (row_of 0 (cells_in bytes fonts)) ≡ list_all is_blank_byte bytes
in-blank [] fonts same = refl
in-blank (b ∷ bytes) [] same = absurd (omega (arith, same))
in-blank (b ∷ bytes) (f ∷ fonts) same = before-blank (cell_of f b) (trimmed (cells_in bytes fonts)) ∙ ap (λ rest. (b == 32) && rest) (in-blank bytes fonts (omega (arith, same)))

-- ---- the places of characters, which are put anew as slices of vectors

-- what a slice of a vector gave back
abbrev pub back : {A : Type 0} (new old : List A) (n : ℕ) → List A
back new old n = take n (new ++ drop (length new) old)

pub given-back : {A : Type 0} (new old : List A) (n : ℕ) → length new ≡ n → take n (new ++ drop (length new) old) ≡ new
given-back new old n len = take_at new (drop (length new) old) n len

pub part-length : {A : Type 0} (l : List A) (start end : ℕ) → (start ≤ end) × (end ≤ length l) → length (take (end - start) (drop start l)) ≡ end - start
part-length l start end within = length-take-le (end - start) (drop start l) (let n = length-drop start l in omega (arith, n, within))

pub set-put : {A : Type 0} (l : List A) (i : ℕ) (x : A) → i < length l → set l i x ≡ put_at l i (x ∷ [])
set-put l i x within =
    ap (λ k. set k i x) (sym (take-append-drop i l) ∙ ap (λ rest. take i l ++ rest) (drop_more l i x within))
    ∙ set_at (take i l) (get_or l i x) (drop (i + 1) l) x i (length-take-le i l (omega (arith, within)))

put-back : {A : Type 0} (old got new added : List A) (start n : ℕ) → got ≡ old → length got ≡ n → new ≡ put_at got start added → start + length added ≤ length old
    → take n (new ++ drop (length new) old) ≡ put_at old start added
put-back old got new added start n is len put room = grind (arith, put-length, given-back)

abbrev pub AreHeld : List ℕ → List Font → Type 0
AreHeld bytes fonts = (length bytes ≡ CELLS) × (length fonts ≡ CELLS) × (is_printable_ascii bytes ≡ true)

pub all-held : (bytes : List ℕ) (fonts : List Font) (self : List Cell) → AreHeld bytes fonts → cells_in bytes fonts ≡ self → length bytes ≡ length self
all-held bytes fonts self held view = sym (in-length bytes fonts (held.1 ∙ sym held.0)) ∙ ap length view

-- the slices are as long as the places
pub slices : (bytes b : List ℕ) (fonts f : List Font) (self : List Cell) → AreHeld bytes fonts → cells_in bytes fonts ≡ self → b ≡ bytes → f ≡ fonts
    → (length b ≡ length self) × (length f ≡ length b)
slices bytes b fonts f self held view is own = (ap length is ∙ all-held bytes fonts self held view, ap length own ∙ (held.1 ∙ (sym held.0 ∙ sym (ap length is))))

-- the first cells are those of the first bytes
pub front-row : (bytes b : List ℕ) (fonts f : List Font) (self : List Cell) (n : ℕ) → cells_in bytes fonts ≡ self → b ≡ bytes → f ≡ fonts
    → cells_in (take n b) (take n f) ≡ take n self
front-row bytes b fonts f self n view is own = rw (is, own) (sym (in-take n bytes fonts) ∙ ap (take n) view)

-- what the vectors then have, and the cells of that
pub record ArePut (bytes : List ℕ) (fonts : List Font) (self : List Cell) (start : ℕ) (text : List ℕ) (own : List Font) : Type 0 where
  pub held : AreHeld bytes fonts
  pub value : cells_in bytes fonts ≡ put_at self start (cells_in text own)
  pub len : length (cells_in bytes fonts) ≡ length self

pub are-put : (bytes b b' : List ℕ) (fonts f f' : List Font) (self : List Cell) (start m n : ℕ) (text : List ℕ) (own : List Font)
    → AreHeld bytes fonts → cells_in bytes fonts ≡ self → b ≡ bytes → length b ≡ m → b' ≡ put_at b start text → f ≡ fonts → length f ≡ n → f' ≡ put_at f start own
    → is_printable_ascii text ≡ true → length own ≡ length text → start + length text ≤ length self
    → ArePut (take m (b' ++ drop (length b') bytes)) (take n (f' ++ drop (length f') fonts)) self start text own
are-put bytes b b' fonts f f' self start m n text own held view is len put same size set plain fit within =
    grind (arith, all-held, put-back, put-length, in-put-letters, cells_in, put-passes, is_printable, in-length)

pub front-columns : (bytes : List ℕ) (fonts : List Font) (n : ℕ) → length fonts ≡ length bytes → n ≤ length bytes → is_printable_ascii bytes ≡ true
    → columns (take n (cells_in bytes fonts)) ≡ n
front-columns bytes fonts n same within all = grind (arith, length-take-le, in-take, in-columns, part-passes, is_printable)

pub front-blank : (bytes : List ℕ) (fonts : List Font) (n : ℕ) → length fonts ≡ length bytes → n ≤ length bytes
    → is_blank_row (row_of 0 (take n (cells_in bytes fonts))) ≡ list_all is_blank_byte (take n bytes)
front-blank bytes fonts n same within = grind (arith, length-take-le, in-take, in-blank)

-- the cells from a start on, which came to the front
pub moved-front : {A : Type 0} (old : List A) (start len : ℕ) → start ≤ len → len ≤ length old
    → take (len - start) (put_at old 0 (take (len - start) (drop start old))) ≡ drop start (take len old)
moved-front old start len to within =
    let n = len - start in
    let moved = take n (drop start old) in
    let size : length moved ≡ n = length-take-le n (drop start old) (let l = length-drop start old in omega (arith, l, to, within)) in
    let all : start + n ≡ len = omega (arith, to) in
    let end : n ≡ 0 + length moved = omega (arith, size) in
    ap (λ k. take k (put_at old 0 moved)) end
    ∙ (put-front old moved 0 (omega arith) ∙ (sym (drop-take start n old) ∙ ap (λ k. drop start (take k old)) all))
