-- White space as cells, byte by byte.
use Rattle.std.proofs.Common.{◌≡◌, ℕ, ◌+◌, ◌<◌, ◌≤◌, ◌==◌, if◌then◌else◌, List, [], ◌∷◌, ◌++◌, length, drop, get_or, refl, arith, zero, suc, ◌-◌, true, take, replicate, ap, sym, ◌∙◌, append_assoc, length-append, ◌%◌, ◌^◌, ◌&&◌, ◌||◌, Bool, false, not, cond, eqb, bit_and, map, ap₂, inl, inr, ◌/◌, ℤ, pos, negsuc}
use Rattle.std.proofs.lemmas.List.{drop_more, drop_all, length-take, length-drop, length-replicate, length-take-le, take-append-le, take-replicate, take-take, take_all}
use Rattle.page_core_base.specs.Rows.{shown}
use Rattle.page_core_base.specs.declared.places.Place.{Place}
use Rattle.page_core_base.specs.declared.cells.Font.TheVariants.{R}
use Rattle.page_core_base.specs.declared.pieces.Piece.TheVariants.{Tab, Text}
use Rattle.page_scopes_words.specs.Words.{white_cells, blank_count}
use Rattle.page_core_base.specs.Messages.{text_front}
use Rattle.std.proofs.Math.Seq.{take-append-add, take-append_seam}
use Rattle.std.proofs.lemmas.Bool.{and_parts, cases_lt}
use Rattle.std.proofs.lemmas.List.Folds.{list_all-append}
use Rattle.std.proofs.lemmas.Grind.{common_steps}
use Rattle.page_core_base.specs.laws.Views.{cells_in, is_printable, is_printable_ascii, joined_cells, lettered_cells}
use Rattle.page_core_base.specs.declared.cells.Cell.{Cell}
use Rattle.page_core_base.specs.declared.cells.Font.{Font}
use Rattle.page_core_base.specs.declared.pieces.Piece.{Piece}
use Rattle.page_scopes_words.specs.machine.Letters.{letters_in, put_at, GoesOn, ends_run, ends_run_at}
use Rattle.std.specs.List.{prefix_len}
use Rattle.std.proofs.lemmas.Bool.Decides.{nat_tests}
use Rattle.std.proofs.lemmas.List.Sums.{prefix_len-le-length, prefix_len_passes, prefix_len_stops}
use Rattle.std.proofs.lemmas.Simd.{get_or-chunk, get_or-zip2, leading_from_mask_l, length-chunk, length-zip2, mask_l-mod, trailing_mask_l}
use lib.Bits.{bit_or}
use lib.Count.{count_trailing_zeros}
use lib.Dec.{ltb}
use lib.Lanes.{chunk, mask_l, top, zip2}
use Rattle.std.proofs.Math.Nat.{min-le_right}
use Rattle.page_core_numbers.specs.Columns.{blanks_in}
use Rattle.page_core_numbers.proofs.ExpressionLemmas.{blanks-columns}

pub cells_more : (place : Place) (blanks : List ℕ) (i : ℕ) → i < length blanks
    → white_cells place (drop i blanks) ≡ (shown (if get_or blanks i 0 == 9 then Tab R place else Text (32 ∷ []) R place) ∷ []) ++ white_cells place (drop (i + 1) blanks)
cells_more place blanks i h = rw (drop_more blanks i 0 h) refl

pub cells_none : (place : Place) (blanks : List ℕ) (i : ℕ) → length blanks ≤ i → white_cells place (drop i blanks) ≡ []
cells_none place blanks i h = rw (drop_all i blanks h) refl

-- ---- The front of a text, up to a character's end.

-- it is no longer than it may be
pub front_fits : (n : ℕ) (text : List ℕ) → length (text_front n text) ≤ n
unfolding text_front
front_fits n text = grind (arith, length-take)

-- ---- Letters as bytes and fonts, each in its place.

in-length : (bytes : List ℕ) (fonts : List Font) → length fonts ≡ length bytes → length (cells_in bytes fonts) ≡ length bytes
in-length [] fonts same = refl
in-length (b ∷ bytes) [] same = absurd (omega (arith, same))
in-length (b ∷ bytes) (f ∷ fonts) same = ap suc (in-length bytes fonts (omega (arith, same)))

pub in-take : (n : ℕ) (bytes : List ℕ) (fonts : List Font) → take n (cells_in bytes fonts) ≡ cells_in (take n bytes) (take n fonts)
in-take zero bytes fonts = refl
in-take (suc n) [] fonts = refl
in-take (suc n) (b ∷ bytes) [] = refl
in-take (suc n) (b ∷ bytes) (f ∷ fonts) = ap (λ cells. record { c = b; font = f } ∷ cells) (in-take n bytes fonts)

in-append : (bytes more : List ℕ) (fonts others : List Font) → length fonts ≡ length bytes
    → cells_in (bytes ++ more) (fonts ++ others) ≡ cells_in bytes fonts ++ cells_in more others
in-append [] more [] others same = refl
in-append [] more (f ∷ fonts) others same = absurd (omega (arith, same))
in-append (b ∷ bytes) more [] others same = absurd (omega (arith, same))
in-append (b ∷ bytes) more (f ∷ fonts) others same = ap (λ cells. record { c = b; font = f } ∷ cells) (in-append bytes more fonts others (omega (arith, same)))

in-font : (bytes : List ℕ) (font : Font) → cells_in bytes (replicate (length bytes) font) ≡ letters_in font bytes
in-font [] font = refl
in-font (b ∷ bytes) font = ap (λ cells. record { c = b; font = font } ∷ cells) (in-font bytes font)

put-front : {A : Type 0} (old added : List A) (start : ℕ) → start ≤ length old → take (start + length added) (put_at old start added) ≡ take start old ++ added
put-front old added start within = grind (arith, common_steps, length-append, length-take-le, append_assoc, take-append_seam)

pub put_size : {A : Type 0} (old added : List A) (start : ℕ) → start + length added ≤ length old → length (put_at old start added) ≡ length old
put_size old added start room = grind (arith, length-take-le, length-append, length-drop)

pub put_len : (fonts : List Font) (start n : ℕ) (font : Font) → start + n ≤ length fonts → length (put_at fonts start (replicate n font)) ≡ length fonts
put_len fonts start n font room = put_size fonts (replicate n font) start (omega (arith, length-replicate n font, room))

-- a count of one font that is put, perhaps with more of it
pub fonts_put : (fonts : List Font) (start count n : ℕ) (font : Font) → count ≤ n → start + n ≤ length fonts
    → take (start + count) (put_at fonts start (replicate n font)) ≡ take start fonts ++ replicate count font
fonts_put fonts start count n font least room = grind (arith, length-take-le, length-replicate, take-append-add, take-append-le, take-replicate)

-- some letters, and those that are put after them, of which these are the fonts
pub letters_put : (text : List ℕ) (fonts after : List Font) (start : ℕ) (font : Font) (bytes : List ℕ) → start + length bytes ≤ length text → length fonts ≡ length text
    → take (start + length bytes) after ≡ take start fonts ++ replicate (length bytes) font
    → take (start + length bytes) (cells_in (put_at text start bytes) after) ≡ take start (cells_in text fonts) ++ letters_in font bytes
letters_put text fonts after start font bytes room same are = grind (arith, length-take-le, in-take, put-front, in-append, in-font)

pub letters_len : (text : List ℕ) (fonts : List Font) (n : ℕ) → n ≤ length text → length fonts ≡ length text → length (take n (cells_in text fonts)) ≡ n
letters_len text fonts n within same = length-take-le n (cells_in text fonts) (omega (arith, in-length text fonts same, within))

-- ---- printable letters

pub printable_first : (n : ℕ) (bytes : List ℕ) → is_printable_ascii bytes ≡ true → is_printable_ascii (take n bytes) ≡ true
printable_first zero bytes h = refl
printable_first (suc n) [] h = refl
printable_first (suc n) (b ∷ bytes) h =
    let parts = and_parts (is_printable b) (is_printable_ascii bytes) h in
    rw parts.0 (printable_first n bytes parts.1)

-- the first letters, fewer than before
pub printable_cut : (n m : ℕ) (text : List ℕ) → n ≤ m → is_printable_ascii (take m text) ≡ true → is_printable_ascii (take n text) ≡ true
printable_cut n m text le h = rw (take-take n m text le) at (printable_first n (take m text) h)

-- letters that are put after others, perhaps with more of them
pub printable_put : (text added : List ℕ) (start count : ℕ) → start ≤ length text → count ≤ length added → is_printable_ascii (take start text) ≡ true
    → is_printable_ascii (take count added) ≡ true → is_printable_ascii (take (start + count) (put_at text start added)) ≡ true
printable_put text added start count within many before h = grind (arith, length-take-le, take-append-add, take-append-le, list_all-append)

-- ---- letters without the first blank

in-rest : (bytes : List ℕ) (fonts : List Font) → drop 1 (cells_in bytes fonts) ≡ cells_in (drop 1 bytes) (drop 1 fonts)
in-rest [] fonts = refl
in-rest (b ∷ []) [] = refl
in-rest (b ∷ c ∷ bytes) [] = refl
in-rest (b ∷ bytes) (f ∷ fonts) = refl

pub joined : (cells : List Cell) (words : List (List (Piece (List ℕ)))) → cells ≡ lettered_cells words → drop 1 cells ≡ joined_cells words
unfolding lettered_cells
joined cells [] e = rw e refl
joined cells (word ∷ words) e = rw e refl

pub rest_first : {A : Type 0} (n : ℕ) (xs : List A) → take n (drop 1 xs) ≡ drop 1 (take (suc n) xs)
rest_first zero [] = refl
rest_first (suc n) [] = refl
rest_first n (x ∷ xs) = refl

pub rest_joined : (text : List ℕ) (fonts : List Font) (len : ℕ) (words : List (List (Piece (List ℕ)))) → 0 < len → take len (cells_in text fonts) ≡ lettered_cells words
    → cells_in (take (len - 1) (drop 1 text)) (take (len - 1) (drop 1 fonts)) ≡ joined_cells words
rest_joined text fonts len words some e =
    let size : suc (len - 1) ≡ len = omega (arith, some) in
    sym (in-take (len - 1) (drop 1 text) (drop 1 fonts)) ∙ ap (take (len - 1)) (sym (in-rest text fonts)) ∙ rest_first (len - 1) (cells_in text fonts)
    ∙ ap (λ (n : ℕ). drop 1 (take n (cells_in text fonts))) size ∙ joined (take len (cells_in text fonts)) words e

pub rest_printable : (len : ℕ) (text : List ℕ) → 0 < len → is_printable_ascii (take len text) ≡ true → is_printable_ascii (take (len - 1) (drop 1 text)) ≡ true
rest_printable len text some h = grind arith

-- letters in one font
pub font_joined : (font : Font) (text : List ℕ) (words : List (List (Piece (List ℕ)))) → record { c = 32; font = R } ∷ letters_in font text ≡ lettered_cells words
    → cells_in text (replicate (length text) font) ≡ joined_cells words
font_joined font text words e = in-font text font ∙ joined (record { c = 32; font = R } ∷ letters_in font text) words e

-- ---- Where a run of words that print themselves ends, by vectors and byte by byte.

-- ---- lanes

-- what is computed of each lane of hyphens, of bytes that are not printable ASCII, of others but for blanks, and of blanks
abbrev pub hyphen_lane : ℕ → ℕ
hyphen_lane x = cond (eqb x 45) 255 0

abbrev pub strange_lane : ℕ → ℕ
strange_lane x = bit_or (cond (ltb x 32) 255 0) (cond (ltb 126 x) 255 0)

abbrev pub other_lane : ℕ → ℕ → ℕ
other_lane mark x = bit_or (strange_lane x) (bit_or (cond (eqb x 92) 255 0) (cond (eqb x mark) 255 0))

abbrev pub blank_lane : ℕ → ℕ
blank_lane x = cond (eqb x 32) 255 0

lane : (quoted : Bool) (mark x y : ℕ) → mark ≡ (if quoted then 34 else 92)
    → top 7 (bit_or (hyphen_lane x) (bit_or (other_lane mark x) (bit_and (blank_lane x) (blank_lane y)))) ≡ ends_run quoted x y
lane quoted mark x y e = grind (arith, nat_tests)

lanes : (quoted : Bool) (mark : ℕ) → mark ≡ (if quoted then 34 else 92) → (v w : List ℕ)
    → map (top 7) (zip2 bit_or (map hyphen_lane v) (zip2 bit_or (map (other_lane mark) v) (zip2 bit_and (map blank_lane v) (map blank_lane w)))) ≡ zip2 (ends_run quoted) v w
lanes quoted mark e [] w = refl
lanes quoted mark e (x ∷ xs) [] = refl
lanes quoted mark e (x ∷ xs) (y ∷ ys) = ap₂ (λ (b : Bool) (bs : List Bool). b ∷ bs) (lane quoted mark x y e) (lanes quoted mark e xs ys)

pub ends_mask : (quoted : Bool) (mark : ℕ) (v w hyphens others here next : List ℕ) → mark ≡ (if quoted then 34 else 92) → length v ≡ 16 → length w ≡ 16
    → hyphens ≡ map hyphen_lane v → others ≡ map (other_lane mark) v → here ≡ map blank_lane v → next ≡ map blank_lane w
    → mask_l (map (top 7) (zip2 bit_or hyphens (zip2 bit_or others (zip2 bit_and here next)))) % 2 ^ 64 ≡ mask_l (zip2 (ends_run quoted) v w)
ends_mask quoted mark v w hyphens others here next e long same h a b c =
    rw (h, a, b, c, lanes quoted mark e v w) (mask_l-mod (zip2 (ends_run quoted) v w) 64 (omega (arith, length-zip2 (ends_run quoted) v w (long ∙ sym same), long)))

-- ---- from lanes to places

map_same : (bs : List Bool) → map (λ (b : Bool). b) bs ≡ bs
map_same [] = refl
map_same (b ∷ bs) = ap (λ (t : List Bool). b ∷ t) (map_same bs)

abbrev tests : Bool → List ℕ → ℕ → List Bool
tests quoted text at = zip2 (ends_run quoted) (chunk at 16 text) (chunk (at + 1) 16 text)

tests_long : (quoted : Bool) (text : List ℕ) (at : ℕ) → at + 16 < length text → length (tests quoted text at) ≡ 16
tests_long quoted text at l =
    let here = length-chunk at 16 text (omega (arith, l)) in
    let next = length-chunk (at + 1) 16 text (omega (arith, l)) in
    length-zip2 (ends_run quoted) (chunk at 16 text) (chunk (at + 1) 16 text) (here ∙ sym next) ∙ here

no_test : (b : Bool) → not b ≡ true → b ≡ false
no_test true e = let no : ⊥ = cc in absurd no
no_test false e = refl

tests_go : (quoted : Bool) (text : List ℕ) (at n : ℕ) → at + 16 < length text → n ≡ prefix_len (λ (b : Bool). not b) (tests quoted text at) → GoesOn quoted text at (at + n)
tests_go quoted text at n l e = λ k low high.
    let i = k - at in
    let v = chunk at 16 text in
    let w = chunk (at + 1) 16 text in
    let here = length-chunk at 16 text (omega (arith, l)) in
    let next = length-chunk (at + 1) 16 text (omega (arith, l)) in
    let all = prefix_len-le-length (λ (b : Bool). not b) (tests quoted text at) in
    let long = tests_long quoted text at l in
    let within : i < 16 = omega (arith, high, low, e, all, long) in
    let passes = no_test (get_or (tests quoted text at) i false) (prefix_len_passes (λ (b : Bool). not b) (tests quoted text at) i false (omega (arith, high, low, e))) in
    let pair = get_or-zip2 (ends_run quoted) v w i 32 32 false (omega (arith, within, here)) (omega (arith, within, next)) in
    let first : at + i ≡ k = omega (arith, low) in
    let second : (at + 1) + i ≡ suc k = omega (arith, low) in
    ap₂ (ends_run quoted) (sym (get_or-chunk at 16 text i 32 within ∙ ap (λ (j : ℕ). get_or text j 32) first)) (sym (get_or-chunk (at + 1) 16 text i 32 within ∙ ap (λ (j : ℕ). get_or text j 32) second))
    ∙ sym pair ∙ passes

pub vector_goes : (quoted : Bool) (text : List ℕ) (at : ℕ) → at + 16 < length text → mask_l (tests quoted text at) ≡ 0 → GoesOn quoted text at (at + 16)
vector_goes quoted text at l none =
    let all = leading_from_mask_l (λ (b : Bool). b) (tests quoted text at) (ap mask_l (map_same (tests quoted text at)) ∙ none) in
    tests_go quoted text at 16 l (sym (all ∙ tests_long quoted text at l))

pub front_goes : (quoted : Bool) (text : List ℕ) (at found : ℕ) → at + 16 < length text → found ≡ mask_l (tests quoted text at) → 0 < found
    → (count_trailing_zeros 64 found ≤ 16) × GoesOn quoted text at (at + count_trailing_zeros 64 found)
front_goes quoted text at found l e some =
    let long = tests_long quoted text at l in
    let same = map_same (tests quoted text at) in
    let is : mask_l (map (λ (b : Bool). b) (tests quoted text at)) ≡ found = ap mask_l same ∙ sym e in
    let n : count_trailing_zeros 64 found ≡ prefix_len (λ (b : Bool). not b) (tests quoted text at) =
    ap (count_trailing_zeros 64) (sym is) ∙ trailing_mask_l (λ (b : Bool). b) 64 (tests quoted text at) (omega (arith, long)) (omega (arith, is, some)) in (
      omega (arith, n, prefix_len-le-length (λ (b : Bool). not b) (tests quoted text at), long),
      tests_go quoted text at (count_trailing_zeros 64 found) l n,
    )

some_test : (b : Bool) → not b ≡ false → b ≡ true
some_test true e = refl
some_test false e = let no : ⊥ = cc in absurd no

-- at the place that was found a run ends
pub front_ends : (quoted : Bool) (text : List ℕ) (at found : ℕ) → at + 16 < length text → found ≡ mask_l (tests quoted text at) → 0 < found → count_trailing_zeros 64 found < 16
    → ends_run quoted (get_or text (at + count_trailing_zeros 64 found) 32) (get_or text (suc (at + count_trailing_zeros 64 found)) 32) ≡ true
front_ends quoted text at found l e some less =
    let i = count_trailing_zeros 64 found in
    let v = chunk at 16 text in
    let w = chunk (at + 1) 16 text in
    let here = length-chunk at 16 text (omega (arith, l)) in
    let next = length-chunk (at + 1) 16 text (omega (arith, l)) in
    let long = tests_long quoted text at l in
    let is : mask_l (map (λ (b : Bool). b) (tests quoted text at)) ≡ found = ap mask_l (map_same (tests quoted text at)) ∙ sym e in
    let n : i ≡ prefix_len (λ (b : Bool). not b) (tests quoted text at) =
    ap (count_trailing_zeros 64) (sym is) ∙ trailing_mask_l (λ (b : Bool). b) 64 (tests quoted text at) (omega (arith, long)) (omega (arith, is, some)) in
    let stops : get_or (tests quoted text at) i false ≡ true =
    rw n (some_test (get_or (tests quoted text at) (prefix_len (λ (b : Bool). not b) (tests quoted text at)) false)
    (prefix_len_stops (λ (b : Bool). not b) (tests quoted text at) false (omega (arith, n, less, long)))) in
    let pair = get_or-zip2 (ends_run quoted) v w i 32 32 false (omega (arith, less, here)) (omega (arith, less, next)) in
    let second : (at + 1) + i ≡ suc (at + i) = omega arith in
    ap₂ (ends_run quoted) (sym (get_or-chunk at 16 text i 32 less)) (sym (get_or-chunk (at + 1) 16 text i 32 less ∙ ap (λ (j : ℕ). get_or text j 32) second))
    ∙ sym pair ∙ stops

-- ---- bytes that end no run are printable

no_end : (h p o k : Bool) → (h || ((not p || o) || k)) ≡ false → p ≡ true
no_end true p o k e = let no : ⊥ = cc in absurd no
no_end false true o k e = refl
no_end false false o k e = let no : ⊥ = cc in absurd no

pub goes_printable : (quoted : Bool) (text : List ℕ) (n m : ℕ) → n ≤ m → GoesOn quoted text 0 m → is_printable_ascii (take n text) ≡ true
goes_printable quoted text zero m le g = refl
goes_printable quoted [] (suc n) m le g = refl
goes_printable quoted (x ∷ xs) (suc n) m le g =
    let y = get_or xs zero 32 in
    let first = no_end (x == 45) (is_printable x) (x == 92 || (quoted && x == 34)) (x == 32 && y == 32) (g zero (omega arith) (omega (arith, le))) in
    rw first (goes_printable quoted xs n (m - 1) (omega (arith, le)) (λ k low high. g (suc k) (omega arith) (omega (arith, high))))

pub all_printable : (quoted : Bool) (text : List ℕ) → GoesOn quoted text 0 (length text) → is_printable_ascii text ≡ true
all_printable quoted text g = rw (take_all (length text) text (omega arith)) at (goes_printable quoted text (length text) (length text) (omega arith) g)

-- ---- one part of a text after another

pub goes_none : (quoted : Bool) (text : List ℕ) (n : ℕ) → GoesOn quoted text n n
goes_none quoted text n = λ k low high. absurd (omega (arith, low, high))

pub goes_join : (quoted : Bool) (text : List ℕ) (a b c d : ℕ) → GoesOn quoted text a b → c ≤ b → GoesOn quoted text c d → GoesOn quoted text a d
goes_join quoted text a b c d g le h = λ k low high. elim (cases_lt k b) [ inl early ↦ g k low early | inr late ↦ h k (omega (arith, le, late)) high ]

pub goes_more : (quoted : Bool) (text : List ℕ) (at : ℕ) → GoesOn quoted text 0 at → ends_run_at quoted text at ≡ false → GoesOn quoted text 0 (at + 1)
goes_more quoted text at g here = λ k low high. elim (cases_lt k at) [ inl early ↦ g k low early | inr late ↦ let is : k ≡ at = omega (arith, late, high) in rw is here ]

-- ---- How many blanks a `\h` is.

blanks-within : (units : ℤ) → blanks_in units ≤ 1000
blanks-within (pos n) = min-le_right (n / 24) 1000
blanks-within (negsuc n) = omega arith

pub count-within : (expression : List ℕ) → blank_count expression ≤ 1000
count-within expression = grind (arith, blanks-columns, blanks-within)
