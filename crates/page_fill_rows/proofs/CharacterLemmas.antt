-- Blanks and cells one by one.
use Rattle.std.proofs.Common.{◌≡◌, ℕ, zero, suc, ◌+◌, ◌-◌, ◌<◌, ◌≤◌, [], ◌∷◌, length, replicate, append-nil, ap, refl, arith, IsUtf8, chars, encode_utf8, encode_utf8_all, ◌==◌, List, ◌++◌, get_or, take, drop, sym}
use Rattle.page_core_base.specs.declared.cells.Cell.{Cell}
use Rattle.page_core_base.specs.declared.places.Place.{Place}
use Rattle.page_core_base.specs.Rows.{join, nothing}
use Rattle.page_fill_rows.specs.OpenRows.{Sheet}
use Rattle.page_fill_rows.specs.machine.Sheets.{space, spaces, letter, letters}
use Rattle.std.proofs.lemmas.List.{drop_more, drop_all, map-append, take-append-drop}
use Rattle.std.proofs.lemmas.Bool.Decides.{nat_tests}
use Rattle.std.proofs.lemmas.Str.{chars-nil, chars_past_char, encodes-chars}
use Rattle.page_core_base.specs.declared.cells.Font.{Font}
use Rattle.page_core_base.specs.declared.page_settings.Output.{Output}
use Rattle.page_core_base.specs.laws.Views.{join_assoc}
use Rattle.page_fill_cells.specs.Cells.{cell_of, cells_of}
use Rattle.page_fill_rows.specs.laws.Views.{character, characters}

pub spaces-more : (s : Sheet) (n i : ℕ) (place : Place) → i < n
    → spaces s (n - i) place ≡ join (space s place) (spaces (space s place).edge (n - (i + 1)) place)
unfolding spaces
spaces-more s n i place h = let e : n - i ≡ suc (n - (i + 1)) = omega arith in rw e refl

pub spaces-done : (s : Sheet) (n i : ℕ) (place : Place) → n ≤ i → spaces s (n - i) place ≡ nothing s
unfolding spaces
spaces-done s n i place h = let e : n - i ≡ 0 = omega arith in rw e refl

-- where no row is open blanks are dropped
pub spaces-none : (s : Sheet) (n : ℕ) (place : Place) → length s.cells ≡ 0 → spaces s n place ≡ nothing s
unfolding spaces space
spaces-none s zero place none = refl
spaces-none s (suc n) place none = rw none (spaces-none s n place none)

-- a cell again and again: the first of them, and the others
pub cells-more : (s : Sheet) (n : ℕ) (cell : Cell) (place : Place) → 0 < n
    → letters s (replicate n cell) place ≡ join (letter s cell place) (letters (letter s cell place).edge (replicate (n - 1) cell) place)
unfolding letters
cells-more s n cell place some = let e : n ≡ suc (n - 1) = omega arith in rw (ap (λ (k : ℕ). letters s (replicate k cell) place) e) refl

pub letters-one : (s : Sheet) (cell : Cell) (place : Place) → letters s (cell ∷ []) place ≡ letter s cell place
unfolding letters
letters-one s cell place = rw (append-nil (letter s cell place).rows, append-nil (letter s cell place).notes) refl

-- ---- Characters one by one.

pub chars_of_empty : (bytes : List ℕ) → length bytes ≡ 0 → chars bytes ≡ []
chars_of_empty [] h = chars-nil
chars_of_empty (b ∷ bs) h = absurd (omega arith)

pub bytes-more : (s : Sheet) (bytes : List ℕ) (i : ℕ) (font : Font) (place : Place) (d : ℕ) → i < length bytes
    → letters s (cells_of font (drop i bytes)) place
    ≡ join (letter s (cell_of font (get_or bytes i d)) place) (letters (letter s (cell_of font (get_or bytes i d)) place).edge (cells_of font (drop (i + 1) bytes)) place)
unfolding letters
bytes-more s bytes i font place d h = rw (drop_more bytes i d h) refl

pub bytes-done : (s : Sheet) (bytes : List ℕ) (i : ℕ) (font : Font) (place : Place) → length bytes ≤ i
    → letters s (cells_of font (drop i bytes)) place ≡ nothing s
unfolding letters
bytes-done s bytes i font place h = rw (drop_all i bytes h) refl

-- ---- parts of bytes

pub letters-append : (s : Sheet) (front back : List Cell) (place : Place)
    → letters s (front ++ back) place ≡ join (letters s front place) (letters (letters s front place).edge back place)
unfolding letters
letters-append s [] back place = refl
letters-append s (cell ∷ front) back place =
    let first = letter s cell place in
    grind (arith, join_assoc, letters-append first.edge front back place)

pub parts-more : (s : Sheet) (bytes : List ℕ) (n : ℕ) (font : Font) (place : Place)
    → letters s (cells_of font bytes) place
    ≡ join (letters s (cells_of font (take n bytes)) place) (letters (letters s (cells_of font (take n bytes)) place).edge (cells_of font (drop n bytes)) place)
parts-more s bytes n font place =
    let whole = ap (λ b. cells_of font b) (sym (take-append-drop n bytes)) in
    grind (arith, map-append, letters-append)

-- ---- texts

pub characters-more : (output : Output) (s : Sheet) (bytes rest : List ℕ) (c : ℕ) (font : Font) (place : Place) → IsUtf8 bytes → bytes ≡ encode_utf8 c ++ rest
    → characters output s (chars bytes) font place
    ≡ join (character output s c font place) (characters output (character output s c font place).edge (chars rest) font place)
unfolding characters
characters-more output s bytes rest c font place u h = rw (chars_past_char bytes rest c u h) refl

pub characters-done : (output : Output) (s : Sheet) (bytes : List ℕ) (font : Font) (place : Place) → length bytes ≡ 0
    → characters output s (chars bytes) font place ≡ nothing s
unfolding characters
characters-done output s bytes font place h = rw (chars_of_empty bytes h) refl

-- ---- the characters of a text

pub chars-empty : (bytes : List ℕ) → IsUtf8 bytes → (length (chars bytes) == 0) ≡ (length bytes == 0)
chars-empty [] u = rw chars-nil refl
chars-empty (b ∷ bs) u = chars-some b bs (chars (b ∷ bs)) (encodes-chars (b ∷ bs) u) where
  chars-some : (b : ℕ) (bs cs : List ℕ) → encode_utf8_all cs ≡ b ∷ bs → (length cs == 0) ≡ (length (b ∷ bs) == 0)
  chars-some b bs [] h = absurd (let n = ap length h in omega (arith, n))
  chars-some b bs (c ∷ cs) h = grind (arith, nat_tests)
