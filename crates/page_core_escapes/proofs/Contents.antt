-- Two steps on an option, one after the other.
use Rattle.std.proofs.Common.{◌≡◌, Option, Some, None, option_map, refl, ap, ℕ, suc, ◌+◌, ◌<◌, ◌≤◌, Bool, cond, eqb, nat_eq, nat_le, List, [], ◌∷◌, length, take, drop, sym, ap₂, ◌∙◌, arith, inl, inr, length-drop, true, false, nat_lt, find, unwrap_or, ◌==◌, get_or}
use Rattle.std.specs.Option.{option_and_then}
use Rattle.std.specs.List.{starts_with, list_all}
use Rattle.std.specs.Str.{continuation_len, bytes_eq}
use Rattle.std.proofs.lemmas.Bool.{cases_Bool, cond-true, cond-false, leb-true, cases_lt, and_parts}
use Rattle.std.proofs.lemmas.Bool.Decides.{nat_tests}
use Rattle.page_core_escapes.specs.declared.letters.Shape.{Shape}
use Rattle.page_core_escapes.specs.declared.letters.Shape.TheVariants.{Alone, Glyph, Name, Size, Quoted}
use Rattle.page_core_escapes.specs.declared.extents.Extent.{Extent}
use Rattle.page_core_escapes.specs.declared.extents.Extent.TheVariants.{Whole, QuotedFrom}
use Rattle.page_core_escapes.specs.Lengths.{shape_of, after_sign, character_len, written_len, name_len, sign_len, number_extent, extent_by, extent_of, quoted_len, extent_len, escape_len_by, content_len_within, content_len, escape_len, EscapeRow, table, another, letter_of, begins_size, shape_before}
use Rattle.page_core_base.specs.Bytes.{is_among}
use Rattle.std.specs.Prelude.{codes, if◌then◌else◌}
use Rattle.std.proofs.Math.Dec.{leb-zero}
use Rattle.page_core_escapes.specs.Meanings.{escape_of, bare_name, Face, Meaning, face, face_of, is_one_of, letter_meaning, meaning_by, meaning_of, roman, italic, bold, bold_italic, former, unknown}
use Rattle.page_core_escapes.specs.declared.letters.LetterKind.{LetterKind}
use Rattle.page_core_escapes.specs.declared.letters.Letter.{Letter}
use Rattle.page_core_escapes.specs.machine.Steps.{ShortEscape, ShortFont, FontLetter}

module _ {A B : Type 0} where
  pub and_then-same : (f g : A → Option B) (o : Option A) → ((x : A) → o ≡ Some x → f x ≡ g x) → option_and_then f o ≡ option_and_then g o
  and_then-same f g None same = refl
  and_then-same f g (Some x) same = same x refl

  pub map-same : (f g : A → B) (o : Option A) → ((x : A) → f x ≡ g x) → option_map f o ≡ option_map g o
  map-same f g None same = refl
  map-same f g (Some x) same = ap Some (same x)

module _ {A B C : Type 0} where
  pub and_then-map : (f : B → Option C) (g : A → B) (o : Option A) → option_and_then f (option_map g o) ≡ option_and_then (λ x. f (g x)) o
  and_then-map f g None = refl
  and_then-map f g (Some x) = refl

  pub map-and_then : (f : B → C) (g : A → Option B) (o : Option A) → option_map f (option_and_then g o) ≡ option_and_then (λ x. option_map f (g x)) o
  map-and_then f g None = refl
  map-and_then f g (Some x) = refl

  pub map-map : (f : B → C) (g : A → B) (o : Option A) → option_map f (option_map g o) ≡ option_map (λ x. f (g x)) o
  map-map f g None = refl
  map-map f g (Some x) = refl

-- ---- The length of an argument's content doesn't hang on the number of steps, where there are enough of them.

-- ---- a character takes bytes, and no more than there are

pub character_len-fits : (t : List ℕ) (m : ℕ) → character_len t ≡ Some m → (0 < m) × (m ≤ length t)
character_len-fits [] m e = cc
character_len-fits (b ∷ bs) m e =
    elim (cases_Bool (nat_le (continuation_len b) (length bs))) [
      | inl fits ↦
          let is : Some (continuation_len b + 1) ≡ Some m = sym (cond-true _ _ _ fits) ∙ e in
          let same : continuation_len b + 1 ≡ m = cc in
          let le = leb-true _ _ fits in
          (omega arith, omega arith)
      | inr past ↦ let is : None ≡ Some m = sym (cond-false _ _ _ past) ∙ e in cc
    ]

module _ (pairs : Bool) where
  -- a pair of quotes, too
  pub written_len-fits : (t : List ℕ) (m : ℕ) → written_len pairs t ≡ Some m → (0 < m) × (m ≤ length t)
  written_len-fits t m e = grind (arith, nat_tests)

  -- ---- an escape takes bytes

  whole_after : (after : ℕ) (o : Option ℕ) (n : ℕ) → 0 < after → option_map (λ k. Whole (k + after)) o ≡ Some (Whole n) → 0 < n
  whole_after after None n some e = cc
  whole_after after (Some k) n some e = let is : k + after ≡ n = cc in omega arith

  number_extent-some : (before : ℕ) (t : List ℕ) (n : ℕ) → 0 < before → number_extent pairs before t ≡ Some (Whole n) → 0 < n
  number_extent-some before [] n some e = cc
  number_extent-some before (b ∷ bs) n some e = grind (arith, nat_tests)

  extent_by-some : (s : Shape) (key : ℕ) (rest : List ℕ) (n : ℕ) → extent_by pairs s key rest ≡ Some (Whole n) → 0 < n
  extent_by-some Alone key rest n e = whole_after 1 (written_len pairs (key ∷ rest)) n (omega arith) e
  extent_by-some Glyph key rest n e = whole_after 1 (name_len pairs (key ∷ rest)) n (omega arith) e
  extent_by-some Name key rest n e = whole_after 2 (name_len pairs rest) n (omega arith) e
  extent_by-some Size key rest n e = number_extent-some (2 + sign_len rest) (after_sign rest) n (omega arith) e
  extent_by-some Quoted key rest n e = cc

  extent_of-some : (t : List ℕ) (n : ℕ) → extent_of pairs t ≡ Some (Whole n) → 0 < n
  extent_of-some [] n e = cc
  extent_of-some (b ∷ []) n e = let is : 1 ≡ n = cc in omega arith
  extent_of-some (b ∷ key ∷ rest) n e = extent_by-some (shape_of key rest) key rest n e

  quoted_len-some : (f : List ℕ → List ℕ → Option ℕ) (t : List ℕ) (n : ℕ) → quoted_len pairs f t ≡ Some n → 0 < n
  unfolding quoted_len
  quoted_len-some f t n e = go (written_len pairs t) (written_len-fits t) e
    where
      go : (o : Option ℕ) → ((m : ℕ) → o ≡ Some m → (0 < m) × (m ≤ length t)) → option_and_then (λ mark. option_map (λ k. mark + (k + mark)) (f (take mark t) (drop mark t))) o ≡ Some n → 0 < n
      go None fits e = cc
      go (Some m) fits e = inner m (fits m refl).0 (f (take m t) (drop m t)) e
        where
          inner : (m : ℕ) → 0 < m → (o : Option ℕ) → option_map (λ k. m + (k + m)) o ≡ Some n → 0 < n
          inner m some None e = cc
          inner m some (Some k) e = let is : m + (k + m) ≡ n = cc in omega arith

  escape_len_by-some : (f : List ℕ → List ℕ → Option ℕ) (t : List ℕ) (n : ℕ) → escape_len_by pairs f t ≡ Some n → 0 < n
  unfolding escape_len_by extent_len
  escape_len_by-some f t n e = go (extent_of pairs t) (extent_of-some t) e
    where
      go : (o : Option Extent) → ((m : ℕ) → o ≡ Some (Whole m) → 0 < m) → option_and_then (extent_len pairs f t) o ≡ Some n → 0 < n
      go None some e = cc
      go (Some (Whole m)) some e = let is : m ≡ n = cc in let above = some m refl in omega arith
      go (Some (QuotedFrom m)) some e = inner (quoted_len pairs f (drop m t)) (quoted_len-some f (drop m t)) e
        where
          inner : (o : Option ℕ) → ((k : ℕ) → o ≡ Some k → 0 < k) → option_map (λ k. m + k) o ≡ Some n → 0 < n
          inner None above e = cc
          inner (Some k) above e = let is : m + k ≡ n = cc in let more = above k refl in omega arith

  -- ---- only shorter texts are asked for their content

  quoted_len-same : (f g : List ℕ → List ℕ → Option ℕ) (t : List ℕ) → ((d u : List ℕ) → length u < length t → f d u ≡ g d u) → quoted_len pairs f t ≡ quoted_len pairs g t
  unfolding quoted_len
  quoted_len-same f g t same =
      and_then-same _ _ (written_len pairs t) (λ mark is.
      let fits = written_len-fits t mark is in
      ap (option_map (λ k. mark + (k + mark))) (same (take mark t) (drop mark t) (omega (arith, length-drop mark t))))

  escape_len_by-same : (f g : List ℕ → List ℕ → Option ℕ) (t : List ℕ) → ((d u : List ℕ) → length u < length t → f d u ≡ g d u) → escape_len_by pairs f t ≡ escape_len_by pairs g t
  unfolding escape_len_by extent_len
  escape_len_by-same f g t same = and_then-same (extent_len pairs f t) (extent_len pairs g t) (extent_of pairs t) (λ extent is. go extent)
    where
      go : (extent : Extent) → extent_len pairs f t extent ≡ extent_len pairs g t extent
      go (Whole n) = refl
      go (QuotedFrom n) = ap (option_map (λ k. n + k)) (quoted_len-same f g (drop n t) (λ d u lt. same d u (omega (arith, length-drop n t))))

  -- ---- what is read first in an argument's content, and what follows

  abbrev pub next_content : (f : List ℕ → List ℕ → Option ℕ) → List ℕ → List ℕ → Option ℕ
  next_content f d [] = None
  next_content f d (b ∷ bs) =
      cond (eqb b 0x5C) (option_and_then (λ n. option_map (λ k. n + k) (f d (drop n (b ∷ bs)))) (escape_len_by pairs f (b ∷ bs))) (cond (starts_with nat_eq (b ∷ bs) d) (Some 0) (option_map (λ k. 1 + k) (f d bs)))

  next_content-same : (f g : List ℕ → List ℕ → Option ℕ) (d t : List ℕ) → ((e u : List ℕ) → length u < length t → f e u ≡ g e u) → next_content f d t ≡ next_content g d t
  next_content-same f g d [] same = refl
  next_content-same f g d (b ∷ bs) same =
      let escapes = escape_len_by-same f g (b ∷ bs) same in
      let after = and_then-same (λ n. option_map (λ k. n + k) (f d (drop n (b ∷ bs)))) (λ n. option_map (λ k. n + k) (g d (drop n (b ∷ bs)))) (escape_len_by pairs f (b ∷ bs)) (λ n is.
      let some = escape_len_by-some f (b ∷ bs) n is in
      ap (option_map (λ k. n + k)) (same d (drop n (b ∷ bs)) (omega (arith, length-drop n (b ∷ bs))))) in
      let past_escape = after ∙ ap (option_and_then (λ n. option_map (λ k. n + k) (g d (drop n (b ∷ bs))))) escapes in
      let past_byte = ap (option_map (λ k. 1 + k)) (same d bs (omega arith)) in
      ap₂ (cond (eqb b 0x5C)) past_escape (ap (cond (starts_with nat_eq (b ∷ bs) d) (Some 0)) past_byte)

  -- ---- enough steps are as good as more

  content_len_within-next : (n : ℕ) (d t : List ℕ) → content_len_within pairs (suc n) d t ≡ next_content (content_len_within pairs n) d t
  unfolding content_len_within
  content_len_within-next n d [] = refl
  content_len_within-next n d (b ∷ bs) = refl

  content_len_within-same : (n m : ℕ) (d t : List ℕ) → length t < n → length t < m → content_len_within pairs n d t ≡ content_len_within pairs m d t
  content_len_within-same (suc n) (suc m) d t below above =
      content_len_within-next n d t
      ∙ next_content-same (content_len_within pairs n) (content_len_within pairs m) d t (λ e u lt. content_len_within-same n m e u (omega arith) (omega arith))
      ∙ sym (content_len_within-next m d t)
  content_len_within-same _ _ d t below above = absurd (omega arith)

  -- what is read first, and the rest by the same definition
  pub content_len-next : (d t : List ℕ) → content_len pairs d t ≡ next_content (content_len pairs) d t
  unfolding content_len
  content_len-next d t =
      content_len_within-next (length t) d t
      ∙ next_content-same (content_len_within pairs (length t)) (content_len pairs) d t (λ e u lt. content_len_within-same (length t) (suc (length u)) e u lt (omega arith))

  -- ---- the length of an escape by its form

  pub escape_len-none : (t : List ℕ) → extent_of pairs t ≡ None → escape_len pairs t ≡ None
  unfolding escape_len escape_len_by
  escape_len-none t is = ap (option_and_then (extent_len pairs (content_len pairs) t)) is

  pub escape_len-whole : (t : List ℕ) (n : ℕ) → extent_of pairs t ≡ Some (Whole n) → escape_len pairs t ≡ Some n
  unfolding escape_len escape_len_by extent_len
  escape_len-whole t n is = ap (option_and_then (extent_len pairs (content_len pairs) t)) is

  pub escape_len-quoted : (t : List ℕ) (n : ℕ) → extent_of pairs t ≡ Some (QuotedFrom n) → escape_len pairs t ≡ option_map (λ k. n + k) (quoted_len pairs (content_len pairs) (drop n t))
  unfolding escape_len escape_len_by extent_len
  escape_len-quoted t n is = ap (option_and_then (extent_len pairs (content_len pairs) t)) is

  pub escape_len-some : (t : List ℕ) (n : ℕ) → escape_len pairs t ≡ Some n → 0 < n
  unfolding escape_len
  escape_len-some t n e = escape_len_by-some (content_len pairs) t n e

-- ---- What is known of an escape's letter by what follows it.

abbrev is_ascii : EscapeRow → Bool
is_ascii r = list_all (λ k. nat_lt k 128) r.keys

-- a byte past ASCII is not among some of ASCII
among-high : (key : ℕ) (keys : List ℕ) → list_all (λ k. nat_lt k 128) keys ≡ true → 128 ≤ key → is_among key keys ≡ false
among-high key [] all high = refl
among-high key (k ∷ ks) all high =
    let parts = and_parts (nat_lt k 128) (list_all (λ k. nat_lt k 128) ks) all in
    let first : eqb key k ≡ false = grind (arith, nat_tests, parts.0, high) in
    rw (first, among-high key ks parts.1 high) refl

find-high : (key : ℕ) (rows : List EscapeRow) → list_all is_ascii rows ≡ true → 128 ≤ key → find (λ row. is_among key row.keys) rows ≡ None
find-high key [] all high = refl
find-high key (r ∷ rs) all high =
    let parts = and_parts (is_ascii r) (list_all is_ascii rs) all in
    cond-false _ _ _ (among-high key r.keys parts.0 high) ∙ find-high key rs parts.1 high

letter_of-high : (key : ℕ) → 128 ≤ key → letter_of key ≡ another
unfolding letter_of
letter_of-high key high = ap (λ o. unwrap_or (option_map (λ (row : EscapeRow). row.letter) o) another) (find-high key table refl high)

abbrev pub is_alone : Shape → Bool
is_alone Alone = true
is_alone _ = false

pub shape_alone : (s : Shape) → is_alone s ≡ true → s ≡ Alone
shape_alone Alone e = refl
shape_alone _ e = cc

-- a letter that something follows is one of ASCII
pub letter_ascii : (key : ℕ) (s : Shape) → (letter_of key).shape ≡ s → is_alone s ≡ false → key < 128
letter_ascii key s shape other =
    elim (cases_lt key 128) [
      | inl low ↦ low
      | inr high ↦ let alone : true ≡ false = ap (λ l. is_alone l.shape) (sym (letter_of-high key high)) ∙ ap is_alone shape ∙ other in cc
    ]

-- what follows the letter, and that a size does where one is wanted
pub record Follows (s : Shape) (rest : List ℕ) : Type 0 where
  pub same : is_alone (shape_before rest s) ≡ false → shape_before rest s ≡ s
  pub size : shape_before rest s ≡ Size → begins_size (after_sign rest) ≡ true

pub follows : (s : Shape) (rest : List ℕ) → Follows s rest
follows Size rest = grind (arith, nat_tests)
follows _ rest = record { same = λ e. refl; size = λ e. cc }

-- the letter of an escape of a shape
pub shape_ascii : (key : ℕ) (rest : List ℕ) (s : Shape) → shape_of key rest ≡ s → is_alone s ≡ false → key < 128
shape_ascii key rest s shape other =
    let same = (follows (letter_of key).shape rest).same (ap is_alone shape ∙ other) in
    letter_ascii key s (sym same ∙ shape) other

-- ---- Escapes that are known by few bytes, and fonts that one letter names.

-- a character of one byte
alone_len : (letter : ℕ) (rest : List ℕ) → continuation_len letter ≡ 0 → character_len (letter ∷ rest) ≡ Some 1
alone_len letter rest e = rw e (cond-true _ _ _ (leb-zero (length rest)))

-- that is no quote
written_alone : (pairs : Bool) (letter : ℕ) (rest : List ℕ) → continuation_len letter ≡ 0 → (34 == letter) ≡ false → written_len pairs (letter ∷ rest) ≡ Some 1
written_alone true letter rest e other = rw other (alone_len letter rest e)
written_alone false letter rest e other = alone_len letter rest e

short_escape : (pairs : Bool) (letter : ℕ) (rest : List ℕ) (font : Face) → FontLetter letter font → escape_of pairs (92 ∷ 102 ∷ letter ∷ rest) ≡ (face font, 3)
unfolding escape_of escape_len escape_len_by extent_len letter_of meaning_of
short_escape pairs letter rest font f = rw (f.alone pairs rest, f.bare, f.named) refl

pub short_font : (text : List ℕ) (font : Face) → 3 ≤ length text → get_or text 0 0 ≡ 92 → get_or text 1 0 ≡ 102 → FontLetter (get_or text 2 0) font
    → ShortFont text font 3
short_font (x ∷ y ∷ z ∷ rest) font h a b f =
    let first : x ≡ 92 = a in
    let second : y ≡ 102 = b in
    record { backslash = a; escape = record { not_empty = omega arith; within = h; escape = λ pairs. rw (first, second) (short_escape pairs z rest font f) } }
short_font _ font h a b f = absurd (omega (arith, h))

code_name : (pairs : Bool) (rest : List ℕ) → name_len pairs (40 ∷ 67 ∷ 87 ∷ rest) ≡ Some 3
code_name pairs rest =
    ap (λ o. option_map (λ k. k + 1) (option_and_then (λ first. option_map (λ second. first + second) (written_len pairs (drop first (67 ∷ 87 ∷ rest)))) o)) (written_alone pairs 67 (87 ∷ rest) refl refl)
    ∙ ap (λ o. option_map (λ k. k + 1) (option_map (λ second. 1 + second) o)) (written_alone pairs 87 rest refl refl)

code_escape : (pairs : Bool) (rest : List ℕ) → escape_of pairs (92 ∷ 102 ∷ 40 ∷ 67 ∷ 87 ∷ rest) ≡ (face roman, 5)
unfolding escape_of escape_len escape_len_by extent_len letter_of meaning_of face_of
code_escape pairs rest = rw (code_name pairs rest) refl

pub code_font : (text : List ℕ) → 5 ≤ length text → get_or text 0 0 ≡ 92 → get_or text 1 0 ≡ 102 → get_or text 2 0 ≡ 40 → get_or text 3 0 ≡ 67
    → get_or text 4 0 ≡ 87 → ShortFont text roman 5
code_font (x ∷ y ∷ z ∷ u ∷ v ∷ rest) h a b c d e =
    let first : x ≡ 92 = a in
    let second : y ≡ 102 = b in
    let third : z ≡ 40 = c in
    let fourth : u ≡ 67 = d in
    let fifth : v ≡ 87 = e in
    record { backslash = a; escape = record { not_empty = omega arith; within = h; escape = λ pairs. rw (first, second, third, fourth, fifth) (code_escape pairs rest) } }
code_font _ h a b c d e = absurd (omega (arith, h))

-- an escape of a letter alone, whose row has this kind
alone_escape : (letter : ℕ) (kind : LetterKind) → letter_of letter ≡ record { shape = Alone; kind = kind } → continuation_len letter ≡ 0 → (34 == letter) ≡ false
    → (pairs : Bool) (rest : List ℕ) → escape_of pairs (92 ∷ letter ∷ rest) ≡ (meaning_by kind [] (letter ∷ []), 2)
unfolding escape_of escape_len escape_len_by extent_len meaning_of
alone_escape letter kind row ascii other pairs rest =
    let by : Letter → Meaning × ℕ = λ l. (letter_meaning pairs l (letter ∷ []), 2) in
    rw (row, written_alone pairs letter rest ascii other) (ap by row)

pub short_alone : (letter : ℕ) (kind : LetterKind) → letter_of letter ≡ record { shape = Alone; kind = kind } → continuation_len letter ≡ 0 → (34 == letter) ≡ false
    → (text : List ℕ) → 2 ≤ length text → get_or text 0 0 ≡ 92 → get_or text 1 0 ≡ letter → ShortEscape text (meaning_by kind [] (letter ∷ [])) 2
short_alone letter kind row ascii other (x ∷ y ∷ rest) h a b =
    let first : x ≡ 92 = a in
    let second : y ≡ letter = b in
    record { not_empty = omega arith; within = h; escape = λ pairs. rw (first, second) (alone_escape letter kind row ascii other pairs rest) }
short_alone letter kind row ascii other _ h a b = absurd (omega (arith, h))

-- a letter or a digit that names a font
pub font_letter : (letter : ℕ) → bare_name (letter ∷ []) ≡ letter ∷ [] → continuation_len letter ≡ 0 → (34 == letter) ≡ false
    → ((pairs : Bool) (rest : List ℕ) → name_len pairs (letter ∷ rest) ≡ written_len pairs (letter ∷ rest)) → FontLetter letter (face_of (letter ∷ []))
font_letter letter bare ascii other alone = record { named = refl; bare = bare; alone = λ pairs rest. alone pairs rest ∙ written_alone pairs letter rest ascii other }

-- ---- names of several letters

one_longer : (b c : ℕ) (bs : List ℕ) (x : ℕ) → bytes_eq (b ∷ c ∷ bs) (x ∷ []) ≡ false
one_longer b c bs x = elim (cases_Bool (b == x)) [ inl e ↦ rw e refl | inr e ↦ rw e refl ]

-- the fonts that they name
abbrev pub several : List ℕ → Face
several name =
    if is_one_of name (codes "CW" ∷ codes "CR" ∷ []) then roman else (
    if is_one_of name (codes "CI" ∷ []) then italic else (
    if is_one_of name (codes "CB" ∷ []) then bold else (
    if is_one_of name (codes "BI" ∷ []) then bold_italic else unknown name)))

pub face_of-several : (name : List ℕ) → 2 ≤ length name → several name ≡ face_of name
unfolding face_of
face_of-several (b ∷ c ∷ bs) h =
    rw (one_longer b c bs 82, one_longer b c bs 49, one_longer b c bs 73, one_longer b c bs 50, one_longer b c bs 66, one_longer b c bs 51, one_longer b c bs 52, one_longer b c bs 80)
    refl
face_of-several _ h = absurd (omega (arith, h))

-- ---- other names

pub face_of-empty : (name : List ℕ) → length name ≡ 0 → former ≡ face_of name
unfolding face_of
face_of-empty [] h = refl
face_of-empty (b ∷ bs) h = absurd (omega arith)

pub one_letter : (name : List ℕ) → length name ≡ 1 → get_or name 0 0 ∷ [] ≡ name
one_letter (b ∷ []) h = refl
one_letter _ h = absurd (omega arith)
