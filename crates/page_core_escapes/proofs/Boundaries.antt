-- An escape ends where a character ends.
use Rattle.std.proofs.Common.{◌≡◌, ℕ, suc, ◌+◌, ◌<◌, true, false, eqb, nat_eq, List, [], ◌∷◌, ◌++◌, length, take, drop, get_or, Option, Some, None, option_map, refl, sym, ap, subst, ◌∙◌, arith, position, codes, add-zero, ◌-◌, ◌≤◌, unwrap_or, ap₂, inl, inr, add-one, take-take, zero, Bool, cond}
use Rattle.std.specs.Option.{option_and_then}
use Rattle.std.specs.List.{starts_with}
use Rattle.std.specs.Str.{IsUtf8, IsCharBoundary}
use Rattle.std.proofs.Math.Utf8.{encode}
use Rattle.std.proofs.lemmas.Bool.{cond_both, eqb-true, cases_Bool, cond-true, cond-false}
use Rattle.std.proofs.lemmas.Bool.Decides.{Decides-eqb, nat_tests}
use Rattle.std.proofs.lemmas.Slice.Eq.{starts_is}
use Rattle.std.proofs.lemmas.List.{drop-drop, length-drop, length-append, get_or-drop, length-take-le, drop-take}
use Rattle.std.proofs.lemmas.List.Quantifiers.{position-Some}
use Rattle.std.proofs.lemmas.Str.{IsUtf8-drop, IsUtf8-past_char, IsCharBoundary-after_ascii, IsUtf8-take, IsCharBoundary-before_ascii, IsUtf8-nil}
use Rattle.page_core_base.specs.Bytes.{is_sign, is_among}
use Rattle.page_core_escapes.specs.declared.letters.Shape.{Shape}
use Rattle.page_core_escapes.specs.declared.letters.Shape.TheVariants.{Alone, Glyph, Name, Size, Quoted}
use Rattle.page_core_escapes.specs.declared.extents.Extent.{Extent}
use Rattle.page_core_escapes.specs.declared.extents.Extent.TheVariants.{Whole, QuotedFrom}
use Rattle.page_core_escapes.specs.Lengths.{letter_of, after_sign, begins_size, shape_of, character_len, two_characters_len, bracketed_len, name_len, has_two_digits, number_len, sign_len, number_extent, extent_by, extent_of, quoted_len, extent_len, escape_len_by, content_len_within, content_len, escape_len, shape_before}
use Rattle.page_core_escapes.proofs.Contents.{follows, shape_ascii, letter_ascii, character_len-fits, escape_len-none, escape_len-whole, escape_len-quoted}
use Rattle.page_core_escapes.proofs.Unwinding.{CutsAt, CutsAt-add, CutsAt-ascii, Taken, character_len-taken, begins_with, CutsAt-boundary, character_len-encode}
use Rattle.std.proofs.Math.Seq.{take-append-add}
use Rattle.page_core_escapes.specs.Meanings.{without_last, bare_name, bare_quoted, Face, roman, italic, bold, bold_italic, former, unknown, glyph, face, face_of, bracketed, names_code_point, argument_of, meaning_by, meaning_of, read_escape, escape_of}
use Rattle.page_core_escapes.specs.declared.letters.LetterKind.{LetterKind}
use Rattle.page_core_escapes.specs.declared.letters.LetterKind.TheVariants as means
use Rattle.page_core_escapes.specs.laws.Views.{HasTexts}

-- ---- steps over ASCII

start_cut : (t : List ℕ) → IsUtf8 t → CutsAt t 0
start_cut t utf8 = record { within = omega arith; utf8 = utf8 }

past_ascii : (b : ℕ) (bs : List ℕ) (n : ℕ) → IsUtf8 (b ∷ bs) → b < 128 → (IsUtf8 bs → CutsAt bs n) → CutsAt (b ∷ bs) (1 + n)
past_ascii b bs n utf8 ascii then =
    CutsAt-add {t = b ∷ bs} {n = 1} (record { within = omega arith; utf8 = CutsAt-ascii b bs utf8 ascii }) (then (CutsAt-ascii b bs utf8 ascii))

-- ---- names

-- what an option of a length says where it is there
abbrev pub CutsAtSome : List ℕ → Option ℕ → Type 0
CutsAtSome t o = (n : ℕ) → o ≡ Some n → CutsAt t n

pub character_cut : (t : List ℕ) → IsUtf8 t → CutsAtSome t (character_len t)
character_cut t utf8 n e = (character_len-taken t n utf8 e).cut

pub two_characters_cut : (t : List ℕ) → IsUtf8 t → CutsAtSome t (two_characters_len false t)
two_characters_cut t utf8 n e = go (character_len t) (character_cut t utf8) e
  where
    go : (o : Option ℕ) → CutsAtSome t o → option_and_then (λ first. option_map (λ second. first + second) (character_len (drop first t))) o ≡ Some n → CutsAt t n
    go None cut e = cc
    go (Some m) cut e = second (character_len (drop m t)) (character_cut (drop m t) (cut m refl).utf8) e
      where
        second : (o : Option ℕ) → CutsAtSome (drop m t) o → option_map (λ second. m + second) o ≡ Some n → CutsAt t n
        second None next e = cc
        second (Some k) next e = let is : m + k ≡ n = cc in subst (CutsAt t) is (CutsAt-add (cut m refl) (next k refl))

bracketed_cut : (t : List ℕ) → IsUtf8 t → CutsAtSome t (bracketed_len t)
bracketed_cut t utf8 n e = go (position (λ b. eqb b 0x5D) t) (λ k is. position-Some (λ b. eqb b 0x5D) t k 0 is) e
  where
    go : (o : Option ℕ) → ((k : ℕ) → o ≡ Some k → (k < length t) × (eqb (get_or t k 0) 0x5D ≡ true) × ((j : ℕ) → j < k → eqb (get_or t j 0) 0x5D ≡ false)) → option_map (λ k. k + 1) o ≡ Some n → CutsAt t n
    go None found e = cc
    go (Some k) found e =
        let is : k + 1 ≡ n = cc in
        let here = found k refl in
        let bracket = eqb-true (get_or t k 0) 0x5D here.1 in
        subst (CutsAt t) is (record { within = let lt = here.0 in omega arith; utf8 = IsUtf8-drop t (k + 1) utf8 (IsCharBoundary-after_ascii t k utf8 here.0 (omega arith)) })

-- one byte of ASCII, then a length
one_more : (b : ℕ) (bs : List ℕ) (o : Option ℕ) → IsUtf8 (b ∷ bs) → b < 128 → (IsUtf8 bs → CutsAtSome bs o) → CutsAtSome (b ∷ bs) (option_map (λ k. k + 1) o)
one_more b bs None utf8 ascii next n e = cc
one_more b bs (Some k) utf8 ascii next n e =
    let is : k + 1 ≡ n = cc in
    let same : 1 + k ≡ n = omega arith in
    subst (CutsAt (b ∷ bs)) same (past_ascii b bs k utf8 ascii (λ rest. next rest k refl))

name_cut : (t : List ℕ) → IsUtf8 t → CutsAtSome t (name_len false t)
name_cut [] utf8 = λ n e. cc
name_cut (b ∷ bs) utf8 =
    cond_both (eqb b 0x28) _ _ (CutsAtSome (b ∷ bs))
    (λ is. let paren = eqb-true b 0x28 is in one_more b bs (two_characters_len false bs) utf8 (omega arith) (two_characters_cut bs))
    (λ _.
    cond_both (eqb b 0x5B) _ _ (CutsAtSome (b ∷ bs))
    (λ is. let bracket = eqb-true b 0x5B is in one_more b bs (bracketed_len bs) utf8 (omega arith) (bracketed_cut bs))
    (λ _. character_cut (b ∷ bs) utf8))

-- ---- sizes

two_digits_cut : (t : List ℕ) → IsUtf8 t → has_two_digits t ≡ true → CutsAt t 2
two_digits_cut (b ∷ d ∷ ds) utf8 e =
    past_ascii b (d ∷ ds) 1 utf8 (grind (arith, nat_tests, e)) (λ rest. past_ascii d ds 0 rest (grind (arith, nat_tests, e)) (start_cut ds))
two_digits_cut _ utf8 e = cc

number_cut : (b : ℕ) (bs : List ℕ) → IsUtf8 (b ∷ bs) → b < 128 → CutsAtSome (b ∷ bs) (number_len false (b ∷ bs))
number_cut b bs utf8 ascii =
    cond_both (is_among b (codes "([")) _ _ (CutsAtSome (b ∷ bs)) (λ _. name_cut (b ∷ bs) utf8)
    (λ _.
    cond_both (has_two_digits (b ∷ bs)) _ _ (CutsAtSome (b ∷ bs))
    (λ is n e. let same : 2 ≡ n = cc in subst (CutsAt (b ∷ bs)) same (two_digits_cut (b ∷ bs) utf8 is))
    (λ _ n e. let same : 1 ≡ n = cc in subst (CutsAt (b ∷ bs)) same (past_ascii b bs 0 utf8 ascii (start_cut bs))))

sign_cut : (t : List ℕ) → IsUtf8 t → CutsAt t (sign_len t)
sign_cut [] utf8 = start_cut [] utf8
sign_cut (b ∷ bs) utf8 =
    cond_both (is_sign b) 1 0 (CutsAt (b ∷ bs))
    (λ is. past_ascii b bs 0 utf8 (grind (arith, nat_tests, is)) (start_cut bs))
    (λ _. start_cut (b ∷ bs) utf8)

drop-sign_len : (t : List ℕ) → drop (sign_len t) t ≡ after_sign t
drop-sign_len [] = refl
drop-sign_len (b ∷ bs) = cond_both (is_sign b) 1 0 (λ n. drop n (b ∷ bs) ≡ after_sign (b ∷ bs)) (λ is. rw is refl) (λ no. rw no refl)

size_ascii : (b : ℕ) (bs : List ℕ) → begins_size (b ∷ bs) ≡ true → b < 128
size_ascii b bs e = grind (arith, nat_tests, e)

-- ---- forms

-- the bytes of an escape, or those before its quoted argument
abbrev extent_place : Extent → ℕ
extent_place (Whole n) = n
extent_place (QuotedFrom n) = n

abbrev ExtentCuts : List ℕ → Option Extent → Type 0
ExtentCuts t o = (f : Extent) → o ≡ Some f → CutsAt t (extent_place f)

whole_cuts : (t : List ℕ) (g : ℕ → ℕ) (o : Option ℕ) → ((k : ℕ) → o ≡ Some k → CutsAt t (g k)) → ExtentCuts t (option_map (λ k. Whole (g k)) o)
whole_cuts t g None cut f e = cc
whole_cuts t g (Some k) cut f e = let same : Whole (g k) ≡ f = cc in subst (λ f. CutsAt t (extent_place f)) same (cut k refl)

-- an escape with a size that begins after a cut
number_extent_cuts : (t : List ℕ) (before : ℕ) (u : List ℕ) → CutsAt t before → drop before t ≡ u → ((b : ℕ) (bs : List ℕ) → u ≡ b ∷ bs → b < 128) → ExtentCuts t (number_extent false before u)
number_extent_cuts t before [] cut is ascii = λ f e. cc
number_extent_cuts t before (b ∷ bs) cut is ascii =
    cond_both (eqb b 0x27) (Some (QuotedFrom before)) (option_map (λ k. Whole (before + k)) (number_len false (b ∷ bs))) (ExtentCuts t)
    (λ _ f e. let same : QuotedFrom before ≡ f = cc in subst (λ f. CutsAt t (extent_place f)) same cut)
    (λ _.
    whole_cuts t (λ k. before + k) (number_len false (b ∷ bs)) (λ k found.
    CutsAt-add cut (subst (λ v. CutsAt v k) (sym is) (number_cut b bs (subst (λ v. IsUtf8 v) is cut.utf8) (ascii b bs refl) k found))))

module _ (b key : ℕ) (rest : List ℕ) (utf8 : IsUtf8 (b ∷ key ∷ rest)) (ascii : b < 128) where
  -- past the backslash
  after_one : (k : ℕ) → (IsUtf8 (key ∷ rest) → CutsAt (key ∷ rest) k) → CutsAt (b ∷ key ∷ rest) (k + 1)
  after_one k then =
      let same : 1 + k ≡ k + 1 = omega arith in
      subst (CutsAt (b ∷ key ∷ rest)) same (past_ascii b (key ∷ rest) k utf8 ascii then)

  -- past the letter after it
  after_two : key < 128 → (k : ℕ) → (IsUtf8 rest → CutsAt rest k) → CutsAt (b ∷ key ∷ rest) (k + 2)
  after_two low k then =
      let same : 1 + (1 + k) ≡ k + 2 = omega arith in
      subst (CutsAt (b ∷ key ∷ rest)) same (past_ascii b (key ∷ rest) (1 + k) utf8 ascii (λ u. past_ascii key rest k u low then))

  size_cuts : key < 128 → begins_size (after_sign rest) ≡ true → ExtentCuts (b ∷ key ∷ rest) (number_extent false (2 + sign_len rest) (after_sign rest))
  size_cuts low size =
      let t = b ∷ key ∷ rest in
      let n = sign_len rest in
      let same : n + 2 ≡ 2 + n = omega arith in
      let place : drop (2 + n) t ≡ after_sign rest = sym (drop-drop n 2 t) ∙ drop-sign_len rest in
      number_extent_cuts t (2 + n) (after_sign rest) (subst (CutsAt t) same (after_two low n (sign_cut rest))) place
      (λ d ds is. size_ascii d ds (ap begins_size (sym is) ∙ size))

  extent_cuts : ExtentCuts (b ∷ key ∷ rest) (extent_of false (b ∷ key ∷ rest))
  extent_cuts = go (shape_of key rest) refl
    where
      t : List ℕ
      t = b ∷ key ∷ rest

      go : (s : Shape) → shape_of key rest ≡ s → ExtentCuts t (extent_by false s key rest)
      go Alone shape = whole_cuts t (λ k. k + 1) (character_len (key ∷ rest)) (λ k found. after_one k (λ u. character_cut (key ∷ rest) u k found))
      go Glyph shape = whole_cuts t (λ k. k + 1) (name_len false (key ∷ rest)) (λ k found. after_one k (λ u. name_cut (key ∷ rest) u k found))
      go Name shape = whole_cuts t (λ k. k + 2) (name_len false rest) (λ k found. after_two (shape_ascii key rest Name shape refl) k (λ u. name_cut rest u k found))
      go Size shape = size_cuts (shape_ascii key rest Size shape refl) ((follows (letter_of key).shape rest).size shape)
      go Quoted shape = λ f e.
          let same : QuotedFrom 2 ≡ f = cc in subst (λ f. CutsAt t (extent_place f)) same (after_two (shape_ascii key rest Quoted shape refl) 0 (start_cut rest))

-- ---- quoted arguments

-- the content ends where the delimiter is
abbrev EndsAtDelimiter : List ℕ → List ℕ → Option ℕ → Type 0
EndsAtDelimiter d t o = (k : ℕ) → o ≡ Some k → starts_with nat_eq (drop k t) d ≡ true

ends_later : (d t : List ℕ) (n : ℕ) (o : Option ℕ) → EndsAtDelimiter d (drop n t) o → EndsAtDelimiter d t (option_map (λ k. n + k) o)
ends_later d t n None ends k e = cc
ends_later d t n (Some j) ends k e =
    let same : n + j ≡ k = cc in
    ap (λ u. starts_with nat_eq u d) (ap (λ k. drop k t) (sym same) ∙ sym (drop-drop j n t)) ∙ ends j refl

ends_after : (d t : List ℕ) (f : ℕ → Option ℕ) (o : Option ℕ) → ((n : ℕ) → EndsAtDelimiter d (drop n t) (f n)) → EndsAtDelimiter d t (option_and_then (λ n. option_map (λ k. n + k) (f n)) o)
ends_after d t f None ends = λ k e. cc
ends_after d t f (Some n) ends = ends_later d t n (f n) (ends n)

content_len_within-ends : (steps : ℕ) (d t : List ℕ) → EndsAtDelimiter d t (content_len_within false steps d t)
unfolding content_len_within
content_len_within-ends (suc n) d (b ∷ bs) =
    let t = b ∷ bs in
    cond_both (eqb b 0x5C) (option_and_then (λ n'. option_map (λ k. n' + k) (content_len_within false n d (drop n' t))) (escape_len_by false (content_len_within false n) t)) _ (EndsAtDelimiter d t)
    (λ _. ends_after d t (λ m. content_len_within false n d (drop m t)) (escape_len_by false (content_len_within false n) t) (λ m. content_len_within-ends n d (drop m t)))
    (λ _.
    cond_both (starts_with nat_eq t d) (Some 0) (option_map (λ k. 1 + k) (content_len_within false n d bs)) (EndsAtDelimiter d t)
    (λ is k e. let same : 0 ≡ k = cc in ap (λ k. starts_with nat_eq (drop k t) d) (sym same) ∙ is)
    (λ _. ends_later d t 1 (content_len_within false n d bs) (content_len_within-ends n d bs)))
content_len_within-ends _ d _ = λ k e. cc

content_len-ends : (d t : List ℕ) → EndsAtDelimiter d t (content_len false d t)
unfolding content_len
content_len-ends d t = content_len_within-ends (suc (length t)) d t

-- where a character's bytes are in a text, a character begins
pub character_begins : (t : List ℕ) (k c : ℕ) → IsUtf8 t → starts_with nat_eq (drop k t) (encode c) ≡ true → CutsAt t k
character_begins t k c utf8 e =
    let d = encode c in
    let b = begins_with c in
    let u = drop k t in
    let is = (starts_is Decides-eqb u d _ refl).0 e in
    let shown : u ≡ b.lead ∷ (b.others ++ drop (length d) u) = is ∙ ap (λ l. l ++ drop (length d) u) b.is in
    let size = ap length shown in
    let inside : k < length t = omega (arith, length-drop k t) in
    let first : get_or t k 0 ≡ b.lead = sym (ap (λ n. get_or t n 0) (add-zero k)) ∙ sym (get_or-drop k t 0 0) ∙ ap (λ l. get_or l 0 0) shown in
    let starts = b.starts in
    let boundary : IsCharBoundary t k = (omega arith, λ lt high. omega (arith, starts (omega arith))) in
    record { within = omega arith; utf8 = IsUtf8-drop t k utf8 boundary }

-- and ends
pub character_ends : (t : List ℕ) (k c : ℕ) → IsUtf8 t → starts_with nat_eq (drop k t) (encode c) ≡ true → CutsAt t (k + length (encode c))
character_ends t k c utf8 e =
    let d = encode c in
    let u = drop k t in
    let is = (starts_is Decides-eqb u d _ refl).0 e in
    let here = character_begins t k c utf8 e in
    let after : CutsAt u (length d) = record {
      within = let all = ap length is in omega (arith, length-append d (drop (length d) u));
      utf8 = IsUtf8-past_char u (drop (length d) u) c here.utf8 is;
    } in
    CutsAt-add here after

-- the content of a quoted argument, and the delimiter after it
pub content_cut : (t : List ℕ) (m k : ℕ) → Taken t m → content_len false (take m t) (drop m t) ≡ Some k → CutsAt (drop m t) k × CutsAt (drop m t) (k + m)
content_cut t m k taken is =
    let c = taken.first.code in
    let found = ap (λ d. starts_with nat_eq (drop k (drop m t)) d) (sym taken.bytes) ∙ content_len-ends (take m t) (drop m t) k is in (
      character_begins (drop m t) k c taken.cut.utf8 found,
      subst (λ l. CutsAt (drop m t) (k + l)) taken.len (character_ends (drop m t) k c taken.cut.utf8 found),
    )

quoted_cut : (t : List ℕ) → IsUtf8 t → CutsAtSome t (quoted_len false (content_len false) t)
unfolding quoted_len
quoted_cut t utf8 = go (character_len t) (λ m is. character_len-taken t m utf8 is)
  where
    inner : (m : ℕ) → Taken t m → (o : Option ℕ) → ((k : ℕ) → o ≡ Some k → CutsAt (drop m t) (k + m)) → CutsAtSome t (option_map (λ k. m + (k + m)) o)
    inner m taken None ends n e = cc
    inner m taken (Some k) ends n e = let same : m + (k + m) ≡ n = cc in subst (CutsAt t) same (CutsAt-add taken.cut (ends k refl))

    go : (o : Option ℕ) → ((m : ℕ) → o ≡ Some m → Taken t m) → CutsAtSome t (option_and_then (λ m. option_map (λ k. m + (k + m)) (content_len false (take m t) (drop m t))) o)
    go None taken = λ n e. cc
    go (Some m) taken = inner m (taken m refl) (content_len false (take m t) (drop m t)) (λ k is. (content_cut t m k (taken m refl) is).1)

-- ---- escapes

extent_of_cuts : (t : List ℕ) → IsUtf8 t → get_or t 0 0 < 128 → ExtentCuts t (extent_of false t)
extent_of_cuts [] utf8 ascii = λ f e. cc
extent_of_cuts (b ∷ []) utf8 ascii = λ f e. let same : Whole 1 ≡ f = cc in subst (λ f. CutsAt (b ∷ []) (extent_place f)) same (past_ascii b [] 0 utf8 ascii (start_cut []))
extent_of_cuts (b ∷ key ∷ rest) utf8 ascii = extent_cuts b key rest utf8 ascii

-- the escape at the front of a text in UTF-8 ends where a character ends
pub escape_len_cuts : (t : List ℕ) (n : ℕ) → IsUtf8 t → get_or t 0 0 < 128 → escape_len false t ≡ Some n → CutsAt t n
unfolding escape_len escape_len_by extent_len
escape_len_cuts t n utf8 ascii = go (extent_of false t) (extent_of_cuts t utf8 ascii) n
  where
    inner : (m : ℕ) → CutsAt t m → (o : Option ℕ) → CutsAtSome (drop m t) o → CutsAtSome t (option_map (λ k. m + k) o)
    inner m cut None next k e = cc
    inner m cut (Some j) next k e = let same : m + j ≡ k = cc in subst (CutsAt t) same (CutsAt-add cut (next j refl))

    go : (o : Option Extent) → ExtentCuts t o → CutsAtSome t (option_and_then (extent_len false (content_len false) t) o)
    go None cuts = λ k e. cc
    go (Some (Whole m)) cuts = λ k e. let same : m ≡ k = cc in subst (CutsAt t) same (cuts (Whole m) refl)
    go (Some (QuotedFrom m)) cuts = inner m (cuts (QuotedFrom m) refl) (quoted_len false (content_len false) (drop m t)) (quoted_cut (drop m t) (cuts (QuotedFrom m) refl).utf8)

-- ---- The arguments of an escape in UTF-8 are in UTF-8.

-- ---- names

-- a name's first byte, and the rest of it
pub take_first : (b : ℕ) (bs : List ℕ) (n k : ℕ) → k + 1 ≡ n → take n (b ∷ bs) ≡ b ∷ take k bs
take_first b bs n k e = ap (λ n. take n (b ∷ bs)) (sym e ∙ add-one k)

pub bare_name-paren : (b : ℕ) (bs : List ℕ) → b ≡ 0x28 → bare_name (b ∷ bs) ≡ bs
bare_name-paren b bs is = ap (λ b. bare_name (b ∷ bs)) is

pub bare_name-bracket : (b : ℕ) (bs : List ℕ) → b ≡ 0x5B → bare_name (b ∷ bs) ≡ without_last bs
bare_name-bracket b bs is = ap (λ b. bare_name (b ∷ bs)) is

bare_name-other : (b : ℕ) (bs : List ℕ) → eqb b 0x28 ≡ false → eqb b 0x5B ≡ false → bare_name (b ∷ bs) ≡ b ∷ bs
bare_name-other b bs paren bracket = cond-false _ _ _ paren ∙ cond-false _ _ _ bracket

-- a name takes bytes
pub name_len-some : (t : List ℕ) (n : ℕ) → name_len false t ≡ Some n → 0 < n
name_len-some [] n e = cc
name_len-some (b ∷ bs) n e =
    elim (cases_Bool (eqb b 0x28)) [
      | inl paren ↦ more (two_characters_len false bs) (sym (cond-true _ _ _ paren) ∙ e)
      | inr no_paren ↦
          elim (cases_Bool (eqb b 0x5B)) [
            | inl bracket ↦ more (bracketed_len bs) (sym (cond-false _ _ _ no_paren ∙ cond-true _ _ _ bracket) ∙ e)
            | inr no_bracket ↦ (character_len-fits (b ∷ bs) n (sym (cond-false _ _ _ no_paren ∙ cond-false _ _ _ no_bracket) ∙ e)).0
          ]
    ]
  where
    more : (o : Option ℕ) → option_map (λ k. k + 1) o ≡ Some n → 0 < n
    more None e = cc
    more (Some k) e = let same : k + 1 ≡ n = cc in omega arith

-- up to the bracket that closes
bracketed_text : (t : List ℕ) (n : ℕ) → IsUtf8 t → bracketed_len t ≡ Some n → IsUtf8 (without_last (take n t))
bracketed_text t n utf8 e = go (position (λ b. eqb b 0x5D) t) (λ k is. position-Some (λ b. eqb b 0x5D) t k 0 is) e
  where
    go : (o : Option ℕ) → ((k : ℕ) → o ≡ Some k → (k < length t) × (eqb (get_or t k 0) 0x5D ≡ true) × ((j : ℕ) → j < k → eqb (get_or t j 0) 0x5D ≡ false)) → option_map (λ k. k + 1) o ≡ Some n → IsUtf8 (without_last (take n t))
    go None found e = cc
    go (Some k) found e =
        let same : k + 1 ≡ n = cc in
        let here = found k refl in
        let lt = here.0 in
        let size : length (take n t) ≡ n = length-take-le n t (omega arith) in
        let less : length (take n t) - 1 ≡ k = omega arith in
        let bracket = eqb-true (get_or t k 0) 0x5D here.1 in
        let shorter : without_last (take n t) ≡ take k t = ap (λ m. take m (take n t)) less ∙ take-take k n t (omega arith) in
        subst (λ u. IsUtf8 u) (sym shorter) (IsUtf8-take t k utf8 (IsCharBoundary-before_ascii t k lt (omega arith)))

pub bare_name_text : (t : List ℕ) (n : ℕ) → IsUtf8 t → name_len false t ≡ Some n → IsUtf8 (bare_name (take n t))
bare_name_text [] n utf8 e = cc
bare_name_text (b ∷ bs) n utf8 e =
    elim (cases_Bool (eqb b 0x28)) [
      | inl paren ↦
          let is = eqb-true b 0x28 paren in
          let rest = CutsAt-ascii b bs utf8 (omega arith) in
          go_paren is rest (two_characters_len false bs) (two_characters_cut bs rest) (sym (cond-true _ _ _ paren) ∙ e)
      | inr no_paren ↦
          elim (cases_Bool (eqb b 0x5B)) [
            | inl bracket ↦
                let is = eqb-true b 0x5B bracket in
                let rest = CutsAt-ascii b bs utf8 (omega arith) in
                go_bracket is (bracketed_len bs) (λ k found. bracketed_text bs k rest found) (sym (cond-false _ _ _ no_paren ∙ cond-true _ _ _ bracket) ∙ e)
            | inr no_bracket ↦
                let found = sym (cond-false _ _ _ no_paren ∙ cond-false _ _ _ no_bracket) ∙ e in
                let cut = character_cut (b ∷ bs) utf8 n found in
                let some = (character_len-fits (b ∷ bs) n found).0 in
                let back : n - 1 + 1 ≡ n = omega arith in
                let shape : take n (b ∷ bs) ≡ b ∷ take (n - 1) bs = take_first b bs n (n - 1) back in
                let whole : bare_name (take n (b ∷ bs)) ≡ take n (b ∷ bs) = ap bare_name shape ∙ bare_name-other b (take (n - 1) bs) no_paren no_bracket ∙ sym shape in
                subst (λ u. IsUtf8 u) (sym whole) (IsUtf8-take (b ∷ bs) n utf8 (CutsAt-boundary cut))
          ]
    ]
  where
    go_paren : b ≡ 0x28 → IsUtf8 bs → (o : Option ℕ) → ((k : ℕ) → o ≡ Some k → CutsAt bs k) → option_map (λ k. k + 1) o ≡ Some n → IsUtf8 (bare_name (take n (b ∷ bs)))
    go_paren is rest None cut e = cc
    go_paren is rest (Some k) cut e =
        let same : k + 1 ≡ n = cc in
        subst (λ u. IsUtf8 u) (sym (ap bare_name (take_first b bs n k same) ∙ bare_name-paren b (take k bs) is)) (IsUtf8-take bs k rest (CutsAt-boundary (cut k refl)))

    go_bracket : b ≡ 0x5B → (o : Option ℕ) → ((k : ℕ) → o ≡ Some k → IsUtf8 (without_last (take k bs))) → option_map (λ k. k + 1) o ≡ Some n → IsUtf8 (bare_name (take n (b ∷ bs)))
    go_bracket is None text e = cc
    go_bracket is (Some k) text e =
        let same : k + 1 ≡ n = cc in
        subst (λ u. IsUtf8 u) (sym (ap bare_name (take_first b bs n k same) ∙ bare_name-bracket b (take k bs) is)) (text k refl)

-- ---- quoted arguments

-- where a text is cut after its first character, that stays its first
character_len-take : (t : List ℕ) (m n : ℕ) → Taken t m → m ≤ n → character_len (take n t) ≡ Some m
character_len-take t m n taken le =
    let c = taken.first.code in
    let shown : take n t ≡ encode c ++ take (n - m) taken.first.rest =
    ap (take n) taken.first.is ∙ take-append n m (encode c) taken.first.rest taken.len le in
    ap character_len shown ∙ character_len-encode c (take (n - m) taken.first.rest) ∙ ap Some taken.len
  where
    take-append : (n m : ℕ) (xs ys : List ℕ) → length xs ≡ m → m ≤ n → take n (xs ++ ys) ≡ xs ++ take (n - m) ys
    take-append n m xs ys size le =
        let split : n ≡ length xs + (n - m) = omega arith in
        ap (λ n. take n (xs ++ ys)) split ∙ take-append-add xs ys (n - m)

pub bare_quoted_text : (t : List ℕ) (n : ℕ) → IsUtf8 t → quoted_len false (content_len false) t ≡ Some n → IsUtf8 (bare_quoted false (take n t))
unfolding quoted_len
bare_quoted_text t n utf8 = go (character_len t) (λ m is. character_len-taken t m utf8 is)
  where
    inner : (m : ℕ) → Taken t m → (o : Option ℕ) → ((k : ℕ) → o ≡ Some k → CutsAt (drop m t) k × CutsAt (drop m t) (k + m)) → option_map (λ k. m + (k + m)) o ≡ Some n → IsUtf8 (bare_quoted false (take n t))
    inner m taken None ends e = cc
    inner m taken (Some k) ends e =
        let same : m + (k + m) ≡ n = cc in
        let cut = (ends k refl).0 in
        let fits = (ends k refl).1.within in
        let mark : unwrap_or (character_len (take n t)) 0 ≡ m = ap (λ o. unwrap_or o 0) (character_len-take t m n taken (omega arith)) in
        let size : length (take n t) ≡ n = length-take-le n t (omega (arith, length-drop m t)) in
        let count : length (take n t) - m - m ≡ k = omega arith in
        let rest : drop m (take n t) ≡ take (k + m) (drop m t) = ap (λ n. drop m (take n t)) (sym same) ∙ drop-take m (k + m) t in
        let whole : bare_quoted false (take n t) ≡ take k (drop m t) =
        ap (λ m. take (length (take n t) - m - m) (drop m (take n t))) mark ∙ ap₂ take count rest ∙ take-take k (k + m) (drop m t) (omega arith) in
        subst (λ u. IsUtf8 u) (sym whole) (IsUtf8-take (drop m t) k taken.cut.utf8 (CutsAt-boundary cut))

    go : (o : Option ℕ) → ((m : ℕ) → o ≡ Some m → Taken t m) → option_and_then (λ m. option_map (λ k. m + (k + m)) (content_len false (take m t) (drop m t))) o ≡ Some n → IsUtf8 (bare_quoted false (take n t))
    go None taken = λ e. cc
    go (Some m) taken = inner m (taken m refl) (content_len false (take m t) (drop m t)) (λ k is. content_cut t m k (taken m refl) is)

-- ---- What an escape in UTF-8 means has texts in UTF-8.

-- ---- the meanings of single escapes

bracketed_texts : (name : List ℕ) → IsUtf8 name → HasTexts (bracketed name)
bracketed_texts name utf8 = cond_both (names_code_point name) _ (glyph name) HasTexts (λ _. tt) (λ _. utf8)

record FaceTexts (f : Face) : Type 0 where
  texts : HasTexts (face f)

either_face : (c : Bool) (f g : Face) → FaceTexts f → FaceTexts g → FaceTexts (cond c f g)
either_face true f g here there = here
either_face false f g here there = there

known_face : (f : Face) → HasTexts (face f) → FaceTexts f
known_face f t = record { texts = t }

face_texts : (name : List ℕ) → IsUtf8 name → FaceTexts (face_of name)
unfolding face_of
face_texts name utf8 =
    either_face _ _ _ (known_face roman tt)
    (either_face _ _ _ (known_face italic tt)
    (either_face _ _ _ (known_face bold tt)
    (either_face _ _ _ (known_face bold_italic tt)
    (either_face _ _ _ (known_face former tt) (known_face (unknown name) utf8)))))

meaning_texts : (kind : LetterKind) (argument text : List ℕ) → IsUtf8 argument → HasTexts (meaning_by kind argument text)
meaning_texts means.Glyph argument text utf8 = utf8
meaning_texts means.CodePoint argument text utf8 = bracketed_texts argument utf8
meaning_texts (means.Char c) argument text utf8 = tt
meaning_texts means.Tab argument text utf8 = tt
meaning_texts means.Blank argument text utf8 = tt
meaning_texts means.Blanks argument text utf8 = utf8
meaning_texts means.Nothing argument text utf8 = tt
meaning_texts means.Size [] text utf8 = tt
meaning_texts means.Size (b ∷ bs) text utf8 = tt
meaning_texts means.Glue argument text utf8 = tt
meaning_texts means.Font argument text utf8 = (face_texts argument utf8).texts
meaning_texts means.Undefined argument text utf8 = tt
meaning_texts means.Unsupported argument text utf8 = tt

-- ---- the argument as it is cut out of the text

Some-None : {x : ℕ} → Some x ≡ None → ⊥
Some-None e = cc

module _ (b key : ℕ) (rest : List ℕ) (utf8 : IsUtf8 (b ∷ key ∷ rest)) (ascii : b < 128) (n : ℕ) (len : escape_len false (b ∷ key ∷ rest) ≡ Some n) where
  after_backslash : IsUtf8 (key ∷ rest)
  after_backslash = CutsAt-ascii b (key ∷ rest) utf8 ascii

  no_extent : extent_of false (b ∷ key ∷ rest) ≡ None → ⊥
  no_extent is = let none : Some n ≡ None = sym len ∙ escape_len-none false (b ∷ key ∷ rest) is in cc

  whole_extent : (m : ℕ) → extent_of false (b ∷ key ∷ rest) ≡ Some (Whole m) → m ≡ n
  whole_extent m is = let same : Some m ≡ Some n = sym (escape_len-whole false (b ∷ key ∷ rest) m is) ∙ len in cc

  cut_glyph : shape_of key rest ≡ Glyph → IsUtf8 (bare_name (key ∷ take (n - 2) rest))
  cut_glyph shape = go (name_len false (key ∷ rest)) refl
    where
      go : (o : Option ℕ) → name_len false (key ∷ rest) ≡ o → IsUtf8 (bare_name (key ∷ take (n - 2) rest))
      go None is = absurd (no_extent (ap (λ s. extent_by false s key rest) shape ∙ ap (option_map (λ k. Whole (k + 1))) is))
      go (Some m) is =
          let same : m + 1 ≡ n = whole_extent (m + 1) (ap (λ s. extent_by false s key rest) shape ∙ ap (option_map (λ k. Whole (k + 1))) is) in
          let some = name_len-some (key ∷ rest) m is in
          let cut : take m (key ∷ rest) ≡ key ∷ take (n - 2) rest = take_first key rest m (n - 2) (omega arith) in
          subst (λ u. IsUtf8 (bare_name u)) cut (bare_name_text (key ∷ rest) m after_backslash is)

  cut_name : key < 128 → shape_of key rest ≡ Name → IsUtf8 (bare_name (take (n - 2) rest))
  cut_name low shape = go (name_len false rest) refl
    where
      go : (o : Option ℕ) → name_len false rest ≡ o → IsUtf8 (bare_name (take (n - 2) rest))
      go None is = absurd (no_extent (ap (λ s. extent_by false s key rest) shape ∙ ap (option_map (λ k. Whole (k + 2))) is))
      go (Some m) is =
          let same : m + 2 ≡ n = whole_extent (m + 2) (ap (λ s. extent_by false s key rest) shape ∙ ap (option_map (λ k. Whole (k + 2))) is) in
          let count : m ≡ n - 2 = omega arith in
          subst (λ m. IsUtf8 (bare_name (take m rest))) count (bare_name_text rest m (CutsAt-ascii key rest after_backslash low) is)

  cut_quoted : key < 128 → shape_of key rest ≡ Quoted → IsUtf8 (bare_quoted false (take (n - 2) rest))
  cut_quoted low shape = go (quoted_len false (content_len false) rest) refl
    where
      extent : extent_of false (b ∷ key ∷ rest) ≡ Some (QuotedFrom 2)
      extent = ap (λ s. extent_by false s key rest) shape

      go : (o : Option ℕ) → quoted_len false (content_len false) rest ≡ o → IsUtf8 (bare_quoted false (take (n - 2) rest))
      go None is =
          let none : Some n ≡ None = sym len ∙ escape_len-quoted false (b ∷ key ∷ rest) 2 extent ∙ ap (option_map (λ k. 2 + k)) is in
          absurd (Some-None none)
      go (Some m) is =
          let both : Some (2 + m) ≡ Some n = sym (escape_len-quoted false (b ∷ key ∷ rest) 2 extent ∙ ap (option_map (λ k. 2 + k)) is) ∙ len in
          let same : 2 + m ≡ n = cc in
          let count : m ≡ n - 2 = omega arith in
          subst (λ m. IsUtf8 (bare_quoted false (take m rest))) count (bare_quoted_text rest m (CutsAt-ascii key rest after_backslash low) is)

  cut_size : key < 128 → IsUtf8 (take (n - 2) rest)
  cut_size low = go n len
    where
      go : (n : ℕ) → escape_len false (b ∷ key ∷ rest) ≡ Some n → IsUtf8 (take (n - 2) rest)
      go zero found = IsUtf8-nil
      go (suc zero) found = IsUtf8-nil
      go (suc (suc m)) found =
          let cut = escape_len_cuts (b ∷ key ∷ rest) (suc (suc m)) utf8 ascii found in
          let whole : IsUtf8 (b ∷ key ∷ take m rest) = IsUtf8-take (b ∷ key ∷ rest) (suc (suc m)) utf8 (CutsAt-boundary cut) in
          let count : m ≡ suc (suc m) - 2 = omega arith in
          subst (λ m. IsUtf8 (take m rest)) count (CutsAt-ascii key (take m rest) (CutsAt-ascii b (key ∷ take m rest) whole ascii) low)

  -- what follows the letter is the letter's, where that wants an argument in a text of its own
  pub cut_argument : IsUtf8 (argument_of false (letter_of key).shape (key ∷ take (n - 2) rest))
  cut_argument = go (letter_of key).shape refl
    where
      go : (s : Shape) → (letter_of key).shape ≡ s → IsUtf8 (argument_of false s (key ∷ take (n - 2) rest))
      go Alone shape = IsUtf8-nil
      go Glyph shape = cut_glyph (ap (shape_before rest) shape)
      go Name shape = cut_name (letter_ascii key Name shape refl) (ap (shape_before rest) shape)
      go Size shape = cut_size (letter_ascii key Size shape refl)
      go Quoted shape = cut_quoted (letter_ascii key Quoted shape refl) (ap (shape_before rest) shape)

-- ---- the whole escape

pub escape_texts : (t : List ℕ) (n : ℕ) → IsUtf8 t → get_or t 0 0 < 128 → escape_len false t ≡ Some n → HasTexts (meaning_of false (take n t))
unfolding meaning_of
escape_texts t zero utf8 ascii e = tt
escape_texts [] (suc n) utf8 ascii e = tt
escape_texts (b ∷ bs) (suc zero) utf8 ascii e = tt
escape_texts (b ∷ []) (suc (suc n)) utf8 ascii e = tt
escape_texts (b ∷ key ∷ rest) (suc (suc n)) utf8 ascii e =
    let count : suc (suc n) - 2 ≡ n = omega arith in
    let text = subst (λ m. IsUtf8 (argument_of false (letter_of key).shape (key ∷ take m rest))) count (cut_argument b key rest utf8 ascii (suc (suc n)) e) in
    meaning_texts (letter_of key).kind _ (key ∷ take n rest) text

-- the escape at a text's front, whether it has its end or not
pub escape_cuts : (t : List ℕ) → IsUtf8 t → get_or t 0 0 < 128 → IsCharBoundary t (escape_of false t).1
unfolding escape_of
escape_cuts t utf8 ascii = go (escape_len false t) (λ n is. CutsAt-boundary (escape_len_cuts t n utf8 ascii is))
  where
    go : (o : Option ℕ) → ((n : ℕ) → o ≡ Some n → IsCharBoundary t n) → IsCharBoundary t (read_escape false t o).1
    go None cut = (omega arith, λ lt high. omega arith)
    go (Some n) cut = cut n refl

pub escape_has_texts : (t : List ℕ) → IsUtf8 t → get_or t 0 0 < 128 → HasTexts (escape_of false t).0
unfolding escape_of
escape_has_texts t utf8 ascii = go (escape_len false t) (λ n is. escape_texts t n utf8 ascii is)
  where
    go : (o : Option ℕ) → ((n : ℕ) → o ≡ Some n → HasTexts (meaning_of false (take n t))) → HasTexts (read_escape false t o).0
    go None texts = tt
    go (Some n) texts = texts n refl
