-- Texts that are read pairwise: helpers of proofs.
use Rattle.std.proofs.Common.{◌≡◌, ◌≢◌, ℕ, zero, suc, ◌+◌, ◌<◌, ◌≤◌, ◌==◌, Bool, true, false, not, List, [], ◌∷◌, length, take, drop, get_or, if◌then◌else◌, refl, sym, ap, ◌∙◌, inl, inr, arith, length-drop, nat_eq, nat_lt, min, ◌++◌, ap₂, drop_of_length-le}
use Rattle.std.proofs.lemmas.Bool.Decides.{nat_tests}
use Rattle.std.proofs.lemmas.List.{drop_more, drop-drop, get_or-drop, drop-append-le, length-append, length-take-le, take_all, take-append-le}
use Rattle.std.proofs.lemmas.List.Sums.{prefix_len_stops, prefix_len-le-length}
use Rattle.std.proofs.lemmas.Bool.{cases_Bool}
use Rattle.std.specs.List.{prefix_len, starts_with}
use Rattle.std.specs.Prelude.{◌&&◌, ◌||◌}
use Rattle.page_core_base.specs.Bytes.{is_white}
use Rattle.page_roff_syntax.specs.machine.Closed.{LacksPair}
use Rattle.page_roff_syntax.proofs.PairLemmas.{lacks_later}
use Rattle.page_roff_syntax.specs.LineForms.{begins_comment, is_name, without_comment}
use Rattle.page_roff_syntax.specs.laws.Views.{is_plain}
use Rattle.page_roff_syntax.specs.Delimiters.{character_len, width_len, delimiter_of, place_of, width_content_len}
use Rattle.page_roff_heads.specs.Conditions.{argument_len, expression_rest, expression_len, longer, texts_after, texts_at, both_len, condition_len, condition_of, has_both, is_odd, kind_of, name_after, name_len, named, read_kind, read_test, reads, second_of, text_before, turn_len, placed}
use Rattle.page_roff_heads.specs.Heads.{end_place}
use Rattle.page_roff_syntax.specs.Arguments.{is_blank, blank_len, after_blanks}
use Rattle.page_roff_heads.specs.declared.conditions.ConditionKind.{ConditionKind}
use Rattle.page_roff_heads.specs.declared.conditions.ConditionKind.TheVariants.{Defined, Register, Expression, Delimiter}
use Rattle.page_roff_heads.specs.declared.conditions.Test.{Test}
use Rattle.page_roff_heads.specs.declared.conditions.Test.TheVariants as tests
use Rattle.page_roff_heads.specs.declared.conditions.TestRead.{TestRead}
use Rattle.page_roff_syntax.proofs.ClosedLemmas.{quoted_len, quoted_none, quoted_some}

-- two texts with their delimiters
pub texts_together : (text delimiter rest : List ℕ) (column m : ℕ) → m ≡ character_len text → delimiter ≡ take m text → rest ≡ drop m text
    → longer m (texts_after delimiter (column + m) rest) ≡ texts_at column text
texts_together text delimiter rest column m a b e = rw (b, e, a) refl

-- ---- expressions

expression_plain : (x : ℕ) (xs : List ℕ) → is_white x ≡ false → (x == 92) ≡ false → expression_len (x ∷ xs) ≡ 1 + expression_len xs
expression_plain x [] s t = rw s refl
expression_plain x (y ∷ ys) s t = rw (s, t) refl

pub expression_byte : (text : List ℕ) (i : ℕ) → i < length text → is_white (get_or text i 0) ≡ false → get_or text i 0 ≢ 92
    → expression_len (drop i text) ≡ 1 + expression_len (drop (i + 1) text)
expression_byte text i h s e =
    let a = drop_more text i 0 h in
    let t : (get_or text i 0 == 92) ≡ false = grind (arith, nat_tests) in
    rw a (expression_plain (get_or text i 0) (drop (i + 1) text) s t)

-- the bytes of an argument are passed
passed : (n : ℕ) (text : List ℕ) → n ≤ length text → expression_rest n text ≡ n + expression_len (drop n text)
passed zero text h = omega arith
passed (suc n) [] h = absurd (omega arith)
passed (suc n) (x ∷ xs) h = let e = passed n xs (omega arith) in omega (arith, e)

expression_two : (x y : ℕ) (ys : List ℕ) → is_white x ≡ false → (x == 92) ≡ true → (y == 123) ≡ false
    → expression_len (x ∷ y ∷ ys) ≡ 2 + expression_rest (argument_len y ys) ys
expression_two x y ys s t u = rw (s, t, u) refl

pub expression_pair : (text : List ℕ) (i n : ℕ) → i + 1 < length text → is_white (get_or text i 0) ≡ false → get_or text i 0 ≡ 92 → get_or text (i + 1) 0 ≢ 123
    → n ≡ argument_len (get_or text (i + 1) 0) (drop (i + 2) text) → n ≤ length (drop (i + 2) text)
    → expression_len (drop i text) ≡ 2 + n + expression_len (drop (i + (2 + n)) text)
expression_pair text i n h s e f m k =
    let a = drop_more text i 0 (omega arith) in
    let b = drop_more text (i + 1) 0 h in
    let c : i + 1 + 1 ≡ i + 2 = omega arith in
    let t : (get_or text i 0 == 92) ≡ true = grind (arith, nat_tests) in
    let u : (get_or text (i + 1) 0 == 123) ≡ false = grind (arith, nat_tests) in
    let d : drop n (drop (i + 2) text) ≡ drop (i + (2 + n)) text = drop-drop n (i + 2) text ∙ ap (λ (k : ℕ). drop k text) (omega arith) in
    let p = passed n (drop (i + 2) text) k in
    let q = expression_two (get_or text i 0) (get_or text (i + 1) 0) (drop (i + 2) text) s t u in
    rw (a, b, c) (q ∙ rw (sym m, p, d) (omega arith))

-- a width without its end
pub lone_argument : (letter : ℕ) (text : List ℕ) → width_len text ≡ 0 → 0 ≡ argument_len letter text
lone_argument letter text e = by (letter == 119)
  where
    by : (b : Bool) → 0 ≡ (if b then width_len text else 0)
    by true = sym e
    by false = refl

-- ---- the ends of blocks

passed_none : (line : List ℕ) (n : ℕ) → n ≡ 0 → end_place line ≡ n + end_place (drop n line)
passed_none line n e = rw e (omega arith)

passed_one : (x y : ℕ) (ys : List ℕ) (n m : ℕ) → n ≡ 1 + m → (x == 92) ≡ false → end_place (y ∷ ys) ≡ m + end_place (drop m (y ∷ ys))
    → end_place (x ∷ y ∷ ys) ≡ n + end_place (drop n (x ∷ y ∷ ys))
passed_one x y ys n m e t p = let s : n ≡ suc m = omega arith in rw (s, t) (omega (arith, p))

-- the bytes of a line that are no backslash are before its first pair
plain_passed : (line : List ℕ) → end_place line ≡ prefix_len is_plain line + end_place (drop (prefix_len is_plain line) line)
plain_passed [] = refl
plain_passed (x ∷ []) = elim (cases_Bool (x == 92)) [ inl t ↦ rw t refl | inr t ↦ rw t refl ]
plain_passed (x ∷ y ∷ ys) =
    elim (cases_Bool (x == 92)) [
      | inl t ↦ passed_none (x ∷ y ∷ ys) (prefix_len is_plain (x ∷ y ∷ ys)) (rw t refl)
      | inr t ↦ passed_one x y ys (prefix_len is_plain (x ∷ y ∷ ys)) (prefix_len is_plain (y ∷ ys)) (rw t refl) t (plain_passed (y ∷ ys))
    ]

short_end : (line : List ℕ) → length line ≤ 1 → end_place line ≡ length line
short_end [] h = refl
short_end (x ∷ []) h = refl
short_end (x ∷ y ∷ ys) h = absurd (omega arith)

-- a line as far as it was read: up to a backslash outside its comment, or to its end
pub record IsReadTo (line : List ℕ) (i : ℕ) : Type 0 where
  pub within : i ≤ length line
  pub place : end_place line ≡ i + end_place (drop i line)
  pub stops : i < length line → (get_or line i 0 == 92) ≡ true

plain_false : (b : Bool) → not b ≡ false → b ≡ true
plain_false true h = refl
plain_false false h = sym h

-- from a place on, up to the next backslash
pub read_on : (line : List ℕ) (i n : ℕ) → i ≤ length line → end_place line ≡ i + end_place (drop i line) → n ≡ prefix_len is_plain (drop i line) → IsReadTo line (i + n)
read_on line i n w e f =
    let d = length-drop i line in
    let l = prefix_len-le-length is_plain (drop i line) in
    let p = plain_passed (drop i line) in
    let q : drop n (drop i line) ≡ drop (i + n) line = drop-drop n i line in
    let r : end_place (drop i line) ≡ n + end_place (drop (i + n) line) = rw (← q, f) p in
    record {
      within = omega arith;
      place = omega arith;
      stops = λ h.
          let s = prefix_len_stops is_plain (drop i line) 0 (omega arith) in
          plain_false (get_or line (i + n) 0 == 92) (rw (get_or-drop, ← f) at s);
    }

pub read_first : (line : List ℕ) (n : ℕ) → n ≡ prefix_len is_plain line → IsReadTo line n
read_first line n f = let e : 0 + n ≡ n = omega arith in rw e at (read_on line 0 n (omega arith) (omega arith) f)

pub read_comment : (line : List ℕ) (i : ℕ) → IsReadTo line i → i + 1 < length line → (get_or line (i + 1) 0 == 125) ≡ false
    → begins_comment (get_or line (i + 1) 0) ≡ true → end_place line ≡ length line
read_comment line i r h n c =
    let a = drop_more line i 0 (omega arith) in
    let b = drop_more line (i + 1) 0 h in
    let e : end_place (drop i line) ≡ 2 + length (drop (i + 1 + 1) line) = rw (a, b, r.stops (omega arith), n, c) refl in
    let d = length-drop (i + 1 + 1) line in
    omega (arith, r.place)

pub read_pair : (line : List ℕ) (i n : ℕ) → IsReadTo line i → i + 1 < length line → (get_or line (i + 1) 0 == 125) ≡ false
    → begins_comment (get_or line (i + 1) 0) ≡ false → n ≡ prefix_len is_plain (drop (i + 2) line) → IsReadTo line (i + 2 + n)
read_pair line i n r h m c f =
    let a = drop_more line i 0 (omega arith) in
    let b = drop_more line (i + 1) 0 h in
    let k : i + 1 + 1 ≡ i + 2 = omega arith in
    let e : end_place (drop i line) ≡ 2 + end_place (drop (i + 2) line) = rw (a, b, k, r.stops (omega arith), m, c) (omega arith) in
    read_on line (i + 2) n (omega arith) (omega (arith, r.place)) f

pub read_all : (line : List ℕ) (i : ℕ) → IsReadTo line i → length line ≤ i + 1 → end_place line ≡ length line
read_all line i r h =
    let d = length-drop i line in
    let e = short_end (drop i line) (omega arith) in
    omega (arith, r.place, r.within)

-- ---- a line without the pair that ends a block

either : (b : Bool) → (b || b) ≡ b
either true = refl
either false = refl

ends_if : (a b c : Bool) (n m k : ℕ) → (a && b) ≡ false → m ≡ n → k ≡ 1 + n → (if a then (if b then 0 else if c then 2 + n else 2 + m) else 1 + k) ≡ 2 + n
ends_if true b true n m k e h g = rw e refl
ends_if true b false n m k e h g = rw (e, h) refl
ends_if false b c n m k e h g = omega (arith, g)

ends_no_block : (a b : Bool) → (a && (b || b)) ≡ false → (a && b) ≡ false
ends_no_block a b h = rw either at h

pub without_ends : (line : List ℕ) → LacksPair 125 125 line → end_place line ≡ length line
without_ends [] h = refl
without_ends (x ∷ []) h = refl
without_ends (x ∷ y ∷ ys) h =
    let t = lacks_later 125 125 x (y ∷ ys) h in
    let rest = without_ends ys (lacks_later 125 125 y ys t) in
    let more = without_ends (y ∷ ys) t in
    ends_if (x == 92) (y == 125) (begins_comment y) (length ys) (end_place ys) (end_place (y ∷ ys)) (ends_no_block (x == 92) (y == 125) (h 0 (omega arith)))
    rest (omega (arith, more))
    ∙ omega arith

-- ---- What follows a condition decides nothing of it: helpers of proofs.

-- ---- runs

prefix_ahead : (p : ℕ → Bool) (w r : List ℕ) → prefix_len p (w ++ r) < length w → prefix_len p (w ++ r) ≡ prefix_len p w
prefix_ahead p [] r h = absurd (omega arith)
prefix_ahead p (x ∷ w) r h =
    elim (cases_Bool (p x)) [
      | inl t ↦ let e = prefix_ahead p w r (let k = rw t at h in omega arith) in rw t (omega (arith, e))
      | inr t ↦ rw t refl
    ]

-- ---- delimiters

starts_ahead : (w r d : List ℕ) → length d ≤ length w → starts_with nat_eq (w ++ r) d ≡ starts_with nat_eq w d
starts_ahead w r [] h = refl
starts_ahead [] r (c ∷ d) h = absurd (omega arith)
starts_ahead (x ∷ w) r (c ∷ d) h = ap (λ b. nat_eq c x && b) (starts_ahead w r d (omega arith))

and_false : (a b c : Bool) → (a && b) ≡ false → (b ≡ false → c ≡ false) → (a && c) ≡ false
and_false true b c h k = k h
and_false false b c h k = refl

-- where it is not in a text, it is not in the text's front
absent_ahead : (w r d : List ℕ) → starts_with nat_eq (w ++ r) d ≡ false → starts_with nat_eq w d ≡ false
absent_ahead w r [] h = h
absent_ahead [] r (c ∷ d) h = refl
absent_ahead (x ∷ w) r (c ∷ d) h = and_false (nat_eq c x) (starts_with nat_eq (w ++ r) d) (starts_with nat_eq w d) h (absent_ahead w r d)

-- the last byte of the front
last_ahead : (d : List ℕ) (x : ℕ) (r : List ℕ) → starts_with nat_eq (x ∷ r) d ≡ false → 1 ≤ place_of d (x ∷ r)
last_ahead d x [] h = rw h (omega arith)
last_ahead d x (y ∷ r) h =
    elim (cases_Bool (x == 92)) [
      | inl t ↦ rw (h, t) (omega arith)
      | inr t ↦ rw (h, t) (omega arith)
    ]

here_ahead : (d : List ℕ) (x : ℕ) (r : List ℕ) → starts_with nat_eq (x ∷ r) d ≡ true → place_of d (x ∷ r) ≡ 0
here_ahead d x [] h = rw h refl
here_ahead d x (y ∷ r) h = rw h refl

pub place_ahead : (d w r : List ℕ) → 0 < length d → place_of d (w ++ r) + length d ≤ length w → place_of d (w ++ r) ≡ place_of d w
place_ahead d [] r s h = absurd (omega arith)
place_ahead d (x ∷ []) r s h =
    elim (cases_Bool (starts_with nat_eq (x ∷ r) d)) [
      | inl t ↦
          let e = here_ahead d x r t in
          let k = starts_ahead (x ∷ []) r d (omega (arith, e)) in
          e ∙ rw (sym k ∙ t) refl
      | inr t ↦ let k = last_ahead d x r t in absurd (omega (arith, k))
    ]
place_ahead d (x ∷ y ∷ w) r s h =
    let k = starts_ahead (x ∷ y ∷ w) r d (omega arith) in
    elim (cases_Bool (starts_with nat_eq (x ∷ y ∷ w) d)) [
      | inl t ↦ rw (k, t) refl
      | inr t ↦
          let g = rw (k, t) at h in
          elim (cases_Bool (x == 92)) [
            | inl u ↦
                let l = rw u at g in
                rw (k, t, u) (ap (λ n. 2 + n) (place_ahead d w r s (omega arith)))
            | inr u ↦
                let l = rw u at g in
                rw (k, t, u) (ap (λ n. 1 + n) (place_ahead d (y ∷ w) r s (omega arith)))
          ]
    ]

-- where it is missing in a text, it is missing in the text's front
pub missing_ahead : (d w r : List ℕ) → length (w ++ r) ≤ place_of d (w ++ r) → length w ≤ place_of d w
missing_ahead d [] r h = omega arith
missing_ahead d (x ∷ []) r h =
    elim (cases_Bool (starts_with nat_eq (x ∷ r) d)) [
      | inl t ↦ let e = here_ahead d x r t in absurd (omega (arith, e))
      | inr t ↦ rw (absent_ahead (x ∷ []) r d t) (omega arith)
    ]
missing_ahead d (x ∷ y ∷ w) r h =
    elim (cases_Bool (starts_with nat_eq (x ∷ y ∷ (w ++ r)) d)) [
      | inl t ↦ let g = rw t at h in absurd (omega arith)
      | inr t ↦
          let g = rw t at h in
          elim (cases_Bool (x == 92)) [
            | inl u ↦
                let l = rw u at g in
                let e = missing_ahead d w r (omega arith) in
                rw (absent_ahead (x ∷ y ∷ w) r d t, u) (omega (arith, e))
            | inr u ↦
                let l = rw u at g in
                let e = missing_ahead d (y ∷ w) r (omega arith) in
                rw (absent_ahead (x ∷ y ∷ w) r d t, u) (omega (arith, e))
          ]
    ]

-- ---- a text in delimiters, as of a width

no_more : (n : ℕ) → n ≤ 0 → n ≡ 0
no_more n h = omega arith

-- where the first delimiter is in the front
quoted_inside : (w r : List ℕ) (m : ℕ) → m ≡ character_len (w ++ r) → m ≡ character_len w → 0 < m → m ≤ length w → quoted_len (w ++ r) ≤ length w
    → quoted_len (w ++ r) ≡ quoted_len w
quoted_inside w r m a b some fits h =
    let d = take m w in
    let v = drop m w in
    let e : d ≡ take m (w ++ r) = sym (take-append-le m w r fits) in
    let f : v ++ r ≡ drop m (w ++ r) = sym (drop-append-le m w r fits) in
    let ld : length d ≡ m = length-take-le m w fits in
    let lv = length-drop m w in
    elim (cases_Bool (nat_lt (place_of d (v ++ r)) (length (v ++ r)))) [
      | inl t ↦
          let n = place_of d (v ++ r) in
          let all : m + n + m ≡ quoted_len (w ++ r) = quoted_some (w ++ r) d (v ++ r) m n a e f refl (grind (arith, nat_tests)) in
          let same : n ≡ place_of d v = place_ahead d v r (omega arith) (omega (arith, all, lv, ld)) in
          let front : m + place_of d v + m ≡ quoted_len w = quoted_some w d v m (place_of d v) b refl refl refl (omega (arith, all, same, lv)) in
          sym all ∙ ap (λ k. m + k + m) same ∙ front
      | inr t ↦
          let past : length (v ++ r) ≤ place_of d (v ++ r) = grind (arith, nat_tests) in
          sym (quoted_none (w ++ r) d (v ++ r) m (place_of d (v ++ r)) a e f refl past)
          ∙ quoted_none w d v m (place_of d v) b refl refl refl (missing_ahead d v r past)
    ]

-- where it does not
quoted_past : (w r : List ℕ) (m : ℕ) → m ≡ character_len (w ++ r) → length w < m → length w ≤ character_len w → quoted_len (w ++ r) ≤ length w
    → quoted_len (w ++ r) ≡ quoted_len w
quoted_past w r m a past all h =
    let k = character_len w in
    let none : 0 ≡ quoted_len w = quoted_none w (take k w) [] k 0 refl refl (sym (drop_of_length-le w all)) refl (omega arith) in
    let d = take m (w ++ r) in
    let v = drop m (w ++ r) in
    elim (cases_Bool (nat_lt (place_of d v) (length v))) [
      | inl t ↦
          let whole : m + place_of d v + m ≡ quoted_len (w ++ r) = quoted_some (w ++ r) d v m (place_of d v) a refl refl refl (grind (arith, nat_tests)) in
          absurd (omega (arith, whole))
      | inr t ↦ sym (quoted_none (w ++ r) d v m (place_of d v) a refl refl refl (grind (arith, nat_tests))) ∙ none
    ]

quoted_ahead : (w r : List ℕ) → quoted_len (w ++ r) ≤ length w → quoted_len (w ++ r) ≡ quoted_len w
quoted_ahead [] r h = no_more (quoted_len r) h
quoted_ahead (x ∷ w) r h =
    let m = character_len (x ∷ (w ++ r)) in
    let l = length-append w r in
    elim (cases_Bool (nat_lt (length (x ∷ w)) m)) [
      | inl t ↦
          let past : length (x ∷ w) < m = grind (arith, nat_tests) in
          quoted_past (x ∷ w) r m refl past (omega (arith, l)) h
      | inr t ↦
          let fits : m ≤ length (x ∷ w) = grind (arith, nat_tests) in
          quoted_inside (x ∷ w) r m refl (omega (arith, l)) (omega (arith, l)) fits h
    ]

width_ahead : (w r : List ℕ) → width_len (w ++ r) ≤ length w → width_len (w ++ r) ≡ width_len w
unfolding width_content_len
width_ahead [] r h = no_more (width_len r) h
width_ahead (x ∷ w) r h =
    elim (cases_Bool (x == 92)) [
      | inl t ↦ rw t refl
      | inr t ↦ rw t (quoted_ahead (x ∷ w) r (rw t at h))
    ]

argument_ahead : (y : ℕ) (w r : List ℕ) → argument_len y (w ++ r) ≤ length w → argument_len y (w ++ r) ≡ argument_len y w
argument_ahead y w r h =
    elim (cases_Bool (y == 119)) [
      | inl t ↦ rw t (width_ahead w r (rw t at h))
      | inr t ↦ rw t refl
    ]

-- ---- expressions

rest_least : (p : ℕ) (t : List ℕ) → min p (length t) ≤ expression_rest p t
rest_least zero t = omega arith
rest_least (suc p) [] = omega arith
rest_least (suc p) (x ∷ t) = let e = rest_least p t in omega (arith, e)

rest_ahead : (p : ℕ) (w r : List ℕ) → expression_rest p (w ++ r) + 1 < length w → expression_rest p (w ++ r) ≡ expression_rest p w
rest_ahead zero [] r h = absurd (omega arith)
rest_ahead zero (x ∷ []) r h = absurd (omega arith)
rest_ahead zero (x ∷ y ∷ w) r h =
    elim (cases_Bool (is_white x)) [
      | inl s ↦ rw s refl
      | inr s ↦
          let g = rw s at h in
          elim (cases_Bool (x == 92)) [
            | inl t ↦
                let k = rw t at g in
                elim (cases_Bool (y == 123)) [
                  | inl u ↦ rw (s, t, u) refl
                  | inr u ↦
                      let n = argument_len y (w ++ r) in
                      let f : 2 + expression_rest n (w ++ r) + 1 < suc (suc (length w)) = rw u at k in
                      let least = rest_least n (w ++ r) in
                      let argument = argument_ahead y w r (omega (arith, f, least, length-append w r)) in
                      let rest = rest_ahead n w r (omega (arith, f)) in
                      rw (s, t, u) (ap (λ k. 2 + k) (rest ∙ ap (λ k. expression_rest k w) argument))
                ]
            | inr t ↦
                let k : 1 + expression_rest zero (y ∷ (w ++ r)) + 1 < suc (suc (length w)) = rw t at g in
                rw (s, t) (ap (λ k. 1 + k) (rest_ahead zero (y ∷ w) r (omega (arith, k))))
          ]
    ]
rest_ahead (suc p) [] r h = absurd (omega arith)
rest_ahead (suc p) (x ∷ w) r h = ap (λ k. 1 + k) (rest_ahead p w r (omega arith))

-- ---- tests

named_ahead : (test : List ℕ → Test (List ℕ)) (w r : List ℕ) → blank_len (w ++ r) + name_len (w ++ r) < length w → named test (w ++ r) ≡ named test w
named_ahead test w r h =
    let b : blank_len (w ++ r) ≡ blank_len w = prefix_ahead is_blank w r (omega arith) in
    let a : after_blanks (w ++ r) ≡ after_blanks w ++ r = ap (λ k. drop k (w ++ r)) b ∙ drop-append-le (blank_len w) w r (omega (arith, b)) in
    let l = length-drop (blank_len w) w in
    let c : name_len (w ++ r) ≡ prefix_len is_name (after_blanks w ++ r) = ap (prefix_len is_name) a in
    let n : name_len (w ++ r) ≡ name_len w = c ∙ prefix_ahead is_name (after_blanks w) r (omega (arith, b, c, l)) in
    let t : name_after (w ++ r) ≡ name_after w =
    ap₂ (λ k u. take k u) n a ∙ take-append-le (name_len w) (after_blanks w) r (omega (arith, b, n, l)) in
    ap₂ (λ (name : List ℕ) (k : ℕ). reads (test name) (1 + k)) t (ap₂ (λ i j. i + j) b n)

texts_same : (d : List ℕ) (column i j k l : ℕ) (a b c e : List ℕ) → i ≡ j → k ≡ l → a ≡ b → c ≡ e
    → reads (tests.Texts (placed column a) (placed (column + (i + length d)) c)) (i + length d + k + length d)
    ≡ reads (tests.Texts (placed column b) (placed (column + (j + length d)) e)) (j + length d + l + length d)
texts_same d column i j k l a b c e p q s t = rw (p, q, s, t) refl

both_true : (a b : Bool) → a ≡ true → b ≡ true → (a && b) ≡ true
both_true a b p q = rw (p, q) refl

after_ahead : (d : List ℕ) (column : ℕ) (v r : List ℕ) → 0 < length d → (texts_after d column (v ++ r)).len < length v
    → texts_after d column (v ++ r) ≡ texts_after d column v
after_ahead d column v r some h =
    elim (cases_Bool (has_both d (v ++ r))) [
      | inl t ↦
          let g : both_len d (v ++ r) < length v = rw t at h in
          let one : place_of d (v ++ r) ≡ place_of d v = place_ahead d v r some (omega (arith, g)) in
          let n = place_of d v + length d in
          let second : second_of d (v ++ r) ≡ second_of d v ++ r =
          ap (λ k. drop (k + length d) (v ++ r)) one ∙ drop-append-le n v r (omega (arith, g, one)) in
          let l = length-drop n v in
          let u : place_of d (second_of d (v ++ r)) ≡ place_of d (second_of d v ++ r) = ap (place_of d) second in
          let two : place_of d (second_of d (v ++ r)) ≡ place_of d (second_of d v) =
          u ∙ place_ahead d (second_of d v) r some (omega (arith, g, one, u, l)) in
          let first_there : nat_lt (place_of d v) (length v) ≡ true =
          let fits : place_of d v < length v = omega (arith, g, one) in grind (arith, nat_tests) in
          let second_there : nat_lt (place_of d (second_of d v)) (length (second_of d v)) ≡ true =
          let fits : place_of d (second_of d v) < length (second_of d v) = omega (arith, g, one, two, l) in grind (arith, nat_tests) in
          let front : has_both d v ≡ true = both_true _ _ first_there second_there in
          let a : text_before d (v ++ r) ≡ text_before d v =
          ap (λ k. take k (v ++ r)) one ∙ take-append-le (place_of d v) v r (omega (arith, g, one)) in
          let b : text_before d (second_of d (v ++ r)) ≡ text_before d (second_of d v) =
          ap₂ (λ k u. take k u) two second ∙ take-append-le (place_of d (second_of d v)) (second_of d v) r (omega (arith, g, one, two, l)) in
          rw (t, front) (texts_same d column _ _ _ _ _ _ _ _ one two a b)
      | inr t ↦ let g : length (v ++ r) < length v = rw t at h in absurd (omega (arith, g, length-append v r))
    ]

texts_ahead : (column x : ℕ) (w r : List ℕ) → (texts_at column (x ∷ (w ++ r))).len < length (x ∷ w) → texts_at column (x ∷ (w ++ r)) ≡ texts_at column (x ∷ w)
texts_ahead column x w r h =
    let t = x ∷ (w ++ r) in
    let m = character_len t in
    let g : m + (texts_after (delimiter_of t) (column + m) (drop m t)).len < length (x ∷ w) = h in
    let fits : m ≤ length (x ∷ w) = omega (arith, g) in
    let d = take m (x ∷ w) in
    let v = drop m (x ∷ w) in
    let l = length-append w r in
    let is : m ≡ character_len (x ∷ w) = omega (arith, fits, l) in
    let some : 0 < m = omega (arith, l) in
    let whole = texts_together t d (v ++ r) column m refl (sym (take-append-le m (x ∷ w) r fits)) (sym (drop-append-le m (x ∷ w) r fits)) in
    let front = texts_together (x ∷ w) d v column m is refl refl in
    let len = ap (λ (read : TestRead (List ℕ)). read.len) whole in
    sym whole
    ∙ ap (longer m) (after_ahead d (column + m) v r (omega (arith, some, length-take-le m (x ∷ w) fits)) (omega (arith, h, len, length-drop m (x ∷ w))))
    ∙ front

kind_ahead : (k : ConditionKind) (column x : ℕ) (w r : List ℕ) → (read_kind k column (x ∷ (w ++ r))).len + 1 < length (x ∷ w)
    → read_kind k column (x ∷ (w ++ r)) ≡ read_kind k column (x ∷ w)
kind_ahead Defined column x w r h = named_ahead tests.IsDefined w r (omega (arith, h))
kind_ahead Register column x w r h = named_ahead tests.IsRegister w r (omega (arith, h))
kind_ahead Expression column x w r h =
    let e : expression_len (x ∷ (w ++ r)) ≡ expression_len (x ∷ w) = rest_ahead zero (x ∷ w) r h in
    let t : take (expression_len (x ∷ (w ++ r))) (x ∷ (w ++ r)) ≡ take (expression_len (x ∷ w)) (x ∷ w) =
    ap (λ k. take k (x ∷ (w ++ r))) e ∙ take-append-le (expression_len (x ∷ w)) (x ∷ w) r (omega (arith, h, e)) in
    ap₂ (λ (text : List ℕ) (k : ℕ). reads (tests.Expression (placed column text)) k) t e
kind_ahead Delimiter column x w r h = texts_ahead column x w r (omega (arith, h))
kind_ahead _ column x w r h = refl

test_ahead : (column : ℕ) (w r : List ℕ) → (read_test column (w ++ r)).len + 1 < length w → read_test column (w ++ r) ≡ read_test column w
unfolding read_test
test_ahead column [] r h = absurd (omega arith)
test_ahead column (x ∷ w) r h = kind_ahead (kind_of x) column x w r h

-- ---- conditions

turns_ahead : (column : ℕ) (w r : List ℕ) → condition_len column (w ++ r) + 1 < length w → turn_len (w ++ r) ≡ turn_len w
unfolding condition_len
turns_ahead column w r h = prefix_ahead (λ byte. byte == 33) w r (omega arith)

read_ahead : (column : ℕ) (w r : List ℕ) → condition_len column (w ++ r) + 1 < length w
    → read_test (column + turn_len (w ++ r)) (drop (turn_len (w ++ r)) (w ++ r)) ≡ read_test (column + turn_len w) (drop (turn_len w) w)
unfolding condition_len
read_ahead column w r h =
    let turns = turns_ahead column w r h in
    let n = turn_len w in
    let fits : n ≤ length w = omega (arith, turns) in
    let same : read_test (column + turn_len (w ++ r)) (drop (turn_len (w ++ r)) (w ++ r)) ≡ read_test (column + n) (drop n w ++ r) =
    ap (λ k. read_test (column + k) (drop k (w ++ r))) turns ∙ ap (read_test (column + n)) (drop-append-le n w r fits) in
    let len = ap (λ (read : TestRead (List ℕ)). read.len) same in
    same ∙ test_ahead (column + n) (drop n w) r (omega (arith, turns, len, length-drop n w))

condition_ahead : (column : ℕ) (w r : List ℕ) → condition_len column (w ++ r) + 1 < length w → condition_of column (w ++ r) ≡ condition_of column w
unfolding condition_of
condition_ahead column w r h =
    ap₂ (λ (n : ℕ) (test : Test (List ℕ)). record { column = column; is_turned = is_odd n; test = test }) (turns_ahead column w r h)
    (ap (λ (read : TestRead (List ℕ)). read.test) (read_ahead column w r h))

len_ahead : (column : ℕ) (w r : List ℕ) → condition_len column (w ++ r) + 1 < length w → condition_len column (w ++ r) ≡ condition_len column w
unfolding condition_len
len_ahead column w r h =
    ap₂ (λ n m. n + m) (turns_ahead column w r h) (ap (λ (read : TestRead (List ℕ)). read.len) (read_ahead column w r h))

-- ---- comments

-- a text is what is before its comment, and the rest
uncommented : (t : List ℕ) → (r : List ℕ) × (t ≡ without_comment t ++ r)
uncommented [] = ([], refl)
uncommented (x ∷ []) = ([], refl)
uncommented (x ∷ y ∷ t) =
    elim (cases_Bool (x == 92)) [
      | inl s ↦
          elim (cases_Bool (begins_comment y)) [
            | inl u ↦ (x ∷ y ∷ t, rw (s, u) refl)
            | inr u ↦ let rest = uncommented t in (rest.0, rw (s, u) (ap (λ l. x ∷ y ∷ l) rest.1))
          ]
      | inr s ↦ let rest = uncommented (y ∷ t) in (rest.0, rw s (ap (λ l. x ∷ l) rest.1))
    ]

-- a condition that ends well before the comment
pub before_comment : (column : ℕ) (t : List ℕ) → condition_len column t + 1 < length (without_comment t)
    → (condition_of column t ≡ condition_of column (without_comment t)) × (condition_len column t ≡ condition_len column (without_comment t))
before_comment column t h =
    let all = uncommented t in
    let len : condition_len column t ≡ condition_len column (without_comment t ++ all.0) = ap (condition_len column) all.1 in
    let fits : condition_len column (without_comment t ++ all.0) + 1 < length (without_comment t) = omega (arith, h, len) in
    (ap (condition_of column) all.1 ∙ condition_ahead column (without_comment t) all.0 fits, len ∙ len_ahead column (without_comment t) all.0 fits)

-- a front has no comment sooner than the text, but that its last byte may begin one
comment_ahead : (m : ℕ) (t : List ℕ) → length (without_comment (take m t)) ≤ length (without_comment t) + 1
comment_ahead zero t = omega arith
comment_ahead (suc m) [] = omega arith
comment_ahead (suc zero) (x ∷ t) = omega arith
comment_ahead (suc (suc m)) (x ∷ []) = omega arith
comment_ahead (suc (suc m)) (x ∷ y ∷ t) =
    elim (cases_Bool (x == 92)) [
      | inl s ↦
          elim (cases_Bool (begins_comment y)) [
            | inl u ↦ rw (s, u) (omega arith)
            | inr u ↦ let h = comment_ahead m t in rw (s, u) (omega (arith, h))
          ]
      | inr s ↦ let h = comment_ahead (suc m) (y ∷ t) in rw s (omega (arith, h))
    ]

-- a front without a comment
pub front_uncommented : (m n : ℕ) (t : List ℕ) → m ≤ length t → take n (take m t) ≡ without_comment (take m t) → n ≡ m → m ≤ length (without_comment t) + 1
front_uncommented m n t fits is e =
    let l = length-take-le m t fits in
    let all : take n (take m t) ≡ take m t = take_all n (take m t) (omega arith) in
    let same = ap length (sym all ∙ is) in
    omega (arith, comment_ahead m t, same, l)
