-- Where a search finds a delimiter, and whether a pair takes it: helpers of proofs.
use Rattle.std.proofs.Common.{◌≡◌, ◌≢◌, ℕ, zero, suc, ◌+◌, ◌<◌, ◌≤◌, ◌==◌, nat_eq, nat_lt, Bool, true, false, List, [], ◌∷◌, Option, None, Some, length, take, drop, if◌then◌else◌, refl, sym, ap, ◌∙◌, inl, inr, arith, length-drop, length-take, ◌-◌, ◌*◌, ◌/◌, ◌%◌, ◌^◌, ◌&&◌, ◌||◌, not, nat_le, cond, get_or, set, bit_or, w64, length-set, ◌++◌}
use Rattle.std.specs.List.{starts_with, prefix_len}
use Rattle.std.specs.Option.{option_map_or}
use Rattle.std.specs.Cmp.Lexicographic.{same_text, bytes_decides}
use Rattle.std.proofs.lemmas.Bool.Decides.{nat_tests}
use Rattle.std.proofs.lemmas.Bool.{cases_Bool, eqb-true, ltb-true, ltb-false}
use Rattle.memchr.specs.Find.{OccursAt, FindsNeedle}
use Rattle.memchr.proofs.lemmas.MatchLemmas.{OccursAt-part, OccursAt-from_part}
use Rattle.page_core_base.specs.Bytes.{begins_escape, is_white}
use Rattle.page_roff_syntax.specs.Delimiters.{character_len, content_len, delimiter_of, place_of, width_content_len, width_len, kept_len}
use Rattle.page_roff_syntax.specs.machine.Closed.{is_outside, AreMarked, AreMet, Grows, code_of, goes_on, is_met, is_noted}
use Rattle.std.specs.Int.{bit_at}
use Rattle.std.specs.Str.{continuation_len}
use Rattle.std.proofs.lemmas.List.{drop-drop, get_or-drop, get_or-take, get_or-set_same, get_or-set_other, take_more, length-take-le}
use Rattle.std.proofs.lemmas.Nat.Bits.{bit_at_or, bit_at_set_same}
use Rattle.page_roff_syntax.specs.LineForms.{is_name, is_control, has_word, without_comment, name_start, name_len, control_line, form_of}
use Rattle.page_roff_syntax.specs.laws.Views.{is_plain, begins_control, name_of}
use Rattle.page_roff_syntax.specs.declared.line_forms.LineForm.TheVariants.{Control}

-- a delimiter is at none of the first n places
abbrev Absent : List ℕ → List ℕ → ℕ → Type 0
Absent d text n = (k : ℕ) → k < n → starts_with nat_eq (drop k text) d ≡ false

not_true : (b : Bool) → ¬ (b ≡ true) → b ≡ false
not_true true h = absurd (h refl)
not_true false h = refl

-- ---- outside pairs

-- a byte that begins no pair is before the place
pub outside_plain : (n x : ℕ) (xs : List ℕ) → (x == 92) ≡ false → is_outside (suc n) (x ∷ xs) ≡ is_outside n xs
outside_plain zero x xs e = rw e refl
outside_plain (suc n) x xs e = rw (outside_plain n x xs e) refl

-- a pair is before it
outside_pair : (n x y : ℕ) (xs : List ℕ) → (x == 92) ≡ true → is_outside (suc (suc n)) (x ∷ y ∷ xs) ≡ is_outside n xs
outside_pair zero x y xs e = rw e (either (y == 92))
  where
    either : (b : Bool) → (if b then true else true) ≡ true
    either true = refl
    either false = refl
outside_pair (suc n) x y xs e = rw (outside_pair n x y xs e) refl

-- ---- the delimiter's next occurrence

pub place_here : (d text : List ℕ) → starts_with nat_eq text d ≡ true → place_of d text ≡ 0
place_here d [] s = refl
place_here d (x ∷ []) s = rw s refl
place_here d (x ∷ y ∷ ys) s = rw s refl

plain_first : (d : List ℕ) (x : ℕ) (xs : List ℕ) → starts_with nat_eq (x ∷ xs) d ≡ false → (x == 92) ≡ false → place_of d (x ∷ xs) ≡ 1 + place_of d xs
plain_first d x [] s t = rw s refl
plain_first d x (y ∷ ys) s t = rw (s, t) refl

pair_first : (d : List ℕ) (x y : ℕ) (ys : List ℕ) → starts_with nat_eq (x ∷ y ∷ ys) d ≡ false → (x == 92) ≡ true → place_of d (x ∷ y ∷ ys) ≡ 2 + place_of d ys
pair_first d x y ys s t = rw (s, t) refl

-- the byte of a pair that is at a place
abbrev pub second : Bool → ℕ
second true = 0
second false = 1

-- a delimiter's first place is reached, or the one after it where a pair takes it
pub reached : (d text : List ℕ) (n : ℕ) (b : Bool) → n < length text → Absent d text n → is_outside n text ≡ b
    → place_of d text ≡ n + second b + place_of d (drop (n + second b) text)
reached d text zero true h a p = omega arith
reached d text zero false h a p = let no : ⊥ = cc in absurd no
reached d (x ∷ y ∷ ys) (suc zero) b h a p =
    elim (cases_Bool (x == 92)) [
      | inl t ↦ let is : false ≡ b = rw t at p in rw (← is) (pair_first d x y ys (a 0 (omega arith)) t)
      | inr t ↦ let is : true ≡ b = rw t at p in rw (← is) (plain_first d x (y ∷ ys) (a 0 (omega arith)) t)
    ]
reached d (x ∷ y ∷ ys) (suc (suc n)) b h a p =
    elim (cases_Bool (x == 92)) [
      | inl t ↦
          let q = pair_first d x y ys (a 0 (omega arith)) t in
          let r = reached d ys n b (omega arith) (λ k l. a (suc (suc k)) (omega arith)) (sym (outside_pair n x y ys t) ∙ p) in
          let e : suc (suc n) + second b ≡ suc (suc (n + second b)) = omega arith in
          rw e (omega (arith, q, r))
      | inr t ↦
          let q = plain_first d x (y ∷ ys) (a 0 (omega arith)) t in
          let r = reached d (y ∷ ys) (suc n) b (omega arith) (λ k l. a (suc k) (omega arith)) (sym (outside_plain (suc n) x (y ∷ ys) t) ∙ p) in
          let e : suc (suc n) + second b ≡ suc (suc n + second b) = omega arith in
          rw e (omega (arith, q, r))
    ]
reached d _ _ _ h a p = absurd (omega arith)

-- where it is found it begins, outside pairs
pub place_found : (d text : List ℕ) → place_of d text < length text
    → (is_outside (place_of d text) text ≡ true) × (starts_with nat_eq (drop (place_of d text) text) d ≡ true)
place_found d [] h = absurd (omega arith)
place_found d (x ∷ []) h =
    elim (cases_Bool (starts_with nat_eq (x ∷ []) d)) [
      | inl s ↦ rw s (refl, s)
      | inr s ↦ absurd (omega (arith, plain_last s))
    ]
  where
    plain_last : starts_with nat_eq (x ∷ []) d ≡ false → place_of d (x ∷ []) ≡ 1
    plain_last s = rw s refl
place_found d (x ∷ y ∷ ys) h =
    elim (cases_Bool (starts_with nat_eq (x ∷ y ∷ ys) d)) [
      | inl s ↦ rw s (refl, s)
      | inr s ↦ elim (cases_Bool (x == 92)) [
        | inl t ↦
            let q = pair_first d x y ys s t in
            let n = place_of d ys in
            let e : place_of d (x ∷ y ∷ ys) ≡ suc (suc n) = omega (arith, q) in
            let r = place_found d ys (omega arith) in
            rw e (outside_pair n x y ys t ∙ r.0, r.1)
        | inr t ↦
            let q = plain_first d x (y ∷ ys) s t in
            let n = place_of d (y ∷ ys) in
            let e : place_of d (x ∷ y ∷ ys) ≡ suc n = omega (arith, q) in
            let r = place_found d (y ∷ ys) (omega arith) in
            rw e (outside_plain n x (y ∷ ys) t ∙ r.0, r.1)
      ]
    ]

-- ---- what a search finds

here_occurs : (text d : List ℕ) (k : ℕ) → k ≤ length text → starts_with nat_eq (drop k text) d ≡ true → OccursAt text d k
here_occurs text d k h e =
    let same = same_text d (take (length d) (drop k text)) (sym e) in
    let n = ap length same in
    OccursAt-from_part text d k (omega (arith, n, length-take (length d) (drop k text), length-drop k text)) (sym same)

pub occurs_here : (text d : List ℕ) (k : ℕ) → OccursAt text d k → starts_with nat_eq (drop k text) d ≡ true
occurs_here text d k o = (bytes_decides d (take (length d) (drop k text))).1 (sym (OccursAt-part text d k o))

absent_to : (text d : List ℕ) (n : ℕ) → n ≤ length text + 1 → ((k : ℕ) → 0 ≤ k → k < n → ¬ OccursAt text d k) → Absent d text n
absent_to text d n h none k l =
    not_true (starts_with nat_eq (drop k text) d) (λ e. none k (omega arith) l (here_occurs text d k (omega arith) e))

pub absent_before : (text d : List ℕ) (n : ℕ) → FindsNeedle text d 0 (Some n) → Absent d text n
absent_before text d n h = absent_to text d n (omega (arith, h.0.high)) h.0.before

-- a search in some bytes finds no end
pub found_below : (text d : List ℕ) (n : ℕ) → 0 < length text → FindsNeedle text d 0 (Some n) → n < length text
found_below text d zero l h = l
found_below text d (suc n) l h =
    elim (cases_Bool (suc n == length text)) [
      | inl t ↦
          let e = eqb-true (suc n) (length text) t in
          let fits = h.1.fits in
          absurd (h.0.before 0 (omega arith) (omega arith) (record { fits = omega arith; reads = λ j m. absurd (omega arith) }))
      | inr t ↦ let e : suc n ≢ length text = grind (arith, nat_tests) in omega (arith, h.0.high)
    ]

never : (d text : List ℕ) → ((k : ℕ) → k < length text → starts_with nat_eq (drop k text) d ≡ false) → place_of d text ≡ length text
never d [] a = refl
never d (x ∷ []) a = rw (a 0 (omega arith)) refl
never d (x ∷ y ∷ ys) a =
    elim (cases_Bool (x == 92)) [
      | inl t ↦
          let q = pair_first d x y ys (a 0 (omega arith)) t in
          let r = never d ys (λ k l. a (suc (suc k)) (omega arith)) in
          omega (arith, q, r)
      | inr t ↦
          let q = plain_first d x (y ∷ ys) (a 0 (omega arith)) t in
          let r = never d (y ∷ ys) (λ k l. a (suc k) (omega arith)) in
          omega (arith, q, r)
    ]

pub not_found : (text d : List ℕ) → FindsNeedle text d 0 None → place_of d text ≡ length text
not_found text d h = never d text (λ k l. absent_to text d (length text) (omega arith) (λ j m n. h j m (omega arith)) k l)

-- ---- a width, where no backslash is its first character

abbrev pub quoted_len : List ℕ → ℕ
quoted_len text = option_map_or (λ n. character_len text + n + character_len text) (content_len (delimiter_of text) (drop (character_len text) text)) 0

pub quoted_some : (text delimiter inner : List ℕ) (m n : ℕ) → m ≡ character_len text → delimiter ≡ take m text → inner ≡ drop m text → n ≡ place_of delimiter inner
    → n < length inner → m + n + m ≡ quoted_len text
quoted_some text delimiter inner m n a b e f h =
    let t : nat_lt n (length inner) ≡ true = grind (arith, nat_tests) in
    rw (← a, ← b, ← e, ← f, t) refl

pub quoted_none : (text delimiter inner : List ℕ) (m n : ℕ) → m ≡ character_len text → delimiter ≡ take m text → inner ≡ drop m text → n ≡ place_of delimiter inner
    → length inner ≤ n → 0 ≡ quoted_len text
quoted_none text delimiter inner m n a b e f h =
    let t : nat_lt n (length inner) ≡ false = grind (arith, nat_tests) in
    rw (← a, ← b, ← e, ← f, t) refl

pub width_content : (text delimiter inner : List ℕ) (m : ℕ) (r : Option ℕ) → begins_escape text ≡ false → m ≡ character_len text → delimiter ≡ take m text
    → inner ≡ drop m text → r ≡ content_len delimiter inner → r ≡ width_content_len text
unfolding width_content_len
width_content text delimiter inner m r p a b e f = rw (p, ← a, ← b, ← e) f

-- ---- Which widths of a text have no end, by the characters behind them: helpers of proofs.

-- ---- bits

-- the numbers with one more bit
abbrev pub with_bit : List ℕ → ℕ → List ℕ
with_bit words code = set words (code / 64) (bit_or (get_or words (code / 64) 0) (1 * 2 ^ (code % 64) % 2 ^ 64))

or_right : (a b : Bool) → b ≡ true → (a || b) ≡ true
or_right true b h = refl
or_right false b h = h

or_more : (a b c : Bool) → (a || b) ≡ true → (b ≡ true → c ≡ true) → (a || c) ≡ true
or_more true b c h f = refl
or_more false b c h f = f h

eq_self : (n : ℕ) → n ≡ 1 → (n == 1) ≡ true
eq_self n e = rw e refl

pub met_same : (words : List ℕ) (code : ℕ) → code / 64 < length words → is_met (with_bit words code) code ≡ true
met_same words code l =
    let n = get_or words (code / 64) 0 in
    let here : get_or (with_bit words code) (code / 64) 0 ≡ bit_or n (1 * 2 ^ (code % 64) % 2 ^ 64) = get_or-set_same words (code / 64) (bit_or n (1 * 2 ^ (code % 64) % 2 ^ 64)) 0 l in
    let bit : bit_at (bit_or n (1 * 2 ^ (code % 64) % 2 ^ 64)) (code % 64) ≡ 1 = bit_at_set_same w64 n (code % 64) (omega arith) in
    or_right (nat_le (length (with_bit words code)) (code / 64)) (bit_at (get_or (with_bit words code) (code / 64) 0) (code % 64) == 1) (eq_self (bit_at (get_or (with_bit words code) (code / 64) 0) (code % 64)) (rw here bit))

-- a bit that is set stays so
bit_more : (n m k : ℕ) → bit_at n k ≡ 1 → bit_at (bit_or n m) k ≡ 1
bit_more n m k e = let o = bit_at_or n m k in omega arith

pub met_grows : (words : List ℕ) (code : ℕ) → code / 64 < length words → Grows words (with_bit words code)
met_grows words code l other h =
    let n = get_or words (code / 64) 0 in
    let m = 1 * 2 ^ (code % 64) % 2 ^ 64 in
    let new = with_bit words code in
    let len : length new ≡ length words = length-set words (code / 64) (bit_or n m) in
    rw len (or_more (nat_le (length words) (other / 64)) (bit_at (get_or words (other / 64) 0) (other % 64) == 1) (bit_at (get_or new (other / 64) 0) (other % 64) == 1) h (λ e.
    let set_bit : bit_at (get_or words (other / 64) 0) (other % 64) ≡ 1 = eqb-true (bit_at (get_or words (other / 64) 0) (other % 64)) 1 e in
    eq_self (bit_at (get_or new (other / 64) 0) (other % 64)) (elim (cases_Bool (other / 64 == code / 64)) [
      | inl t ↦
          let same : other / 64 ≡ code / 64 = eqb-true (other / 64) (code / 64) t in
          let here : get_or new (other / 64) 0 ≡ bit_or n m = rw same (get_or-set_same words (code / 64) (bit_or n m) 0 l) in
          rw here (bit_more n m (other % 64) (rw same at set_bit))
      | inr f ↦
          let apart : other / 64 ≢ code / 64 = grind (arith, nat_tests) in
          let there : get_or new (other / 64) 0 ≡ get_or words (other / 64) 0 = get_or-set_other words (code / 64) (other / 64) (bit_or n m) 0 apart in
          rw there set_bit
    ])))

pub grows_self : (words : List ℕ) → Grows words words
grows_self words code h = h

-- ---- characters

-- the same first bytes have the same code point
code_by : (p q r : Bool) → ℕ → ℕ → ℕ → ℕ → ℕ
code_by p q r a b c d =
    if p then a else (if q then a % 32 * 64 + b else (if r then (a % 16 * 64 + b) * 64 + c else ((a % 8 * 64 + b) * 64 + c) * 64 + d))

len_by : (p q r : Bool) → ℕ
len_by p q r = cond p 0 (cond q 1 (cond r 2 3))

same_by : (p q r : Bool) (a b c d e f g : ℕ) → (1 < len_by p q r + 1 → b ≡ e) → (2 < len_by p q r + 1 → c ≡ f) → (3 < len_by p q r + 1 → d ≡ g)
    → code_by p q r a b c d ≡ code_by p q r a e f g
unfolding code_by len_by
same_by true q r a b c d e f g x y z = refl
same_by false true r a b c d e f g x y z = rw (x (omega arith)) refl
same_by false false true a b c d e f g x y z = rw (x (omega arith), y (omega arith)) refl
same_by false false false a b c d e f g x y z = rw (x (omega arith), y (omega arith), z (omega arith)) refl

code_same : (xs ys : List ℕ) → ((i : ℕ) → i < continuation_len (get_or xs 0 0) + 1 → get_or ys i 0 ≡ get_or xs i 0) → code_of ys ≡ code_of xs
unfolding code_by len_by
code_same xs ys h =
    let a = get_or xs 0 0 in
    let low : (i : ℕ) → i < continuation_len a + 1 → get_or ys i 0 % 64 ≡ get_or xs i 0 % 64 = λ i l. ap (λ n. n % 64) (h i l) in
    rw (h 0 (omega arith))
    (same_by (nat_lt a 128) (nat_lt a 224) (nat_lt a 240) a (get_or ys 1 0 % 64) (get_or ys 2 0 % 64) (get_or ys 3 0 % 64) (get_or xs 1 0 % 64) (get_or xs 2 0 % 64) (get_or xs 3 0 % 64) (low 1) (low 2) (low 3))

-- how many bytes a character has where bytes follow it, or where it is known to be whole
whole_len : (text : List ℕ) (m : ℕ) → m ≡ continuation_len (get_or text 0 0) + 1 → m ≤ length text → character_len text ≡ m
whole_len [] m e l = absurd (omega arith)
whole_len (b ∷ bs) m e l = omega arith

first_len : (text : List ℕ) → character_len text < length text → character_len text ≡ continuation_len (get_or text 0 0) + 1
first_len [] l = absurd (omega arith)
first_len (b ∷ bs) l = omega arith

-- what begins with the first character of a text has the same one
same_first : (text other : List ℕ) → character_len text < length text → starts_with nat_eq other (take (character_len text) text) ≡ true
    → (code_of other ≡ code_of text) × (is_noted other ≡ is_noted text)
same_first text other whole e =
    let m = character_len text in
    let d = take m text in
    let n : length d ≡ m = omega (arith, length-take m text) in
    let same : d ≡ take (length d) other = same_text d (take (length d) other) (sym e) in
    let len : m ≤ length other = omega (arith, n, ap length same, length-take (length d) other) in
    let bytes : m ≡ continuation_len (get_or text 0 0) + 1 = first_len text whole in
    let at : (i : ℕ) → i < m → get_or other i 0 ≡ get_or text i 0 = λ i l.
    sym (ap (λ t. get_or t i 0) same ∙ get_or-take (length d) other i 0 (omega arith)) ∙ get_or-take m text i 0 l in
    let first : get_or other 0 0 ≡ get_or text 0 0 = at 0 (omega arith) in
    let long : character_len other ≡ m = whole_len other m (rw first bytes) len in
    (code_same text other (λ i l. at i (omega arith)), rw (first, long, at (m - 1) (omega arith)) refl)

-- ---- the step from a place to the one before it

pub apart : true ≡ false → ⊥
apart e = let no : ⊥ = cc in no

both : (a b : Bool) → (not a && not b) ≡ true → b ≡ false
both a b h = grind (arith, h)

-- from behind a byte that is no backslash on, pairs are the same as if the text began there
outside_drop : (n at : ℕ) (text : List ℕ) → (get_or text at 0 == 92) ≡ false → is_outside (suc at + n) text ≡ is_outside n (drop (suc at) text)
outside_drop zero at text e = let s : suc at + 0 ≡ suc at = omega arith in rw (s, e) refl
outside_drop (suc n) at text e =
    let s : suc at + suc n ≡ suc (suc at + n) = omega arith in
    rw (s, outside_drop n at text e, get_or-drop (suc at) text n 0) refl

-- a width whose delimiter was not met has no end
pub lone_width : (words text : List ℕ) (at : ℕ) → at < length text → AreMet words text (at + 1) → is_noted (drop at text) ≡ true
    → is_met words (code_of (drop at text)) ≡ false → width_len (drop at text) ≡ 0
unfolding width_content_len
lone_width words text at within met noted lacks =
    elim (cases_Bool (begins_escape t)) [
      | inl p ↦ rw p refl
      | inr p ↦ elim (cases_Bool (nat_lt (place_of d u) (length u))) [
        | inl x ↦ absurd (apart (sym (closed (ltb-true (place_of d u) (length u) x)) ∙ lacks))
        | inr x ↦ rw (p, x) refl
      ]
    ]
  where
    t : List ℕ
    t = drop at text

    m : ℕ
    m = character_len t

    d : List ℕ
    d = take m t

    u : List ℕ
    u = drop m t

    closed : place_of d u < length u → is_met words (code_of t) ≡ true
    closed h =
        let n = place_of d u in
        let found = place_found d u h in
        let whole : m < length t = omega (arith, length-drop m t) in
        let some : 0 < m = omega (arith, first_len t whole) in
        let last : suc (at + (m - 1)) ≡ at + m = omega arith in
        let k = at + m + n in
        let moved : drop n u ≡ drop k text = drop-drop n m t ∙ (drop-drop (m + n) at text ∙ ap (λ i. drop i text) (omega arith)) in
        let same = same_first t (drop k text) whole (rw moved at found.1) in
        let plain : (get_or text (at + (m - 1)) 0 == 92) ≡ false =
        rw (get_or-drop at text (m - 1) 0) at (both (goes_on (get_or t 0 0)) (get_or t (m - 1) 0 == 92) noted) in
        let rest : drop (at + m) text ≡ u = sym (drop-drop m at text) in
        let outside : is_outside k text ≡ true = rw (last, rest) at (outside_drop n (at + (m - 1)) text plain) ∙ found.0 in
        sym (ap (is_met words) same.0) ∙ met k (omega arith) (omega (arith, length-drop m t, length-drop at text)) (same.1 ∙ noted) outside

-- one more place
pub met_before : (words more text : List ℕ) (at : ℕ) → AreMet words text (at + 1) → Grows words more
    → (is_noted (drop at text) ≡ true → is_outside at text ≡ true → is_met more (code_of (drop at text)) ≡ true) → AreMet more text at
met_before words more text at m g h k x y noted outside =
    elim (cases_Bool (nat_lt at k)) [
      | inl t ↦ g (code_of (drop k text)) (m k (omega (arith, ltb-true at k t)) y noted outside)
      | inr f ↦ let same : k ≡ at = omega (arith, ltb-false at k f) in rw same (h (rw same at noted) (rw same at outside))
    ]

pub marked_before : (marks text : List ℕ) (at mark : ℕ) → at < length marks → AreMarked marks text (at + 1) → (mark ≡ 0 → width_len (drop at text) ≡ 0)
    → AreMarked (set marks at mark) text at
marked_before marks text at mark w m h k x y z =
    elim (cases_Bool (nat_eq k at)) [
      | inl t ↦
          let same : k ≡ at = eqb-true k at t in
          rw same (h (sym (get_or-set_same marks at mark 0 w) ∙ rw same at z))
      | inr f ↦
          let other : k ≢ at = grind (arith, nat_tests) in
          m k (omega arith) y (sym (get_or-set_other marks at k mark 0 other) ∙ z)
    ]

-- ---- Control lines, whose comment follows the name: helpers of proofs.

-- ---- bytes before the first backslash are before the comment

taken : (text : List ℕ) (n : ℕ) → n ≤ prefix_len is_plain text → take n (without_comment text) ≡ take n text
taken (x ∷ y ∷ ys) (suc n) h = grind (arith, nat_tests, h, taken (y ∷ ys) n)
taken _ _ h = refl

dropped : (text : List ℕ) (n : ℕ) → n ≤ prefix_len is_plain text → drop n (without_comment text) ≡ without_comment (drop n text)
dropped text zero h = refl
dropped [] (suc n) h = refl
dropped (x ∷ []) (suc zero) h = refl
dropped (x ∷ []) (suc (suc n)) h = refl
dropped (x ∷ y ∷ ys) (suc n) h = grind (arith, nat_tests, h, dropped (y ∷ ys) n)

-- a run of bytes that a backslash ends is no other one without the comment
counted : (p : ℕ → Bool) (text : List ℕ) → p 92 ≡ false → prefix_len p (without_comment text) ≡ prefix_len p text
counted p (x ∷ y ∷ ys) h = grind (arith, nat_tests, counted p (y ∷ ys) h)
counted p _ h = refl

-- such a run is before the first backslash
shorter : (p : ℕ → Bool) (text : List ℕ) → p 92 ≡ false → prefix_len p text ≤ prefix_len is_plain text
shorter p [] h = omega arith
shorter p (x ∷ xs) h = grind (arith, nat_tests, h, shorter p xs h)

-- ---- a control line: its name, and the rest without its comment

pub uncommented_control : (bytes : List ℕ) → control_line (without_comment bytes)
    ≡ Control (take (name_len bytes) (drop (name_start bytes) bytes)) (2 + name_start bytes)
    (without_comment (drop (name_len bytes) (drop (name_start bytes) bytes))) (2 + name_start bytes + name_len bytes)
uncommented_control bytes =
    let s = counted is_white bytes refl in
    let d = dropped bytes (name_start bytes) (shorter is_white bytes refl) in
    let named = drop (name_start bytes) bytes in
    let n = counted is_name named refl in
    let k = shorter is_name named refl in
    rw (s, d, n, taken named (name_len bytes) k, dropped named (name_len bytes) k) refl

no_white : (x : ℕ) → is_control x ≡ true → is_white x ≡ false
no_white x h = grind (arith, nat_tests)

no_slash : (x : ℕ) → is_control x ≡ true → (x == 92) ≡ false
no_slash x h = grind (arith, nat_tests)

some_word : (x : ℕ) (xs : List ℕ) → is_white x ≡ false → has_word (x ∷ xs) ≡ true
some_word x xs h = let t : nat_lt 0 (length (x ∷ xs)) ≡ true = grind (arith, nat_tests) in rw h t

control_form : (x : ℕ) (bytes : List ℕ) → is_control x ≡ true → form_of (x ∷ bytes) ≡ control_line (without_comment bytes)
control_form x [] h = rw (no_white x h, h) refl
control_form x (y ∷ ys) h = rw (some_word x (y ∷ ys) (no_white x h), no_slash x h, h) refl

form_after : (line : List ℕ) → begins_control line ≡ true → form_of line ≡ control_line (without_comment (drop 1 line))
form_after [] h = let no : ⊥ = cc in absurd no
form_after (x ∷ bytes) h = control_form x bytes h

pub control_named : (line : List ℕ) → begins_control line ≡ true → let bytes = drop 1 line in
    name_of (form_of line) ≡ Some (take (name_len bytes) (drop (name_start bytes) bytes))
control_named line h = ap name_of (form_after line h ∙ uncommented_control (drop 1 line))

-- ---- The end of a text: helpers of proofs.

pub kept-white : (drops : ℕ → Bool) → (xs : List ℕ) (x : ℕ) → drops x ≡ true → kept_len drops (xs ++ x ∷ []) ≡ kept_len drops xs
kept-white drops [] x h = rw h refl
kept-white drops (y ∷ ys) x h = rw (kept-white drops ys x h) refl

pub kept-full : (drops : ℕ → Bool) → (xs : List ℕ) (x : ℕ) → drops x ≡ false → kept_len drops (xs ++ x ∷ []) ≡ length xs + 1
kept-full drops [] x h = rw h refl
kept-full drops (y ∷ ys) x h =
    let t : (length ys + 1 == 0) ≡ false = grind (arith, nat_tests) in
    rw (kept-full drops ys x h, t) (omega arith)

last_of_front : (line : List ℕ) (n m : ℕ) → n ≡ m + 1 → m < length line → take n line ≡ take m line ++ get_or line m 0 ∷ []
last_of_front line n m e h = rw e (take_more line m 0 h)

pub kept_less : (drops : ℕ → Bool) → (line : List ℕ) (n : ℕ) → 0 < n → n ≤ length line → drops (get_or line (n - 1) 0) ≡ true → kept_len drops (take n line) ≡ kept_len drops (take (n - 1) line)
kept_less drops line n p h e = rw (last_of_front line n (n - 1) (omega arith) (omega arith)) (kept-white drops (take (n - 1) line) (get_or line (n - 1) 0) e)

pub kept_same : (drops : ℕ → Bool) → (line : List ℕ) (n : ℕ) → 0 < n → n ≤ length line → drops (get_or line (n - 1) 0) ≡ false → kept_len drops (take n line) ≡ n
kept_same drops line n p h e =
    rw (last_of_front line n (n - 1) (omega arith) (omega arith))
    (kept-full drops (take (n - 1) line) (get_or line (n - 1) 0) e ∙ (let w : n - 1 ≤ length line = omega arith in let l = length-take-le (n - 1) line w in omega (arith, l)))

pub kept_nothing : (drops : ℕ → Bool) → (line : List ℕ) (n : ℕ) → n ≤ 0 → kept_len drops (take n line) ≡ n
kept_nothing drops line n h = let e : n ≡ 0 = omega arith in rw e refl
