-- Lines and their comments: helpers of proofs.
use Rattle.std.proofs.Common.{◌≡◌, ℕ, suc, ◌+◌, ◌<◌, ◌≤◌, ◌==◌, Bool, true, false, not, List, [], ◌∷◌, length, take, drop, get_or, Option, Some, None, unwrap_or, refl, sym, ap, inl, inr, arith, length-drop}
use Rattle.std.proofs.lemmas.Bool.{cases_Bool}
use Rattle.std.proofs.lemmas.Bool.Decides.{nat_tests}
use Rattle.std.proofs.lemmas.List.{drop_more, drop-drop, get_or-drop}
use Rattle.std.proofs.lemmas.List.Sums.{prefix_len_is, prefix_len_stops, prefix_len-le-length}
use Rattle.std.specs.List.{prefix_len}
use Rattle.memchr.specs.Find.{IsFirstByte, is_byte}
use Rattle.page_roff_syntax.specs.laws.Views.{is_plain}
use Rattle.page_roff_syntax.specs.LineForms.{begins_comment, without_comment}

-- ---- the first backslash

other : (b : Bool) → ¬ (b ≡ true) → not b ≡ true
other true h = absurd (h refl)
other false h = refl

pub plain_to : (text : List ℕ) (r : Option ℕ) → IsFirstByte (is_byte 92) text r → unwrap_or r (length text) ≡ prefix_len is_plain text
plain_to text None h =
    sym (prefix_len_is is_plain text (length text) 0 (omega arith) (λ k l. other (get_or text k 0 == 92) (h k (omega arith) l)) (λ l. absurd (omega arith)))
plain_to text (Some n) h =
    sym (prefix_len_is is_plain text n 0 (omega (arith, h.0.high)) (λ k l. other (get_or text k 0 == 92) (h.0.before k (omega arith) l)) (λ l. rw h.1 refl))

-- ---- the length of a line up to its comment

passed_none : (line : List ℕ) (n : ℕ) → n ≡ 0 → length (without_comment line) ≡ n + length (without_comment (drop n line))
passed_none line n e = rw e (omega arith)

passed_one : (x y : ℕ) (ys : List ℕ) (n m : ℕ) → n ≡ 1 + m → (x == 92) ≡ false
    → length (without_comment (y ∷ ys)) ≡ m + length (without_comment (drop m (y ∷ ys)))
    → length (without_comment (x ∷ y ∷ ys)) ≡ n + length (without_comment (drop n (x ∷ y ∷ ys)))
passed_one x y ys n m e t p = let s : n ≡ suc m = omega arith in rw (s, t) (omega (arith, p))

-- the bytes of a line that are no backslash are before its comment
plain_passed : (line : List ℕ) → length (without_comment line) ≡ prefix_len is_plain line + length (without_comment (drop (prefix_len is_plain line) line))
plain_passed [] = refl
plain_passed (x ∷ []) = elim (cases_Bool (x == 92)) [ inl t ↦ rw t refl | inr t ↦ rw t refl ]
plain_passed (x ∷ y ∷ ys) =
    elim (cases_Bool (x == 92)) [
      | inl t ↦ passed_none (x ∷ y ∷ ys) (prefix_len is_plain (x ∷ y ∷ ys)) (rw t refl)
      | inr t ↦ passed_one x y ys (prefix_len is_plain (x ∷ y ∷ ys)) (prefix_len is_plain (y ∷ ys)) (rw t refl) t (plain_passed (y ∷ ys))
    ]

short_line : (line : List ℕ) → length line ≤ 1 → without_comment line ≡ line
short_line (x ∷ y ∷ ys) h = absurd (omega arith)
short_line _ h = refl

-- ---- a line as far as it was read: up to a backslash outside its comment, or to its end
pub record IsReadTo (line : List ℕ) (i : ℕ) : Type 0 where
  pub within : i ≤ length line
  pub size : length (without_comment line) ≡ i + length (without_comment (drop i line))
  pub stops : i < length line → (get_or line i 0 == 92) ≡ true

pub plain_false : (b : Bool) → not b ≡ false → b ≡ true
plain_false true h = refl
plain_false false h = sym h

-- from a place on, up to the next backslash
pub read_on : (line : List ℕ) (i n : ℕ) → i ≤ length line → length (without_comment line) ≡ i + length (without_comment (drop i line))
    → n ≡ prefix_len is_plain (drop i line) → IsReadTo line (i + n)
read_on line i n w e f =
    let d = length-drop i line in
    let l = prefix_len-le-length is_plain (drop i line) in
    let p = plain_passed (drop i line) in
    let q : drop n (drop i line) ≡ drop (i + n) line = drop-drop n i line in
    let r : length (without_comment (drop i line)) ≡ n + length (without_comment (drop (i + n) line)) = rw (← q, f) p in
    record {
      within = omega arith;
      size = omega arith;
      stops = λ h.
          let s = prefix_len_stops is_plain (drop i line) 0 (omega arith) in
          plain_false (get_or line (i + n) 0 == 92) (rw (get_or-drop, ← f) at s);
    }

pub read_first : (line : List ℕ) (n : ℕ) → n ≡ prefix_len is_plain line → IsReadTo line n
read_first line n f = let e : 0 + n ≡ n = omega arith in rw e at (read_on line 0 n (omega arith) (omega arith) f)

pub read_comment : (line : List ℕ) (i : ℕ) → IsReadTo line i → i + 1 < length line → begins_comment (get_or line (i + 1) 0) ≡ true
    → length (without_comment line) ≡ i
read_comment line i r h c =
    let a = drop_more line i 0 (omega arith) in
    let b = drop_more line (i + 1) 0 h in
    let e : length (without_comment (drop i line)) ≡ 0 = rw (a, b, r.stops (omega arith), c) refl in
    omega (arith, r.size)

pub read_pair : (line : List ℕ) (i n : ℕ) → IsReadTo line i → i + 1 < length line → begins_comment (get_or line (i + 1) 0) ≡ false
    → n ≡ prefix_len is_plain (drop (i + 2) line) → IsReadTo line (i + 2 + n)
read_pair line i n r h c f =
    let a = drop_more line i 0 (omega arith) in
    let b = drop_more line (i + 1) 0 h in
    let k : i + 1 + 1 ≡ i + 2 = omega arith in
    let e : length (without_comment (drop i line)) ≡ 2 + length (without_comment (drop (i + 2) line)) = rw (a, b, k, r.stops (omega arith), c) (omega arith) in
    read_on line (i + 2) n (omega arith) (omega (arith, r.size)) f

pub read_all : (line : List ℕ) (i : ℕ) → IsReadTo line i → length line ≤ i + 1 → length (without_comment line) ≡ length line
read_all line i r h =
    let d = length-drop i line in
    let e = ap length (short_line (drop i line) (omega arith)) in
    omega (arith, r.size, r.within)

-- ---- the front of a line up to its comment

abbrev IsFrontOf : List ℕ → List ℕ → Type 0
IsFrontOf line text = take (length text) line ≡ text

uncommented_front : (line : List ℕ) → IsFrontOf line (without_comment line)
uncommented_front (x ∷ y ∷ ys) = grind (arith, nat_tests, uncommented_front ys, uncommented_front (y ∷ ys))
uncommented_front _ = refl

pub front_of : (line : List ℕ) (n : ℕ) → length (without_comment line) ≡ n → take n line ≡ without_comment line
front_of line n e = rw (← e) (uncommented_front line)
