-- Arguments, one by one: helpers of proofs.
use Rattle.std.proofs.Common.{◌≡◌, ◌≢◌, ℕ, zero, suc, ◌+◌, ◌<◌, ◌≤◌, ◌==◌, ◌&&◌, not, Bool, true, false, List, [], ◌∷◌, length, drop, get_or, Option, Some, None, unwrap_or, refl, sym, ap, ◌∙◌, arith, inl, inr, length-drop, add-zero}
use Rattle.std.specs.List.{prefix_len}
use Rattle.std.proofs.lemmas.Bool.{cases_Bool}
use Rattle.std.proofs.lemmas.Bool.Decides.{nat_tests}
use Rattle.std.proofs.lemmas.List.{drop_more, drop_all, drop-drop}
use Rattle.memchr.specs.Find.{IsFirstByte, is_byte2}
use Rattle.page_roff_syntax.specs.Arguments.{is_blank, bare_len, quoted_len, argument_len, first_argument, first_arguments, arguments}

-- ---- arguments without quotes

pub blank_test : (byte : ℕ) → byte ≡ 32 → is_blank byte ≡ true
blank_test byte e = grind (arith, nat_tests)

pub letter_test : (byte : ℕ) → byte ≢ 32 → is_blank byte ≡ false
letter_test byte e = grind (arith, nat_tests)

pub bare_pair : (text : List ℕ) (i : ℕ) → i + 1 < length text → is_blank (get_or text i 0) ≡ false → get_or text i 0 ≡ 92
    → bare_len (drop i text) ≡ 2 + bare_len (drop (i + 2) text)
bare_pair text i h p e =
    let a = drop_more text i 0 (omega arith) in
    let b = drop_more text (i + 1) 0 h in
    let n : i + 1 + 1 ≡ i + 2 = omega arith in
    let t : (get_or text i 0 == 92) ≡ true = grind (arith, nat_tests) in
    rw (a, b, p, t, n) refl

-- a byte that is neither a blank nor a backslash
abbrev pub is_unescaped : ℕ → Bool
is_unescaped byte = not (byte == 32) && not (byte == 92)

-- such bytes are read at once
pub bare_run : (text : List ℕ) → bare_len text ≡ prefix_len is_unescaped text + bare_len (drop (prefix_len is_unescaped text) text)
bare_run [] = refl
bare_run (byte ∷ bytes) = grind (arith, bare_run bytes, drop-drop (prefix_len is_unescaped bytes) 1 (byte ∷ bytes))

pub bare_begins : (text : List ℕ) → 0 < length text → get_or text 0 0 ≢ 32 → get_or text 0 0 ≢ 92 → 0 < prefix_len is_unescaped text
bare_begins [] h e f = absurd (omega arith)
bare_begins (byte ∷ bytes) h e f = grind (arith, nat_tests)

ends_at : (text : List ℕ) (x : ℕ) (xs : List ℕ) → text ≡ x ∷ xs → is_blank x ≡ true → bare_len text ≡ 0
ends_at text x [] e p = rw (e, p) refl
ends_at text x (y ∷ ys) e p = rw (e, p) refl

pub bare_none : (text : List ℕ) (i : ℕ) → i < length text → is_blank (get_or text i 0) ≡ true → bare_len (drop i text) ≡ 0
bare_none text i h p = ends_at (drop i text) (get_or text i 0) (drop (i + 1) text) (drop_more text i 0 h) p

pub bare_within : (text : List ℕ) → bare_len text ≤ length text
bare_within [] = omega arith
bare_within (b ∷ []) = elim (cases_Bool (is_blank b)) [ inl t ↦ rw t (omega arith) | inr t ↦ rw t (omega arith) ]
bare_within (b ∷ c ∷ cs) = grind (arith, bare_within cs, bare_within (c ∷ cs))

pub bare_some : (b : ℕ) (bs : List ℕ) → is_blank b ≡ false → 0 < bare_len (b ∷ bs)
bare_some b [] t = rw t (omega arith)
bare_some b (c ∷ cs) t = elim (cases_Bool (b == 92)) [ inl s ↦ rw (t, s) (omega arith) | inr s ↦ rw (t, s) (omega arith) ]

-- ---- quotes

plain_at : (x : ℕ) (xs : List ℕ) → (x == 34) ≡ false → (x == 92) ≡ false → quoted_len (x ∷ xs) ≡ 1 + quoted_len xs
plain_at x [] t u = rw t refl
plain_at x (y ∷ ys) t u = rw (t, u) refl

quoted_byte : (text : List ℕ) (i : ℕ) → i < length text → get_or text i 0 ≢ 34 → get_or text i 0 ≢ 92
    → quoted_len (drop i text) ≡ 1 + quoted_len (drop (i + 1) text)
quoted_byte text i h e f =
    let a = drop_more text i 0 h in
    let t : (get_or text i 0 == 34) ≡ false = grind (arith, nat_tests) in
    let u : (get_or text i 0 == 92) ≡ false = grind (arith, nat_tests) in
    rw a (plain_at (get_or text i 0) (drop (i + 1) text) t u)

-- a byte that is neither a quote nor a backslash
is_other : ℕ → Type 0
is_other byte = (byte ≢ 34) × (byte ≢ 92)

-- such bytes are read at once
quoted_run : (text : List ℕ) (n : ℕ) → n ≤ length text → ((k : ℕ) → k < n → is_other (get_or text k 0)) → quoted_len text ≡ n + quoted_len (drop n text)
unfolding is_other
quoted_run text zero h f = omega arith
quoted_run text (suc n) h f =
    let e : n + 1 ≡ suc n = omega arith in
    let r = quoted_run text n (omega arith) (λ k l. f k (omega arith)) in
    let o = f n (omega arith) in
    let q = rw e at (quoted_byte text n (omega arith) o.0 o.1) in
    omega (arith, r, q)

other : (b : ℕ) → ¬ (is_byte2 34 92 b ≡ true) → is_other b
unfolding is_other
other b h = (
  λ e. h (let t : (b == 34) ≡ true = grind (arith, nat_tests) in rw t refl),
  λ e. h (let t : (b == 34) ≡ false = grind (arith, nat_tests) in let u : (b == 92) ≡ true = grind (arith, nat_tests) in rw (t, u) refl),
)

pub quoted_to : (text : List ℕ) (r : Option ℕ) → IsFirstByte (is_byte2 34 92) text r
    → let n = unwrap_or r (length text) in quoted_len text ≡ n + quoted_len (drop n text)
quoted_to text None h = quoted_run text (length text) (omega arith) (λ k l. other (get_or text k 0) (h k (omega arith) l))
quoted_to text (Some n) h = quoted_run text n (omega (arith, h.0.high)) (λ k l. other (get_or text k 0) (h.0.before k (omega arith) l))

found_other : (b : ℕ) → is_byte2 34 92 b ≡ true → b ≢ 34 → b ≢ 92 → ⊥
found_other b t e f = grind (arith, nat_tests)

pub quoted_some : (text : List ℕ) (r : Option ℕ) → IsFirstByte (is_byte2 34 92) text r → 0 < length text → get_or text 0 0 ≢ 34 → get_or text 0 0 ≢ 92
    → 0 < unwrap_or r (length text)
quoted_some text None h p e f = p
quoted_some text (Some zero) h p e f = absurd (found_other (get_or text 0 0) h.1 e f)
quoted_some text (Some (suc n)) h p e f = omega arith

-- a backslash and its next byte
pub quoted_pair : (text : List ℕ) (i : ℕ) → i + 1 < length text → get_or text i 0 ≡ 92 → quoted_len (drop i text) ≡ 2 + quoted_len (drop (i + 2) text)
quoted_pair text i h e =
    let a = drop_more text i 0 (omega arith) in
    let b = drop_more text (i + 1) 0 h in
    let n : i + 1 + 1 ≡ i + 2 = omega arith in
    let t : (get_or text i 0 == 34) ≡ false = grind (arith, nat_tests) in
    let u : (get_or text i 0 == 92) ≡ true = grind (arith, nat_tests) in
    rw (a, b, t, u, n) refl

-- a backslash at the end
pub quoted_last : (text : List ℕ) (i : ℕ) → i < length text → length text ≤ i + 1 → get_or text i 0 ≡ 92 → quoted_len (drop i text) ≡ 1 + quoted_len (drop (i + 1) text)
quoted_last text i h k e =
    let a = drop_more text i 0 h in
    let b = drop_all (i + 1) text k in
    let t : (get_or text i 0 == 34) ≡ false = grind (arith, nat_tests) in
    rw (a, b, t) refl

pub quoted_within : (text : List ℕ) → quoted_len text ≤ length text
quoted_within [] = omega arith
quoted_within (b ∷ []) = elim (cases_Bool (b == 34)) [ inl t ↦ rw t (omega arith) | inr t ↦ rw t (omega arith) ]
quoted_within (b ∷ c ∷ cs) = grind (arith, quoted_within cs, quoted_within (c ∷ cs))

-- ---- all arguments

argument_some : (b : ℕ) (bs : List ℕ) → is_blank b ≡ false → 0 < argument_len (b ∷ bs)
argument_some b bs t = grind arith

-- more parts than bytes make no difference
enough : (n m column : ℕ) (text : List ℕ) → length text ≤ n → length text ≤ m → first_arguments n column text ≡ first_arguments m column text
enough zero (suc m) column (b ∷ bs) p q = absurd (omega arith)
enough (suc n) zero column (b ∷ bs) p q = absurd (omega arith)
enough (suc n) (suc m) column (b ∷ bs) p q =
    elim (cases_Bool (is_blank b)) [
      | inl t ↦ rw t (enough n m (column + 1) bs (omega arith) (omega arith))
      | inr t ↦
          let some = argument_some b bs t in
          let e = length-drop (argument_len (b ∷ bs)) (b ∷ bs) in
          rw t (ap (λ l. first_argument column (b ∷ bs) ∷ l)
          (enough n m (column + argument_len (b ∷ bs)) (drop (argument_len (b ∷ bs)) (b ∷ bs)) (omega (arith, e)) (omega (arith, e))))
    ]
enough _ _ column _ p q = refl

one_blank : (column b : ℕ) (bs : List ℕ) → is_blank b ≡ true → arguments column (b ∷ bs) ≡ arguments (column + 1) bs
unfolding arguments
one_blank column b bs t = rw t refl

one_less : (n b : ℕ) (bs : List ℕ) → drop (1 + n) (b ∷ bs) ≡ drop n bs
one_less n b bs = let e : 1 + n ≡ suc n = omega arith in rw e refl

-- blanks before an argument are passed
pub after_blanks : (column : ℕ) (text : List ℕ) → arguments column text ≡ arguments (column + prefix_len is_blank text) (drop (prefix_len is_blank text) text)
after_blanks column [] = rw (add-zero) refl
after_blanks column (b ∷ bs) =
    elim (cases_Bool (is_blank b)) [
      | inl t ↦
          let n = prefix_len is_blank bs in
          let e : column + 1 + n ≡ column + (1 + n) = omega arith in
          rw t (one_blank column b bs t ∙ after_blanks (column + 1) bs ∙ ap (λ k. arguments k (drop n bs)) e ∙ ap (arguments (column + (1 + n))) (sym (one_less n b bs)))
      | inr t ↦ rw (t, add-zero) refl
    ]

-- the first argument, and then the others
pub one_argument : (column : ℕ) (text : List ℕ) → 0 < length text → is_blank (get_or text 0 0) ≡ false
    → arguments column text ≡ first_argument column text ∷ arguments (column + argument_len text) (drop (argument_len text) text)
unfolding arguments
one_argument column [] h t = absurd (omega arith)
one_argument column (b ∷ bs) h t =
    let some = argument_some b bs t in
    let e = length-drop (argument_len (b ∷ bs)) (b ∷ bs) in
    rw t (ap (λ l. first_argument column (b ∷ bs) ∷ l)
    (enough (length bs) (length (drop (argument_len (b ∷ bs)) (b ∷ bs))) (column + argument_len (b ∷ bs)) (drop (argument_len (b ∷ bs)) (b ∷ bs)) (omega (arith, e)) (omega (arith, e))))

-- there is no blank after blanks
pub no_blank : (text : List ℕ) → 0 < length (drop (prefix_len is_blank text) text) → is_blank (get_or (drop (prefix_len is_blank text) text) 0 0) ≡ false
no_blank [] h = absurd (omega arith)
no_blank (b ∷ bs) h =
    elim (cases_Bool (is_blank b)) [
      | inl t ↦ let k = rw (t, one_less) at h in rw (t, one_less) (no_blank bs k)
      | inr t ↦ rw t t
    ]

pub no_argument : (column : ℕ) (text : List ℕ) → length text ≤ 0 → arguments column text ≡ []
unfolding arguments
no_argument column [] h = refl
no_argument column (b ∷ bs) h = absurd (omega arith)

-- one reading: past blanks, and past an argument
pub read_one : (column blanks len : ℕ) (rest text : List ℕ) → blanks ≡ prefix_len is_blank rest → text ≡ drop blanks rest → (length text == 0) ≡ false
    → len ≡ argument_len text → arguments column rest ≡ first_argument (column + blanks) text ∷ arguments (column + (blanks + len)) (drop (blanks + len) rest)
read_one column blanks len rest text b t e n =
    let some : 0 < length text = grind (arith, nat_tests) in
    let past : drop len text ≡ drop (blanks + len) rest = ap (drop len) t ∙ drop-drop len blanks rest in
    let sum : column + blanks + len ≡ column + (blanks + len) = omega arith in
    let read : arguments column rest ≡ first_argument (column + blanks) text ∷ arguments (column + blanks + len) (drop len text) =
    rw (n, t, b) (after_blanks column rest ∙ one_argument (column + prefix_len is_blank rest) (drop (prefix_len is_blank rest) rest) (rw (t, b) at some) (no_blank rest (rw (t, b) at some))) in
    rw (sum, past) at read

-- no reading: nothing but blanks is left
pub read_none : (column blanks : ℕ) (rest text : List ℕ) → blanks ≡ prefix_len is_blank rest → text ≡ drop blanks rest → (length text == 0) ≡ true → arguments column rest ≡ []
read_none column blanks rest text b t e =
    let none : length text ≤ 0 = grind (arith, nat_tests) in
    after_blanks column rest ∙ no_argument (column + prefix_len is_blank rest) (drop (prefix_len is_blank rest) rest) (rw (t, b) at none)
