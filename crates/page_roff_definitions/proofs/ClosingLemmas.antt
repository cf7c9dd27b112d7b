-- Arguments of a text without a quote: helpers of proofs.
use Rattle.std.proofs.Common.{◌≡◌, ℕ, zero, suc, ◌+◌, ◌<◌, ◌==◌, Bool, true, false, is_none, List, [], ◌∷◌, length, get_or, drop, if◌then◌else◌, Option, None, Some, refl, arith, length-drop, ◌≤◌, is_some, ap}
use Rattle.std.proofs.lemmas.List.{get_or-drop}
use Rattle.memchr.specs.Find.{IsFirstByte, is_byte}
use Rattle.page_roff_syntax.specs.Arguments.{is_blank, first_argument, quoted_argument, bare_argument, argument_len, first_arguments, arguments, is_quoted, argument_value}
use Rattle.page_roff_syntax.specs.declared.quotes.Argument.{Argument}
use Rattle.page_roff_definitions.specs.Definitions.{closing_notes, closings_notes}
use Rattle.std.specs.Prelude.{◌++◌, IfSome}
use Rattle.page_core_base.specs.Messages.{Message}
use Rattle.page_core_base.specs.declared.limits.TheConstants.{BODY}
use Rattle.page_core_base.specs.Texts.{unpaired}

abbrev HasNone : List ℕ → Type 0
HasNone text = (i : ℕ) → i < length text → (get_or text i 0 == 34) ≡ false

none_after : (k : ℕ) (text : List ℕ) → HasNone text → HasNone (drop k text)
none_after k text h i l = rw (get_or-drop k text i 0) (h (k + i) (omega (arith, length-drop k text, l)))

bare_closing : (line column : ℕ) (quoted : Bool) (text inner : List ℕ) → quoted ≡ false
    → closing_notes line (if quoted then quoted_argument column inner else bare_argument column text) ≡ []
bare_closing line column true text inner e = let no : ⊥ = cc in absurd no
bare_closing line column false text inner e = refl

closings_if : (line : ℕ) (blank : Bool) (a : Argument (List ℕ)) (xs ys : List (Argument (List ℕ))) → closing_notes line a ≡ []
    → closings_notes line xs ≡ [] → closings_notes line ys ≡ [] → closings_notes line (if blank then xs else a ∷ ys) ≡ []
closings_if line true a xs ys e f h = f
closings_if line false a xs ys e f h = rw (e, h) refl

no_closings : (n line column : ℕ) (text : List ℕ) → HasNone text → closings_notes line (first_arguments n column text) ≡ []
no_closings zero line column text h = refl
no_closings (suc n) line column [] h = refl
no_closings (suc n) line column (b ∷ bs) h =
    let k = argument_len (b ∷ bs) in
    closings_if line (is_blank b) (first_argument column (b ∷ bs)) (first_arguments n (column + 1) bs)
    (first_arguments n (column + k) (drop k (b ∷ bs)))
    (bare_closing line column (b == 34) (b ∷ bs) bs (h 0 (omega arith)))
    (no_closings n line (column + 1) bs (λ i l. h (suc i) (omega arith)))
    (no_closings n line (column + k) (drop k (b ∷ bs)) (none_after k (b ∷ bs) h))

not_true : (b : Bool) → ¬ (b ≡ true) → b ≡ false
not_true true h = absurd (h refl)
not_true false h = refl

-- where there is no quote, no argument lacks its last one
pub unquoted_closings : (line column : ℕ) (text : List ℕ) (r : Option ℕ) → is_none r ≡ true → IsFirstByte (is_byte 34) text r
    → closings_notes line (arguments column text) ≡ []
unfolding arguments
unquoted_closings line column text None e h =
    no_closings (length text) line column text (λ i l. not_true (get_or text i 0 == 34) (h i (omega arith) l))
unquoted_closings line column text (Some k) e h = let no : ⊥ = cc in absurd no

-- ---- Messages that come to a latch in a loop: helpers of proofs.

-- of all, what is still to come
abbrev pub CameUpTo : {P S : Type 0} → (P → S → List Message → Type 0) → S → List Message → List Message → S → Type 0
CameUpTo {P} left s all next t = (plan : P) (more : List Message) → left plan s (all ++ more) → left plan t (next ++ more)

-- ---- How long the body of an open region is: helpers of proofs.

pub body_fits : (is_open : Bool) (text : List ℕ) → length text ≤ BODY → IfSome (if is_open then Some text else None) (λ body. length body ≤ BODY)
body_fits true text h = h
body_fits false text h = tt

-- ---- The arguments of a call, packed: helpers of proofs.

-- a text without a quote has no pair of them
unpaired_plain : (text : List ℕ) → ((k : ℕ) → k < length text → ¬ ((get_or text k 0 == 34) ≡ true)) → unpaired text ≡ text
unpaired_plain [] f = refl
unpaired_plain (b ∷ []) f = refl
unpaired_plain (b ∷ n ∷ bs) f =
    let t : (b == 34) ≡ false = other (b == 34) (f 0 (omega arith)) in
    rw t (ap (λ (l : List ℕ). b ∷ l) (unpaired_plain (n ∷ bs) (λ k l. f (suc k) (omega arith))))
  where
    other : (c : Bool) → ¬ (c ≡ true) → c ≡ false
    other true h = absurd (h refl)
    other false h = refl

-- an argument in which no quote was found
pub plain_value : (a : Argument (List ℕ)) (r : Option ℕ) → IsFirstByte (is_byte 34) a.text r → is_some r ≡ false → argument_value a ≡ a.text
plain_value a (Some n) h e = let no : ⊥ = cc in absurd no
plain_value a None h e = either (is_quoted a.quoting)
  where
    either : (quoted : Bool) → (if quoted then unpaired a.text else a.text) ≡ a.text
    either true = unpaired_plain a.text (λ k l. h k (omega arith) l)
    either false = refl
