-- The arguments of a macro in their bytes: helpers of proofs.
use Rattle.std.proofs.Common.{◌≡◌, ℕ, zero, suc, ◌+◌, ◌<◌, ◌≤◌, Bool, true, false, ◌==◌, List, [], ◌∷◌, ◌++◌, length, get_or, take, drop, if◌then◌else◌, refl, ◌∙◌, sym, append-nil, arith, ◌*◌, not, ap, append_assoc, ◌-◌, length-append, length-drop}
use Rattle.std.proofs.lemmas.Bool.{eqb-true}
use Rattle.page_core_base.specs.declared.limits.TheConstants.{ARGS}
use Rattle.page_roff_values.specs.Values.{begin_first, arguments_in, argument_at, spaced, spaced_quoted, TextSoFar, LaidText, nothing, join, unless, seq}
use Rattle.page_roff_values.specs.machine.Held.{AreHeld, units_of_text, AreMeasured, IsMeasured}
use Rattle.page_core_base.specs.Messages.{Message}
use Rattle.page_roff_values.specs.laws.Views.{Goes}
use Rattle.std.specs.Str.{IsUtf8}
use Rattle.page_core_base.specs.declared.page_settings.Output.{Output}
use Rattle.page_core_numbers.specs.machine.Signs.{Left}
use Rattle.page_core_numbers.proofs.ExpressionLemmas.{printed-same}
use Rattle.std.proofs.lemmas.List.{drop-append-le, take-append-le, take_all, drop_at}
use Rattle.std.proofs.lemmas.Str.{is_utf8-from_IsUtf8}
use Rattle.page_core_base.specs.Limits.{LINE}
use Rattle.std.proofs.lemmas.List.Elements.{All-weaker, All-push}
use Rattle.page_roff_values.specs.declared.known_widths.KnownWidth.{KnownWidth}

pub not_true : (b : Bool) → ¬ (b ≡ true) → b ≡ false
not_true true h = absurd (h refl)
not_true false h = refl

-- up to a line feed
pub first_of : (packed : List ℕ) (k : ℕ) → k < length packed → ((i : ℕ) → i < k → (get_or packed i 0 == 10) ≡ false) → (get_or packed k 0 == 10) ≡ true
    → arguments_in packed ≡ take k packed ∷ arguments_in (drop (k + 1) packed)
unfolding arguments_in
first_of [] k h n e = absurd (omega arith)
first_of (b ∷ bs) zero h n e = rw e refl
first_of (b ∷ bs) (suc k) h n e =
    let r = first_of bs k (omega arith) (λ i l. n (suc i) (omega arith)) e in
    let s : suc k + 1 ≡ suc (k + 1) = omega arith in
    rw (n 0 (omega arith), r, s) refl

-- up to the end
pub last_of : (packed : List ℕ) → 0 < length packed → ((i : ℕ) → i < length packed → (get_or packed i 0 == 10) ≡ false)
    → arguments_in packed ≡ packed ∷ []
unfolding arguments_in
last_of [] h n = absurd (omega arith)
last_of (b ∷ []) h n = rw (n 0 (omega arith)) refl
last_of (b ∷ c ∷ bs) h n =
    let r = last_of (c ∷ bs) (omega arith) (λ i l. n (suc i) (omega arith)) in
    rw (n 0 (omega arith), r) refl

pub none_in : arguments_in [] ≡ []
unfolding arguments_in
none_in = refl

-- ---- all arguments so far, and one more

-- no more arguments than bytes
pub arguments_len : (packed : List ℕ) → length (arguments_in packed) ≤ length packed
unfolding arguments_in
arguments_len [] = omega arith
arguments_len (b ∷ bs) = either (b == 10) (arguments_in bs) (arguments_len bs)
  where
    begun : (b : ℕ) (xs : List (List ℕ)) (n : ℕ) → length xs ≤ n → length (begin_first b xs) ≤ suc n
    begun b [] n h = omega arith
    begun b (x ∷ xs) n h = omega arith

    either : (c : Bool) (xs : List (List ℕ)) → length xs ≤ length bs → length (if c then [] ∷ xs else begin_first b xs) ≤ suc (length bs)
    either true xs h = omega arith
    either false xs h = begun b xs (length bs) h

-- ---- no bytes are left

no_bytes : (rest : List ℕ) → (length rest == 0) ≡ true → rest ≡ []
no_bytes [] h = refl
no_bytes (x ∷ xs) h = let e : suc (length xs) ≡ 0 = eqb-true (suc (length xs)) 0 h in absurd (omega arith)

pub no_argument : (rest : List ℕ) (n : ℕ) → (length rest == 0) ≡ true → argument_at n (arguments_in rest) ≡ rest
no_argument rest n h = rw (no_bytes rest h, none_in) refl

pub counted_end : (rest : List ℕ) (n all : ℕ) → (length rest == 0) ≡ true → n + length (arguments_in rest) ≡ all → n ≡ all
counted_end rest n all h e = let k = rw (no_bytes rest h, none_in) at e in omega arith

pub spaced_end : (rest text all : List ℕ) → (length rest == 0) ≡ true → text ++ spaced (arguments_in rest) ≡ all → text ≡ all
spaced_end rest text all h e = sym (append-nil text) ∙ (rw (no_bytes rest h, none_in) at e)

pub quoted_end : (rest text all : List ℕ) → (length rest == 0) ≡ true → text ++ spaced_quoted (arguments_in rest) ≡ all → text ≡ all
quoted_end rest text all h e = sym (append-nil text) ∙ (rw (no_bytes rest h, none_in) at e)

pub held_none : (p q r : List ℕ) (a b c : ℕ) → p ≡ [] → q ≡ [] → r ≡ [] → ARGS ≤ a → ARGS + 1 ≤ b → 3 * (ARGS + 1) ≤ c → AreHeld 0 p q r a b c
unfolding arguments_in
held_none p q r a b c e f g h k l = grind arith

-- ---- How one thing is laid after another: helpers of proofs.

abbrev laid : List Message → TextSoFar → LaidText
laid notes edge = record { notes = notes; edge = edge }

unless_more : (b : Bool) (a y : LaidText) → unless b a y ≡ join a (unless b (nothing a.edge) y)
unless_more true a y = ap (λ n. laid n a.edge) (sym (append-nil a.notes))
unless_more false a y = refl

-- what was laid, and then the rest
pub seq_more : (a : LaidText) (f : TextSoFar → LaidText) → seq a f ≡ join a (seq (nothing a.edge) f)
unfolding seq
seq_more a f = unless_more a.edge.ended a (f a.edge)

-- nothing, where the line has not ended
pub seq_nothing : (s : TextSoFar) (f : TextSoFar → LaidText) → s.ended ≡ false → seq (nothing s) f ≡ f s
unfolding seq
seq_nothing s f e = rw e refl

pub seq_ended : (s : TextSoFar) (f : TextSoFar → LaidText) → s.ended ≡ true → seq (nothing s) f ≡ nothing s
unfolding seq
seq_ended s f e = rw e refl

assoc_last : (b : Bool) (x y : LaidText) (g : TextSoFar → LaidText) → unless b (join x y) (g y.edge) ≡ join x (unless b y (g y.edge))
assoc_last true x y g = refl
assoc_last false x y g = ap (λ n. laid n (g y.edge).edge) (append_assoc x.notes y.notes (g y.edge).notes)

seq_assoc_at : (b : Bool) (x : LaidText) (f g : TextSoFar → LaidText) → x.edge.ended ≡ b → seq (unless b x (f x.edge)) g ≡ unless b x (seq (f x.edge) g)
unfolding seq
seq_assoc_at true x f g e = rw e refl
seq_assoc_at false x f g e = assoc_last (f x.edge).edge.ended x (f x.edge) g

pub seq_assoc : (x : LaidText) (f g : TextSoFar → LaidText) → seq (seq x f) g ≡ seq x (λ s. seq (f s) g)
unfolding seq
seq_assoc x f g = seq_assoc_at x.edge.ended x f g refl

end_if : (b : Bool) (a : LaidText) → unless b a (nothing a.edge) ≡ a
end_if true a = refl
end_if false a = ap (λ n. laid n a.edge) (append-nil a.notes)

-- and then nothing more
pub seq_end : (a : LaidText) → seq a nothing ≡ a
unfolding seq
seq_end a = end_if a.edge.ended a

-- ---- messages that were given

-- some, and then the rest
pub goes_on : {P S : Type 0} (left : P → S → List Message → Type 0) (s t : S) (all given : LaidText) (e : TextSoFar) (f : TextSoFar → LaidText)
    → all ≡ join given (seq (nothing given.edge) f) → Goes left s given t (nothing e) → Goes left s all t (seq (nothing e) f)
goes_on left s t all given e f q k = grind (arith, append_assoc)

-- one after another
pub goes_then : {P S : Type 0} (left : P → S → List Message → Type 0) (s t u : S) (all next last : LaidText)
    → Goes left s all t next → Goes left t next u last → Goes left s all u last
goes_then left s t u all next last h k = ((λ plan more g. k.0 plan more (h.0 plan more g)), k.1 ∙ h.1)

-- no message
pub goes_same : {P S : Type 0} (left : P → S → List Message → Type 0) (s : S) (all next : LaidText) → all ≡ next → Goes left s all s next
goes_same left s all next e = ((λ plan more h. rw e at h), sym (ap (λ (a : LaidText). a.edge) e))

pub going : (b : Bool) → true ≡ not b → b ≡ false
going true e = let no : ⊥ = cc in absurd no
going false e = refl

pub gone : (b : Bool) → false ≡ not b → b ≡ true
gone true e = refl
gone false e = let no : ⊥ = cc in absurd no

-- ---- Texts of which the same is left behind their fronts: helpers of proofs.

-- the width of a text by that of another one, where the same is left of both
pub units_alike : (output : Output) (text known rest : List ℕ) (columns known_columns units : ℕ) → IsUtf8 rest → Left output text columns rest
    → Left output known known_columns rest → units ≡ units_of_text output known → (24 * known_columns ≤ units) × (units - 24 * known_columns + 24 * columns ≡ units_of_text output text)
units_alike output text known rest columns known_columns units utf8 l k e = grind (arith, printed-same)

-- ---- Widths of texts that are remembered: helpers of proofs.

-- behind the texts there may come more
measured_more : (texts more : List ℕ) (width : KnownWidth) → IsMeasured texts width → IsMeasured (texts ++ more) width
measured_more texts more width h = grind (arith, drop-append-le, take-append-le, length-drop, length-append)

pub all_more : (texts more : List ℕ) (widths : List KnownWidth) → AreMeasured texts widths → AreMeasured (texts ++ more) widths
all_more texts more widths h = All-weaker (IsMeasured texts) (IsMeasured (texts ++ more)) (λ f k. measured_more texts more f k) widths h

-- the text that is behind the others
pub measured_last : (texts text : List ℕ) (width : KnownWidth) → width.start ≡ length texts → width.end ≡ length texts + length text → length text ≤ LINE
    → IsUtf8 text → width.units ≤ 24000 * length text → width.units ≡ units_of_text width.output text → IsMeasured (texts ++ text) width
measured_last texts text width s e short utf8 bound h = grind (arith, drop_at, take_all, is_utf8-from_IsUtf8, length-append)

-- one more width
pub measured_push : (texts : List ℕ) (widths new : List KnownWidth) (width : KnownWidth) → AreMeasured texts widths → IsMeasured texts width
    → new ≡ widths ++ width ∷ [] → AreMeasured texts new
measured_push texts widths new width h k e = rw e (All-push (IsMeasured texts) widths width h k)
