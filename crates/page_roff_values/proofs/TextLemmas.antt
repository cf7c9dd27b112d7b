-- What is still to be laid of texts: helpers of proofs.
use Rattle.std.proofs.Common.{◌≡◌, ℕ, suc, ◌-◌, ◌<◌, Bool, true, false, ◌==◌, List, [], ◌∷◌, ◌++◌, length, map, reverse, refl, ap, arith, ◌*◌, Some, sym, ◌∙◌}
use Rattle.std.proofs.lemmas.Bool.{eqb-true}
use Rattle.std.proofs.lemmas.List.{reverse-append, take-append-drop}
use Rattle.std.specs.Borrow.{Bor}
use Rattle.page_roff_parts.specs.declared.parts.Part.{Part}
use Rattle.page_roff_parts.specs.declared.parts.Part.TheVariants.{Copied, Called}
use Rattle.page_roff_values.specs.Values.{Surroundings, TextSoFar, nothing, seq, lay, call_at, value, LaidText, join, put, inside, outside, leaves, column_of, width, units_of}
use Rattle.page_roff_parts.specs.Parts.{SeenText, seen, parts, parts_up_to}
use Rattle.page_roff_values.specs.machine.Rest.{rest, room_in, one, size, going_on, NestedSpot, nested_of, going_inside, going_outside}
use Rattle.page_roff_values.proofs.ArgumentLemmas.{seq_nothing, seq_assoc, goes_on, goes_same, goes_then, seq_more}
use Rattle.page_roff_parts.proofs.FrontLemmas.{parts_more, seen_shorter}
use Rattle.std.specs.Fmt.{decimal}
use Rattle.std.proofs.Math.Seq.{take-append_seam, drop-append_seam, take-length, drop-length}
use Rattle.std.proofs.lemmas.Str.{is_utf8-from_IsUtf8, IsUtf8-from_is_utf8}
use Rattle.std.specs.Str.{IsUtf8, is_utf8}
use Rattle.page_core_base.specs.Messages.{Message}
use Rattle.page_core_base.specs.declared.page_settings.Output.{Output}
use Rattle.page_core_numbers.specs.Columns.{columns_of}
use Rattle.page_roff_values.specs.declared.expansions.Nested.TheInside.{Inside}
use Rattle.page_roff_values.specs.laws.Views.{Goes}
use Rattle.page_roff_values.proofs.LineLemmas.{value_follows, begins}

-- nothing is left of the innermost text
pub rest_done : (env : Surroundings) (room : ℕ) (ts : List (List ℕ)) (s : TextSoFar) → s.ended ≡ false → rest env room ([] ∷ ts) s ≡ rest env room ts s
unfolding rest value parts parts_up_to lay
rest_done env room ts s e = seq_nothing s (rest env room ts) e

lay_part : (env : Surroundings) (d : ℕ) (p : Part (List ℕ)) (ps : List (Part (List ℕ))) (s : TextSoFar)
    → lay (call_at env d) (p ∷ ps) s ≡ seq (one env d p s) (lay (call_at env d) ps)
unfolding lay
lay_part env d (Copied run) ps s = refl
lay_part env d (Called call) ps s = refl

-- a part of the innermost text
pub rest_part : (env : Surroundings) (room b : ℕ) (bs : List ℕ) (ts : List (List ℕ)) (s : TextSoFar)
    → rest env room ((b ∷ bs) ∷ ts) s
    ≡ seq (one env (room_in room ((seen env.copy (b ∷ bs)).rest ∷ ts)) (seen env.copy (b ∷ bs)).part s) (rest env room ((seen env.copy (b ∷ bs)).rest ∷ ts))
unfolding rest room_in value
rest_part env room b bs ts s = grind (arith, parts_more, lay_part, seq_assoc)

pub texts_pop : (xs : List (Bor (List ℕ))) (t : Bor (List ℕ))
    → map (λ (t : Bor (List ℕ)). t.now) (reverse (xs ++ t ∷ [])) ≡ t.now ∷ map (λ (t : Bor (List ℕ)). t.now) (reverse xs)
texts_pop xs t = ap (map (λ (t : Bor (List ℕ)). t.now)) (reverse-append xs (t ∷ []))

abbrev pub outer_of : List (Bor (List ℕ)) → List (List ℕ)
outer_of xs = map (λ (t : Bor (List ℕ)). t.now) (reverse xs)

no_items : {A : Type 0} (xs : List A) → ¬ (0 < length xs) → xs ≡ []
no_items [] h = refl
no_items (x ∷ xs) h = absurd (h (omega arith))

is_nil : (xs : List ℕ) → (length xs == 0) ≡ true → xs ≡ []
is_nil [] h = refl
is_nil (x ∷ xs) h = let e : suc (length xs) ≡ 0 = eqb-true (suc (length xs)) 0 h in absurd (omega arith)

-- all texts are at their end
pub rest_none : (env : Surroundings) (room : ℕ) (text : List ℕ) (xs : List (Bor (List ℕ))) (s : TextSoFar) → s.ended ≡ false
    → (length text == 0) ≡ true → ¬ (0 < length xs) → rest env room (text ∷ outer_of xs) s ≡ nothing s
unfolding rest
rest_none env room text xs s e t o = grind (arith, is_nil, no_items, rest_done)

-- the innermost text is at its end
pub rest_pop : (env : Surroundings) (room : ℕ) (text : List ℕ) (xs ys : List (Bor (List ℕ))) (t : Bor (List ℕ)) (s : TextSoFar) → s.ended ≡ false
    → (length text == 0) ≡ true → xs ≡ ys ++ t ∷ [] → rest env room (text ∷ outer_of xs) s ≡ rest env room (t.now ∷ outer_of ys) s
rest_pop env room text xs ys t s e h k =
    rw (is_nil text h, k, texts_pop ys t) (rest_done env room (t.now ∷ outer_of ys) s e)

pub size_pop : (text : List ℕ) (xs ys : List (Bor (List ℕ))) (t : Bor (List ℕ)) → xs ≡ ys ++ t ∷ []
    → size (t.now ∷ outer_of ys) < size (text ∷ outer_of xs)
size_pop text xs ys t k = rw (k, texts_pop ys t) (omega arith)

-- the innermost text isn't
pub rest_reads : (env : Surroundings) (room : ℕ) (text : List ℕ) (x : SeenText) (ts : List (List ℕ)) (s : TextSoFar) → 0 < length text → x ≡ seen env.copy text
    → rest env room (text ∷ ts) s ≡ seq (one env (room_in room (x.rest ∷ ts)) x.part s) (rest env room (x.rest ∷ ts))
rest_reads env room [] x ts s h e = absurd (omega arith)
rest_reads env room (b ∷ bs) x ts s h e = rw e (rest_part env room b bs ts s)

pub shorter : (copy : Bool) (text : List ℕ) (x : SeenText) → 0 < length text → x ≡ seen copy text → length x.rest < length text
shorter copy [] x h e = absurd (omega arith)
shorter copy (b ∷ bs) x h e = rw e (let k = seen_shorter copy b bs in omega arith)

-- ---- Widths: helpers of proofs.

-- the code begins a text where the line is
pub inside_is : (a : Inside) (start column : ℕ) → start ≡ length a.text.items → column ≡ column_of (nested_of a).spot
    → nested_of (record a { start = start; width_column = Some column }) ≡ going_inside (nested_of a)
inside_is a start column e f = grind (arith, take-length, drop-length, take-append-drop)

outside_is : (s t : NestedSpot) → t.spot.around ≡ (inside s.spot).around → t.before ≡ s.before ++ s.spot.text
    → going_outside (length s.before) s.spot.around.width_column t ≡ record { spot = outside s.spot t.spot; before = s.before }
outside_is s t e h = grind (arith, take-append_seam, drop-append_seam)

-- the text was read, and the code goes on where the line was
goes_back : (env : Surroundings) (room : ℕ) (text : List ℕ) (s t : NestedSpot) → s.spot.ended ≡ false
    → t.spot ≡ (seq (nothing (inside s.spot)) (rest env room (text ∷ []))).edge → t.before ≡ s.before ++ s.spot.text
    → going_outside (length s.before) s.spot.around.width_column t ≡ record { spot = outside s.spot t.spot; before = s.before }
goes_back env room text s t going is kept =
    let all : t.spot ≡ (value env room text (inside s.spot)).edge = is ∙ ap (λ (a : LaidText). a.edge) (sym (begins env room text (inside s.spot) going)) in
    outside_is s t (ap (λ (a : TextSoFar). a.around) all ∙ (value_follows env room text (inside s.spot)).around) kept

pub units_known : (output : Output) (text : List ℕ) → IsUtf8 text → 24 * columns_of output text ≡ units_of output text
units_known output text h = rw (is_utf8-from_IsUtf8 text h) refl

no_true : (b : Bool) → ¬ (b ≡ true) → b ≡ false
no_true true h = absurd (h refl)
no_true false h = refl

pub units_none : (output : Output) (text : List ℕ) → ¬ (IsUtf8 text) → 0 ≡ units_of output text
units_none output text h = rw (no_true (is_utf8 text) (λ e. h (IsUtf8-from_is_utf8 text e))) refl

-- the messages of the text came, and the line goes on with the width
width_goes : {P S : Type 0} (left : P → S → List Message → Type 0) (o p : S) (measure : List ℕ → ℕ) (f : TextSoFar → LaidText) (s t u : TextSoFar) (units : ℕ)
    → Goes left o (f (inside s)) p (nothing t) → u ≡ outside s t → units ≡ measure t.text
    → Goes left o (width measure f s) p (seq (nothing u) (put (decimal units)))
unfolding width
width_goes left o p measure f s t u units k e h =
    let a = f (inside s) in
    let n : units ≡ measure a.edge.text = h ∙ ap (λ (x : TextSoFar). measure x.text) k.1 in
    goes_on left o p (seq (leaves s a) (put (decimal (measure a.edge.text)))) (leaves s a) u (put (decimal units))
    (seq_more (leaves s a) (put (decimal (measure a.edge.text))) ∙ ap (λ (m : ℕ). join (leaves s a) (seq (nothing (leaves s a).edge) (put (decimal m)))) (sym n))
    (k.0, e ∙ ap (outside s) k.1)

-- the same of a text that was read alone, and of the line after it
pub width_read : {P S : Type 0} (left : P → S → List Message → Type 0) (o p : S) (measure : List ℕ → ℕ) (env : Surroundings) (room : ℕ) (text : List ℕ) (s t u : NestedSpot) (units : ℕ)
    → s.spot.ended ≡ false → Goes left o (going_on env room (text ∷ []) (inside s.spot)) p (nothing t.spot) → t.before ≡ s.before ++ s.spot.text
    → u ≡ going_outside (length s.before) s.spot.around.width_column t → units ≡ measure t.spot.text
    → Goes left o (width measure (value env room text) s.spot) p (seq (nothing u.spot) (put (decimal units))) × (u.before ≡ s.before)
width_read left o p measure env room text s t u units going ran kept is e =
    let back = is ∙ goes_back env room text s t going ran.1 kept in (
      width_goes left o p measure (value env room text) s.spot t.spot u.spot units
          (goes_then left o o p (value env room text (inside s.spot)) (going_on env room (text ∷ []) (inside s.spot)) (nothing t.spot)
          (goes_same left o _ _ (begins env room text (inside s.spot) going)) ran) (ap (λ (a : NestedSpot). a.spot) back) e,
      ap (λ (a : NestedSpot). a.before) back,
    )
