-- How spans and text follow the entries.
use Rattle.std.proofs.Common.{◌≡◌, ℕ, zero, suc, ◌+◌, ◌*◌, ◌<◌, ◌≤◌, List, [], ◌∷◌, ◌++◌, length, take, drop, get_or, set, subst, refl, sym, ap, ◌∙◌, arith, length-append, take-append-drop, ◌≢◌, ◌&&◌, Bool, true, false, cond, not, T, Some, None, ◌⊎◌, inl, inr}
use Rattle.std.proofs.lemmas.List.{take_all, drop_at, drop-drop, drop-set-lt, length-drop, length-map, length-take-le, take-append-le, take_more_set, drop-append-le, get_or-drop, map-append, map_more, map_push, take-map, drop-map, get_or-map}
use Rattle.std.proofs.lemmas.List.Elements.{All-head, All-tail, All-cons, All-append, All-push, All-take, All-drop, All-get_or, All-weaker}
use Rattle.std.specs.List.{All, insert, remove}
use Rattle.page_core_base.specs.declared.limits.TheConstants.{DEFS, NAMES}
use Rattle.page_roff_names.specs.declared.rows.EntryKind.TheVariants.{String}
use Rattle.page_roff_names.specs.declared.rows.Part.{Part}
use Rattle.page_roff_names.specs.declared.rows.Span.{Span}
use Rattle.page_roff_names.specs.Names.{Entries, Definition, definition, size, by_bytes, look, put, without}
use Rattle.page_roff_names.specs.laws.Views.{entry_at, name_at, value_at, definition_at}
use Rattle.page_roff_names.specs.machine.Changes.{slice, entry, cut, EndsBy, IsWithin, IsLaid, IsBelow, IsAbove, PlaceWithout}
use Rattle.std.proofs.Math.Nat.{eq-or-lt_of_le}
use Rattle.std.specs.declared.cmp.Ordering.{Ordering}
use Rattle.std.specs.declared.cmp.Ordering.TheVariants.{Less, Equal, Greater}
use Rattle.std.specs.Ordering.{is_lt, is_eq, ordering_reverse}
use Rattle.std.specs.FinMap.{is_sorted, slice_cmp-IsAntisymmetric, nat_cmp-IsAntisymmetric}
use Rattle.std.specs.FinMap.Entries.{below_all, by_order, is_sorted-where_key}
use Rattle.std.proofs.lemmas.Bool.{cases_lt}
use Rattle.std.proofs.lemmas.Cmp.{nat_list_cmp_total}
use Rattle.std.proofs.lemmas.List.Edits.{length-remove, get_or-remove_below, get_or-remove_above}

-- ---- Parts of a text

pub length-slice : (p : Part) (t : List ℕ) → EndsBy (length t) p → length (slice t p) ≡ p.len
length-slice p t h = let d = length-drop p.start t in length-take-le p.len (drop p.start t) (omega (arith, h, d))

pub slice-append : (p : Part) (t more : List ℕ) → EndsBy (length t) p → slice (t ++ more) p ≡ slice t p
slice-append p t more h =
    let d = length-drop p.start t in
    ap (take p.len) (drop-append-le p.start t more (omega (arith, h)))
    ∙ take-append-le p.len (drop p.start t) more (omega (arith, h, d))

pub slice_at_end : (t bytes : List ℕ) → take (length bytes) (drop (length t) (t ++ bytes)) ≡ bytes
slice_at_end t bytes = ap (take (length bytes)) (drop_at t bytes (length t) refl) ∙ take_all (length bytes) bytes (omega arith)

-- ---- Spans of a text

entry-append : (s : Span) (t more : List ℕ) → IsWithin (length t) s → entry (t ++ more) s ≡ entry t s
entry-append s t more w =
    ap (λ n. (n, definition s.meaning (slice (t ++ more) s.value))) (slice-append s.name t more w.0)
    ∙ ap (λ v. (slice t s.name, definition s.meaning v)) (slice-append s.value t more w.1)

pub cut-append : (ss : List Span) (t more : List ℕ) → All (IsWithin (length t)) ss → cut ss (t ++ more) ≡ cut ss t
cut-append [] t more h = refl
cut-append (s ∷ ss) t more h =
    ap (λ e. e ∷ cut ss (t ++ more)) (entry-append s t more (All-head (IsWithin (length t)) s ss h))
    ∙ ap (λ es. entry t s ∷ es) (cut-append ss t more (All-tail (IsWithin (length t)) s ss h))

pub within-append : (ss : List Span) (t more : List ℕ) → All (IsWithin (length t)) ss → All (IsWithin (length (t ++ more))) ss
within-append ss t more h =
    let l = length-append t more in
    All-weaker (IsWithin (length t)) (IsWithin (length (t ++ more))) (λ s w. (omega (arith, w.0, l), omega (arith, w.1, l))) ss h

pub cut-insert : (t : List ℕ) (ss : List Span) (i : ℕ) (s : Span) → cut (insert ss i s) t ≡ insert (cut ss t) i (entry t s)
cut-insert t ss i s =
    map-append (entry t) (take i ss) (s ∷ drop i ss)
    ∙ ap (λ es. es ++ entry t s ∷ cut (drop i ss) t) (sym (take-map (entry t) i ss))
    ∙ ap (λ es. take i (cut ss t) ++ entry t s ∷ es) (sym (drop-map (entry t) i ss))

pub cut-remove : (t : List ℕ) (ss : List Span) (i : ℕ) → cut (remove ss i) t ≡ remove (cut ss t) i
cut-remove t ss i =
    map-append (entry t) (take i ss) (drop (suc i) ss)
    ∙ ap (λ es. es ++ cut (drop (suc i) ss) t) (sym (take-map (entry t) i ss))
    ∙ ap (λ es. take i (cut ss t) ++ es) (sym (drop-map (entry t) (suc i) ss))

pub set_is : {X : Type 0} (xs : List X) (i : ℕ) (x : X) → i < length xs → set xs i x ≡ insert (remove xs i) i x
set_is [] i x l = absurd (omega arith)
set_is (y ∷ ys) zero x l = refl
set_is (y ∷ ys) (suc i) x l = ap (λ ys. y ∷ ys) (set_is ys i x (omega arith))

-- the spans and the text of these entries
pub record Lies (ss : List Span) (t : List ℕ) (es : Entries) : Type 0 where
  pub within : All (IsWithin (length t)) ss
  pub is : cut ss t ≡ es

pub lies : {ss : List Span} {t : List ℕ} {es : Entries} → All (IsWithin (length t)) ss → cut ss t ≡ es → Lies ss t es
lies h e = record { within = h; is = e }

pub appended : {ss : List Span} {t all : List ℕ} {es : Entries} (more : List ℕ) → Lies ss t es → all ≡ t ++ more → Lies ss all es
appended {ss} {t} {all} {es} more h e =
    subst (λ all. Lies ss all es) (sym e) record { within = within-append ss t more h.within; is = cut-append ss t more h.within ∙ h.is }

pub inserted : {ss new : List Span} {t : List ℕ} {es : Entries} (i : ℕ) (s : Span) {e : List ℕ × Definition} → Lies ss t es → IsWithin (length t) s → entry t s ≡ e → new ≡ insert ss i s → Lies new t (insert es i e)
inserted {ss} {new} {t} {es} i s {e} h w is n =
    let P = IsWithin (length t) in
    subst (λ ss. Lies ss t (insert es i e)) (sym n) record {
      within = All-append P (take i ss) (s ∷ drop i ss) (All-take P i ss h.within) (All-cons P s (drop i ss) w (All-drop P i ss h.within));
      is = cut-insert t ss i s ∙ ap (λ es. insert es i (entry t s)) h.is ∙ ap (insert es i) is;
    }

pub removed : {ss new : List Span} {t : List ℕ} {es : Entries} (i : ℕ) → Lies ss t es → new ≡ remove ss i → Lies new t (remove es i)
removed {ss} {new} {t} {es} i h n =
    let P = IsWithin (length t) in
    subst (λ ss. Lies ss t (remove es i)) (sym n) record {
      within = All-append P (take i ss) (drop (suc i) ss) (All-take P i ss h.within) (All-drop P (suc i) ss h.within);
      is = cut-remove t ss i ∙ ap (λ es. remove es i) h.is;
    }

pub count : {ss : List Span} {t : List ℕ} {es : Entries} → Lies ss t es → length ss ≡ length es
count {ss} {t} h = sym (length-map ss (entry t)) ∙ ap length h.is

pub replaced : {ss new : List Span} {t : List ℕ} {es : Entries} (i : ℕ) (s : Span) {e : List ℕ × Definition} → Lies ss t es → i < length es → IsWithin (length t) s → entry t s ≡ e → new ≡ set ss i s → Lies new t (insert (remove es i) i e)
replaced {ss} i s h l w is n = let c = count h in inserted i s (removed i h refl) w is (n ∙ set_is ss i s (omega (arith, l, c)))

-- what the span of the i-th entry says
pub record Reads (t : List ℕ) (es : Entries) (i : ℕ) (s : Span) : Type 0 where
  pub is : entry t s ≡ entry_at es i
  pub name : s.name.len ≡ length (name_at es i)
  pub value : s.value.len ≡ length (value_at es i)
  pub within : IsWithin (length t) s

pub reads : {ss : List Span} {t : List ℕ} {es : Entries} (i : ℕ) (s : Span) → Lies ss t es → i < length es → s ≡ get_or ss i s → Reads t es i s
reads {ss} {t} {es} i s h l r =
    let c = count h in
    let w : IsWithin (length t) s = subst (IsWithin (length t)) (sym r) (All-get_or (IsWithin (length t)) ss i s (omega (arith, l, c)) h.within) in
    let is : entry t s ≡ entry_at es i = ap (entry t) r ∙ sym (get_or-map (entry t) ss i s ([], definition String []) (omega (arith, l, c))) ∙ ap (λ es. entry_at es i) h.is in
    record {
      is = is;
      name = sym (length-slice s.name t w.0) ∙ ap (λ e. length e.0) is;
      value = sym (length-slice s.value t w.1) ∙ ap (λ e. length e.1.value) is;
      within = w;
    }

-- ---- The row

pub closed : {ss : List Span} {t : List ℕ} {es : Entries} {n a b c : ℕ} → Lies ss t es → n ≡ size es → length es ≤ NAMES → size es ≤ DEFS
    → NAMES ≤ a → 2 * DEFS ≤ b → DEFS ≤ c → IsLaid ss t n a b c
closed h n few small a b c = record {
  within = h.within;
  bytes = n ∙ ap size (sym h.is);
  few = let l = count h in omega (arith, l, few);
  small = omega (arith, n, small);
  names_fit = a;
  bytes_fit = b;
  spare_fit = c;
}

-- ---- Sizes

pub size-append : (a b : Entries) → size (a ++ b) ≡ size a + size b
size-append [] b = omega arith
size-append (e ∷ a) b = let h = size-append a b in omega (arith, h)

pub size-insert : (m : Entries) (i : ℕ) (e : List ℕ × Definition) → size (insert m i e) ≡ size m + (length e.0 + length e.1.value)
size-insert m i e =
    let h = sym (size-append (take i m) (drop i m)) ∙ ap size (take-append-drop i m) in
    let g = size-append (take i m) (e ∷ drop i m) in
    omega (arith, h, g)

pub size-remove : (m : Entries) (i : ℕ) → i < length m → size (remove m i) + (length (name_at m i) + length (value_at m i)) ≡ size m
size-remove [] i l = absurd (omega arith)
size-remove (e ∷ m) zero l = omega arith
size-remove (e ∷ m) (suc i) l = let h = size-remove m i (omega arith) in omega (arith, h)

-- ---- A copy of the spans from one text to the end of another

-- the first i are copied
abbrev pub Copied : List Span → List Span → List ℕ → List ℕ → ℕ → Type 0
Copied old ss from to i =
    (drop i ss ≡ drop i old)
    × (cut (take i ss) to ≡ cut (take i old) from)
    × All (IsWithin (length to)) (take i ss)
    × (length to ≡ size (cut (take i old) from))

same_at : {X : Type 0} (xs ys : List X) (i : ℕ) (d : X) → drop i xs ≡ drop i ys → get_or xs i d ≡ get_or ys i d
same_at xs ys i d e =
    let z : i + 0 ≡ i = omega arith in
    ap (λ j. get_or xs j d) (sym z) ∙ sym (get_or-drop i xs 0 d) ∙ ap (λ l. get_or l 0 d) e ∙ get_or-drop i ys 0 d ∙ ap (λ j. get_or ys j d) z

pub within_at : (old ss : List Span) (n i : ℕ) (d : Span) → All (IsWithin n) old → i < length old → drop i ss ≡ drop i old → IsWithin n (get_or ss i d)
within_at old ss n i d h l e = subst (IsWithin n) (sym (same_at ss old i d e)) (All-get_or (IsWithin n) old i d l h)

size_more : (old : List Span) (from : List ℕ) (i : ℕ) (d : Span) → i < length old
    → size (cut (take (i + 1) old) from) ≡ size (cut (take i old) from) + (length (entry from (get_or old i d)).0 + length (entry from (get_or old i d)).1.value)
size_more old from i d l =
    let e = entry from (get_or old i d) in
    let h = size-append (cut (take i old) from) (e ∷ []) in
    let g = ap size (map_more (entry from) old i d l) in
    omega (arith, h, g)

-- the i-th has room where all have
pub room_left : (old ss : List Span) (from : List ℕ) (i : ℕ) (d : Span) → i < length old → drop i ss ≡ drop i old
    → size (cut (take i old) from) + (length (entry from (get_or ss i d)).0 + length (entry from (get_or ss i d)).1.value) ≤ size (cut old from)
room_left old ss from i d l e =
    let s = ap (λ s. length (entry from s).0 + length (entry from s).1.value) (same_at ss old i d e) in
    let m = size_more old from i d l in
    let a = sym (size-append (cut (take (i + 1) old) from) (cut (drop (i + 1) old) from)) ∙ ap size (sym (map-append (entry from) (take (i + 1) old) (drop (i + 1) old)) ∙ ap (λ ss. cut ss from) (take-append-drop (i + 1) old)) in
    omega (arith, s, m, a)

pub copied_more : (old ss : List Span) (from to all more : List ℕ) (i : ℕ) (d new : Span) → i < length old → i < length ss → Copied old ss from to i
    → entry all new ≡ entry from (get_or ss i d) → IsWithin (length all) new → all ≡ to ++ more → length more ≡ length (entry from (get_or ss i d)).0 + length (entry from (get_or ss i d)).1.value
    → Copied old (set ss i new) from all (i + 1)
copied_more old ss from to all more i d new l k v e w is n =
    let same = same_at ss old i d v.0 in
    let P = IsWithin (length all) in
    let t = take_more_set ss i new k in
    let within : All P (take i ss) = subst (λ all. All (IsWithin (length all)) (take i ss)) (sym is) (within-append (take i ss) to more v.2) in
    let s = ap (λ s. length (entry from s).0 + length (entry from s).1.value) same in
    let m = size_more old from i d l in
    let a = ap length is ∙ length-append to more in (
      drop-set-lt (i + 1) ss i new (omega arith) ∙ sym (drop-drop 1 i ss) ∙ ap (drop 1) v.0 ∙ drop-drop 1 i old,
      ap (λ ss. cut ss all) t
          ∙ map_push (entry all) (take i ss) new
          ∙ ap (λ es. es ++ entry all new ∷ []) (ap (cut (take i ss)) is ∙ cut-append (take i ss) to more v.2 ∙ v.1)
          ∙ ap (λ x. cut (take i old) from ++ x ∷ []) (e ∙ ap (entry from) same)
          ∙ sym (map_more (entry from) old i d l),
      subst (All P) (sym t) (All-push P (take i ss) new within w),
      omega (arith, a, n, s, m, v.3),
    )

-- ---- What a search of sorted entries finds.

and_left : (a b : Bool) → T (a && b) → T a
and_left true b p = tt
and_left false b p = p

and_right : (a b : Bool) → T (a && b) → T b
and_right true b p = p
and_right false b p = absurd p

less : (o : Ordering) → T (is_lt o) → o ≡ Less
less Less p = refl
less _ p = absurd p

below_at : (x : List ℕ) (es : Entries) (k : ℕ) → T (below_all by_bytes x es) → k < length es → by_bytes x (name_at es k) ≡ Less
below_at x [] k h l = absurd (omega arith)
below_at x (e ∷ es) zero h l = less _ (and_left _ _ h)
below_at x (e ∷ es) (suc k) h l = below_at x es k (and_right _ _ h) (omega arith)

pub sorted_at : (es : Entries) (i j : ℕ) → T (is_sorted by_bytes es) → i < j → j < length es → by_bytes (name_at es i) (name_at es j) ≡ Less
sorted_at [] i j h a b = absurd (omega arith)
sorted_at (e ∷ es) i zero h a b = absurd (omega arith)
sorted_at (e ∷ es) zero (suc j) h a b = below_at e.0 es j (and_left _ _ h) (omega arith)
sorted_at (e ∷ es) (suc i) (suc j) h a b = sorted_at es i j (and_right _ _ h) (omega arith) (omega arith)

pub above_from : (n : List ℕ) (es : Entries) (i : ℕ) → T (is_sorted by_bytes es) → by_bytes n (name_at es i) ≡ Less → IsAbove n i es
above_from n es i h e k a b = by (eq-or-lt_of_le a)
  where
    by : (i ≡ k) ⊎ (i < k) → by_bytes n (name_at es k) ≡ Less
    by (inl z) = ap (λ j. by_bytes n (name_at es j)) (sym z) ∙ e
    by (inr z) = nat_list_cmp_total.trans n (name_at es i) (name_at es k) e (sorted_at es i k h z b)

pub below_to : (n : List ℕ) (es : Entries) (i : ℕ) → T (is_sorted by_bytes es) → i < length es → by_bytes n (name_at es i) ≡ Greater → IsBelow n (i + 1) es
below_to n es i h l e k a = by (eq-or-lt_of_le (omega arith))
  where
    by : (k ≡ i) ⊎ (k < i) → by_bytes n (name_at es k) ≡ Greater
    by (inl z) = ap (λ j. by_bytes n (name_at es j)) z ∙ e
    by (inr z) = nat_list_cmp_total.antisymm n (name_at es k) ∙ ap ordering_reverse (nat_list_cmp_total.trans (name_at es k) (name_at es i) n (sorted_at es k i h z l) (nat_list_cmp_total.antisymm (name_at es i) n ∙ ap ordering_reverse e))

-- a name that ties with a later one
greater_before : (n x y : List ℕ) → by_bytes n y ≡ Equal → by_bytes x y ≡ Less → by_bytes n x ≡ Greater
greater_before n x y e l = nat_list_cmp_total.congr n y x e ∙ nat_list_cmp_total.antisymm y x ∙ ap ordering_reverse l

pub same_name : (n : List ℕ) (es : Entries) (i : ℕ) → by_bytes n (name_at es i) ≡ Equal → n ≡ name_at es i
same_name n es i e = slice_cmp-IsAntisymmetric nat_cmp-IsAntisymmetric n (name_at es i) e

pub look_hit : (n : List ℕ) (es : Entries) (i : ℕ) → T (is_sorted by_bytes es) → i < length es → by_bytes n (name_at es i) ≡ Equal → look n es ≡ Some (definition_at es i)
look_hit n [] i h l e = absurd (omega arith)
look_hit n (x ∷ es) zero h l e = ap (λ r. cond (is_eq r) (Some x.1) (look n es)) e
look_hit n (x ∷ es) (suc i) h l e =
    ap (λ r. cond (is_eq r) (Some x.1) (look n es)) (greater_before n x.0 (name_at es i) e (below_at x.0 es i (and_left _ _ h) (omega arith)))
    ∙ look_hit n es i (and_right _ _ h) (omega arith) e

pub put_hit : (n : List ℕ) (v : Definition) (es : Entries) (i : ℕ) → T (is_sorted by_bytes es) → i < length es → by_bytes n (name_at es i) ≡ Equal → put n v es ≡ insert (remove es i) i (n, v)
put_hit n v [] i h l e = absurd (omega arith)
put_hit n v (x ∷ es) zero h l e =
    ap (λ r. by_order r ((n, v) ∷ x ∷ es) ((x.0, v) ∷ es) (x ∷ put n v es)) e
    ∙ ap (λ k. (k, v) ∷ es) (sym (same_name n (x ∷ es) 0 e))
put_hit n v (x ∷ es) (suc i) h l e =
    ap (λ r. by_order r ((n, v) ∷ x ∷ es) ((x.0, v) ∷ es) (x ∷ put n v es)) (greater_before n x.0 (name_at es i) e (below_at x.0 es i (and_left _ _ h) (omega arith)))
    ∙ ap (λ es. x ∷ es) (put_hit n v es i (and_right _ _ h) (omega arith) e)

without_step : (n : List ℕ) (x : List ℕ × Definition) (es : Entries) (r : Ordering) → by_bytes n x.0 ≡ r → without n (x ∷ es) ≡ cond (not (is_eq r)) (x ∷ without n es) (without n es)
without_step n x es r e = ap (λ r. cond (not (is_eq r)) (x ∷ without n es) (without n es)) e

-- what is above a name that ties stays
without_above : (n x : List ℕ) (es : Entries) → by_bytes n x ≡ Equal → T (below_all by_bytes x es) → without n es ≡ es
without_above n x [] e h = refl
without_above n x (y ∷ es) e h =
    without_step n y es Less (nat_list_cmp_total.congr n x y.0 e ∙ less _ (and_left _ _ h))
    ∙ ap (λ es. y ∷ es) (without_above n x es e (and_right _ _ h))

pub without_hit : (n : List ℕ) (es : Entries) (i : ℕ) → T (is_sorted by_bytes es) → i < length es → by_bytes n (name_at es i) ≡ Equal → without n es ≡ remove es i
without_hit n [] i h l e = absurd (omega arith)
without_hit n (x ∷ es) zero h l e = without_step n x es Equal e ∙ without_above n x.0 es e (and_left _ _ h)
without_hit n (x ∷ es) (suc i) h l e =
    without_step n x es Greater (greater_before n x.0 (name_at es i) e (below_at x.0 es i (and_left _ _ h) (omega arith)))
    ∙ ap (λ es. x ∷ es) (without_hit n es i (and_right _ _ h) (omega arith) e)

above_rest : (n : List ℕ) (x : List ℕ × Definition) (es : Entries) → IsAbove n 0 (x ∷ es) → IsAbove n 0 es
above_rest n x es a k p q = a (suc k) (omega arith) (omega arith)

above_later : (n : List ℕ) (x : List ℕ × Definition) (es : Entries) (i : ℕ) → IsAbove n (suc i) (x ∷ es) → IsAbove n i es
above_later n x es i a k p q = a (suc k) (omega arith) (omega arith)

below_later : (n : List ℕ) (x : List ℕ × Definition) (es : Entries) (i : ℕ) → IsBelow n (suc i) (x ∷ es) → IsBelow n i es
below_later n x es i b k p = b (suc k) (omega arith)

pub look_miss : (n : List ℕ) (es : Entries) (i : ℕ) → IsBelow n i es → IsAbove n i es → look n es ≡ None
look_miss n [] i b a = refl
look_miss n (x ∷ es) zero b a = ap (λ r. cond (is_eq r) (Some x.1) (look n es)) (a 0 (omega arith) (omega arith)) ∙ look_miss n es 0 (λ k p. absurd (omega arith)) (above_rest n x es a)
look_miss n (x ∷ es) (suc i) b a = ap (λ r. cond (is_eq r) (Some x.1) (look n es)) (b 0 (omega arith)) ∙ look_miss n es i (below_later n x es i b) (above_later n x es i a)

pub without_miss : (n : List ℕ) (es : Entries) (i : ℕ) → IsBelow n i es → IsAbove n i es → without n es ≡ es
without_miss n [] i b a = refl
without_miss n (x ∷ es) zero b a = without_step n x es Less (a 0 (omega arith) (omega arith)) ∙ ap (λ es. x ∷ es) (without_miss n es 0 (λ k p. absurd (omega arith)) (above_rest n x es a))
without_miss n (x ∷ es) (suc i) b a = without_step n x es Greater (b 0 (omega arith)) ∙ ap (λ es. x ∷ es) (without_miss n es i (below_later n x es i b) (above_later n x es i a))

pub put_miss : (n : List ℕ) (v : Definition) (es : Entries) (i : ℕ) → i ≤ length es → IsBelow n i es → IsAbove n i es → put n v es ≡ insert es i (n, v)
put_miss n v [] zero l b a = refl
put_miss n v [] (suc i) l b a = absurd (omega arith)
put_miss n v (x ∷ es) zero l b a = ap (λ r. by_order r ((n, v) ∷ x ∷ es) ((x.0, v) ∷ es) (x ∷ put n v es)) (a 0 (omega arith) (omega arith))
put_miss n v (x ∷ es) (suc i) l b a = ap (λ r. by_order r ((n, v) ∷ x ∷ es) ((x.0, v) ∷ es) (x ∷ put n v es)) (b 0 (omega arith)) ∙ ap (λ es. x ∷ es) (put_miss n v es i (omega arith) (below_later n x es i b) (above_later n x es i a))

reversed : (r : Ordering) → r ≡ ordering_reverse r → r ≡ Equal
reversed Less e = Prim.cc
reversed Equal e = refl
reversed Greater e = Prim.cc

pub sorted_remove : (es : Entries) (i : ℕ) → T (is_sorted by_bytes es) → i < length es → T (is_sorted by_bytes (remove es i))
sorted_remove es i h l =
    let n = name_at es i in
    subst (λ es. T (is_sorted by_bytes es)) (without_hit n es i h l (reversed _ (nat_list_cmp_total.antisymm n n))) (is_sorted-where_key by_bytes _ es h)

-- ---- The entries without the i-th

abbrev none : List ℕ × Definition
none = ([], definition String [])

pub entry_left : (es : Entries) (i p b : ℕ) → p ≢ i → i < length es → p < length es → PlaceWithout p i b → (b < length (remove es i)) × (entry_at (remove es i) b ≡ entry_at es p)
entry_left es i p b n l k (inl h) =
    let r = length-remove es i l in
    (omega (arith, r, h.0, h.1, k), get_or-remove_above es i none b (omega (arith, h.0, h.1)) l ∙ ap (entry_at es) h.1)
entry_left es i p b n l k (inr h) =
    let r = length-remove es i l in
    let below : b < i = before (eq-or-lt_of_le h.0) in
    (omega (arith, r, below, l), get_or-remove_below es i none b below l ∙ ap (entry_at es) h.1)
  where
    before : (p ≡ i) ⊎ (p < i) → b < i
    before (inl e) = absurd (n e)
    before (inr e) = omega (arith, e, h.1)

pub missing_left : (n : List ℕ) (es : Entries) (i p b : ℕ) → i < length es → IsBelow n p es → IsAbove n p es → PlaceWithout p i b → IsBelow n b (remove es i) × IsAbove n b (remove es i)
missing_left n es i p b l below above w = (λ k q. lower k q w (before_or_after k), λ k q r. upper k q r w (before_or_after k))
  where
    before_or_after : (k : ℕ) → (k < i) ⊎ (i ≤ k)
    before_or_after k = cases_lt k i

    at_below : (k : ℕ) → k < i → by_bytes n (name_at (remove es i) k) ≡ by_bytes n (name_at es k)
    at_below k q = ap (λ e. by_bytes n e.0) (get_or-remove_below es i none k q l)

    at_above : (k : ℕ) → i ≤ k → by_bytes n (name_at (remove es i) k) ≡ by_bytes n (name_at es (k + 1))
    at_above k q = ap (λ e. by_bytes n e.0) (get_or-remove_above es i none k q l)

    lower : (k : ℕ) → k < b → PlaceWithout p i b → (k < i) ⊎ (i ≤ k) → by_bytes n (name_at (remove es i) k) ≡ Greater
    lower k q (inl h) (inl s) = at_below k s ∙ below k (omega (arith, q, h.1))
    lower k q (inl h) (inr s) = at_above k s ∙ below (k + 1) (omega (arith, q, h.1))
    lower k q (inr h) (inl s) = at_below k s ∙ below k (omega (arith, q, h.1))
    lower k q (inr h) (inr s) = absurd (omega (arith, q, h.0, h.1, s))

    upper : (k : ℕ) → b ≤ k → k < length (remove es i) → PlaceWithout p i b → (k < i) ⊎ (i ≤ k) → by_bytes n (name_at (remove es i) k) ≡ Less
    upper k q r (inl h) (inl s) = absurd (omega (arith, q, h.0, h.1, s))
    upper k q r (inl h) (inr s) = let t = length-remove es i l in at_above k s ∙ above (k + 1) (omega (arith, q, h.1)) (omega (arith, r, t))
    upper k q r (inr h) (inl s) = at_below k s ∙ above k (omega (arith, q, h.1)) (omega (arith, s, l))
    upper k q r (inr h) (inr s) = let t = length-remove es i l in at_above k s ∙ above (k + 1) (omega (arith, s, h.0)) (omega (arith, r, t))

pub missing_itself : (n : List ℕ) (es : Entries) (i : ℕ) → T (is_sorted by_bytes es) → i < length es → by_bytes n (name_at es i) ≡ Equal → IsBelow n i (remove es i) × IsAbove n i (remove es i)
missing_itself n es i h l e = (
  λ k q. ap (λ x. by_bytes n x.0) (get_or-remove_below es i none k q l) ∙ greater_before n (name_at es k) (name_at es i) e (sorted_at es k i h q l),
  λ k q r. let t = length-remove es i l in
      ap (λ x. by_bytes n x.0) (get_or-remove_above es i none k q l)
      ∙ nat_list_cmp_total.congr n (name_at es i) (name_at es (k + 1)) e
      ∙ sorted_at es i (k + 1) h (omega (arith, q)) (omega (arith, r, t)),
)

remove_earlier : (es : Entries) (i k : ℕ) → i ≤ k → suc k < length es → remove (remove es (suc k)) i ≡ remove (remove es i) k
remove_earlier [] i k h l = absurd (omega arith)
remove_earlier (e ∷ es) zero k h l = refl
remove_earlier (e ∷ es) (suc i) zero h l = absurd (omega arith)
remove_earlier (e ∷ es) (suc i) (suc k) h l = ap (λ es. e ∷ es) (remove_earlier es i k (omega arith) (omega arith))

pub remove_both : (es : Entries) (i p a b : ℕ) → p ≢ i → i < length es → p < length es → PlaceWithout i p a → PlaceWithout p i b → remove (remove es p) a ≡ remove (remove es i) b
remove_both es i p a b n l k (inl v) (inl w) = absurd (omega (arith, v.0, w.0))
remove_both es i p a b n l k (inl v) (inr w) =
    let e : i ≡ suc a = omega (arith, v.1) in
    sym (remove_earlier es p a (omega (arith, v.0, v.1)) (omega (arith, v.1, l))) ∙ ap (remove (remove es (suc a))) (sym w.1) ∙ ap (λ i. remove (remove es i) b) (sym e)
remove_both es i p a b n l k (inr v) (inl w) =
    let e : p ≡ suc b = omega (arith, w.1) in
    ap (λ p. remove (remove es p) a) e ∙ ap (remove (remove es (suc b))) v.1 ∙ remove_earlier es i b (omega (arith, w.0, w.1)) (omega (arith, w.1, k))
remove_both es i p a b n l k (inr v) (inr w) = absurd (n (omega (arith, v.0, w.0)))
