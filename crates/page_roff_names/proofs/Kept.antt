-- Which limit refuses a definition.
use Rattle.std.proofs.Common.{◌≡◌, ℕ, ◌≤◌, Bool, true, false, cond, Some, None, refl, ap, ◌∙◌, ◌≢◌, zero, suc, ◌+◌, ◌-◌, ◌<◌, not, List, [], ◌∷◌, ◌++◌, length, unwrap_or, T, MatchOption, ◌⊎◌, inl, inr, subst, sym, add_comm, arith}
use Rattle.std.specs.Prelude.{nat_lt}
use Rattle.std.proofs.lemmas.Bool.{ltb-false, le-ltb, cases_lt}
use Rattle.page_core_base.specs.declared.limits.TheConstants.{BODY, DEFS, NAME, NAMES}
use Rattle.page_core_base.specs.declared.limits.Limit.TheVariants.{Name, Names, Body, Defs}
use Rattle.page_roff_names.specs.Names.{first_passed, Entries, Definition, definition, size, Definitions, definitions, with_text, by_bytes, look, put, without}
use Rattle.std.specs.declared.cmp.Ordering.{Ordering}
use Rattle.std.specs.declared.cmp.Ordering.TheVariants.{Less, Equal, Greater}
use Rattle.std.specs.Ordering.{is_eq}
use Rattle.std.specs.declared.option.Option.{Option}
use Rattle.std.specs.declared.result.Result.{Result}
use Rattle.std.specs.declared.result.Result.TheVariants.{Ok, Err}
use Rattle.std.specs.FinMap.{is_sorted}
use Rattle.std.specs.FinMap.Entries.{by_order, is_sorted-put, is_sorted-where_key}
use Rattle.std.specs.List.{insert, remove}
use Rattle.std.proofs.lemmas.Cmp.{nat_list_cmp_total}
use Rattle.page_core_base.specs.declared.limits.Limit.{Limit}
use Rattle.page_roff_names.specs.declared.changes.OtherSet.{OtherSet}
use Rattle.page_roff_names.specs.declared.rows.EntryKind.{EntryKind}
use Rattle.page_roff_names.specs.laws.Views.{EntryFits, EntriesFit, DefinitionsFit, name_at, definition_at, value_at, Defines}
use Rattle.page_roff_names.specs.machine.Changes.{refusal_beside, Settles, RenamesBeside, IsKept, IsStore, IsBelow, IsAbove, PlaceWithout}
use Rattle.std.proofs.lemmas.List.Edits.{length-remove, length-insert}
use Rattle.page_roff_names.proofs.Laid.{size-remove, size-insert, same_name, look_hit, put_hit, without_hit, look_miss, put_miss, sorted_remove, entry_left, remove_both}

pub same_limits : (a : ℕ) {b c v w y z : ℕ} → b ≡ c → v ≡ w → y ≡ z → first_passed a b v y ≡ first_passed a c w z
same_limits a {b} {c} {v} {w} {y} {z} e f g = ap (λ b. first_passed a b v y) e ∙ ap (λ v. first_passed a c v y) f ∙ ap (first_passed a c w) g

within_by : (a b c d : Bool) → cond a (Some Name) (cond b (Some Names) (cond c (Some Body) (cond d (Some Defs) None))) ≡ None
    → (a ≡ false) × (b ≡ false) × (c ≡ false) × (d ≡ false)
within_by true b c d e = Prim.cc
within_by false true c d e = Prim.cc
within_by false false true d e = Prim.cc
within_by false false false true e = Prim.cc
within_by false false false false e = (refl, refl, refl, refl)

-- a definition that is not refused is within each limit
pub record IsWithin (name names value bytes : ℕ) : Type 0 where
  pub name_fits : name ≤ NAME
  pub names_fit : names ≤ NAMES
  pub value_fits : value ≤ BODY
  pub bytes_fit : bytes ≤ DEFS

pub within : (name names value bytes : ℕ) → first_passed name names value bytes ≡ None → IsWithin name names value bytes
unfolding first_passed
within a b v z e =
    let h = within_by (nat_lt NAME a) (nat_lt NAMES b) (nat_lt BODY v) (nat_lt DEFS z) e in
    record { name_fits = ltb-false _ _ h.0; names_fit = ltb-false _ _ h.1; value_fits = ltb-false _ _ h.2; bytes_fit = ltb-false _ _ h.3 }

pub none_passed : {name names value bytes : ℕ} → IsWithin name names value bytes → first_passed name names value bytes ≡ None
unfolding first_passed
none_passed {name} {names} {value} {bytes} h =
    ap (λ t. cond t (Some Name) (cond (nat_lt NAMES names) (Some Names) (cond (nat_lt BODY value) (Some Body) (cond (nat_lt DEFS bytes) (Some Defs) None)))) (le-ltb NAME name h.name_fits)
    ∙ ap (λ t. cond t (Some Names) (cond (nat_lt BODY value) (Some Body) (cond (nat_lt DEFS bytes) (Some Defs) None))) (le-ltb NAMES names h.names_fit)
    ∙ ap (λ t. cond t (Some Body) (cond (nat_lt DEFS bytes) (Some Defs) None)) (le-ltb BODY value h.value_fits)
    ∙ ap (λ t. cond t (Some Defs) None) (le-ltb DEFS bytes h.bytes_fit)

-- ---- What each change of one set keeps.

fit_by_order : (r : Ordering) (a b c : Entries) → EntriesFit a → EntriesFit b → EntriesFit c → EntriesFit (by_order r a b c)
fit_by_order Less a b c p q s = p
fit_by_order Equal a b c p q s = q
fit_by_order Greater a b c p q s = s

fit_put : (n : List ℕ) (d : Definition) (es : Entries) → EntryFits (n, d) → EntriesFit es → EntriesFit (put n d es)
fit_put n d [] f h = (f, tt)
fit_put n d (e ∷ es) f h =
    fit_by_order (by_bytes n e.0) _ _ _ (f, h) (record { name = h.0.name; value = f.value }, h.1) (h.0, fit_put n d es f h.1)

pub short_at : (es : Entries) (i : ℕ) → EntriesFit es → length (value_at es i) ≤ BODY
short_at [] i h = omega arith
short_at (e ∷ es) zero h = h.0.value
short_at (e ∷ es) (suc i) h = short_at es i h.1

pub name_short_at : (es : Entries) (i : ℕ) → EntriesFit es → length (name_at es i) ≤ NAME
name_short_at [] i h = omega arith
name_short_at (e ∷ es) zero h = h.0.name
name_short_at (e ∷ es) (suc i) h = name_short_at es i h.1

pub kept_put : (o : OtherSet) (n : List ℕ) (d : Definition) (es : Entries) → T (is_sorted by_bytes es) → EntriesFit es → refusal_beside o n d.value (put n d es) ≡ None → IsKept o (put n d es)
kept_put o n d es h k e =
    let w = within _ _ _ _ e in
    let f : EntryFits (n, d) = record { name = w.name_fits; value = w.value_fits } in
    record { sorted = is_sorted-put by_bytes nat_list_cmp_total n d es h; few = w.names_fit; small = w.bytes_fit; fit = fit_put n d es f k }

length_cond : (b : Bool) (e : List ℕ × Definition) (xs es : Entries) → length xs ≤ length es → length (cond b (e ∷ xs) xs) ≤ length (e ∷ es)
length_cond true e xs es h = omega (arith, h)
length_cond false e xs es h = omega (arith, h)

length_without : (n : List ℕ) (es : Entries) → length (without n es) ≤ length es
length_without n [] = omega arith
length_without n (e ∷ es) = length_cond (not (is_eq (by_bytes n e.0))) e (without n es) es (length_without n es)

size_cond : (b : Bool) (e : List ℕ × Definition) (xs es : Entries) → size xs ≤ size es → size (cond b (e ∷ xs) xs) ≤ size (e ∷ es)
size_cond true e xs es h = omega (arith, h)
size_cond false e xs es h = omega (arith, h)

size_without : (n : List ℕ) (es : Entries) → size (without n es) ≤ size es
size_without n [] = omega arith
size_without n (e ∷ es) = size_cond (not (is_eq (by_bytes n e.0))) e (without n es) es (size_without n es)

fit_cond : (b : Bool) (e : List ℕ × Definition) (xs : Entries) → EntryFits e → EntriesFit xs → EntriesFit (cond b (e ∷ xs) xs)
fit_cond true e xs f h = (f, h)
fit_cond false e xs f h = h

fit_without : (n : List ℕ) (es : Entries) → EntriesFit es → EntriesFit (without n es)
fit_without n [] h = tt
fit_without n (e ∷ es) h = fit_cond (not (is_eq (by_bytes n e.0))) e (without n es) h.0 (fit_without n es h.1)

pub kept_without : (o : OtherSet) (n : List ℕ) (es : Entries) → IsKept o es → IsKept o (without n es)
kept_without o n es h =
    let a = length_without n es in
    let b = size_without n es in
    record { sorted = is_sorted-where_key by_bytes _ es h.sorted; few = omega (arith, a, h.few); small = omega (arith, b, h.small); fit = fit_without n es h.fit }

-- a definition that is settled keeps the set; `base` is what it is put into
pub settled_kept : (o : OtherSet) (n : List ℕ) (d : Definition) (base es new : Entries) (r : Result (Unit {0}) Limit) → IsKept o base → IsKept o es → Settles o n d.value (put n d base) es r new → IsKept o new
settled_kept o n d base es new (Ok u) g h s = subst (IsKept o) (sym s.1) (kept_put o n d base g.sorted g.fit s.0)
settled_kept o n d base es new (Err l) g h s = subst (IsKept o) (sym s.1) h

renamed_kept_by : (o : OtherSet) (n : List ℕ) (base es new : Entries) (r : Result (Unit {0}) Limit) (found : Option Definition) → IsKept o base → IsKept o es → MatchOption found ((r ≡ Ok tt) × (new ≡ es)) (λ d. Settles o n d.value (put n d base) es r new) → IsKept o new
renamed_kept_by o n base es new r None g h s = subst (IsKept o) (sym s.1) h
renamed_kept_by o n base es new r (Some d) g h s = settled_kept o n d base es new r g h s

pub renamed_kept : (o : OtherSet) (old_name n : List ℕ) (es new : Entries) (r : Result (Unit {0}) Limit) → IsKept o es → RenamesBeside o old_name n es r new → IsKept o new
renamed_kept o old_name n es new r h s = renamed_kept_by o n (without old_name es) es new r (look old_name es) (kept_without o old_name es h) h s

-- one set of a store, beside the other
pub texts_kept : (o : OtherSet) (t r : Entries) → IsStore (definitions t r) → (o.names ≡ length r) × (o.bytes ≡ size r) → IsKept o t
texts_kept o t r h e = record { sorted = h.sorted; few = omega (arith, h.fits.names, e.0); small = omega (arith, h.fits.bytes, e.1); fit = h.fits.texts }

pub registers_kept : (o : OtherSet) (t r : Entries) → IsStore (definitions t r) → (o.names ≡ length t) × (o.bytes ≡ size t) → IsKept o r
registers_kept o t r h e = record { sorted = h.registers_sorted; few = omega (arith, h.fits.names, e.0); small = omega (arith, h.fits.bytes, e.1); fit = h.fits.registers }

pub store_texts : (o : OtherSet) (t new r : Entries) → IsStore (definitions t r) → (o.names ≡ length r) × (o.bytes ≡ size r) → IsKept o new → IsStore (definitions new r)
store_texts o t new r h e k =
    let f : DefinitionsFit (definitions new r) =
    record { texts = k.fit; registers = h.fits.registers; names = omega (arith, k.few, e.0); bytes = omega (arith, k.small, e.1) } in
    record { sorted = k.sorted; registers_sorted = h.registers_sorted; fits = f }

pub store_registers : (o : OtherSet) (t r new : Entries) → IsStore (definitions t r) → (o.names ≡ length t) × (o.bytes ≡ size t) → IsKept o new → IsStore (definitions t new)
store_registers o t r new h e k =
    let f : DefinitionsFit (definitions t new) =
    record { texts = h.fits.texts; registers = k.fit; names = omega (arith, k.few, e.0); bytes = omega (arith, k.small, e.1) } in
    record { sorted = h.sorted; registers_sorted = k.sorted; fits = f }

pub store_without_text : (n : List ℕ) (t new r : Entries) → IsStore (definitions t r) → new ≡ without n t → IsStore (definitions new r)
store_without_text n t new r h e =
    let o : OtherSet = record { names = length r; bytes = size r } in
    subst (λ t. IsStore (definitions t r)) (sym e) (store_texts o t (without n t) r h (refl, refl) (kept_without o n t (texts_kept o t r h (refl, refl))))

pub store_without_register : (n : List ℕ) (t r new : Entries) → IsStore (definitions t r) → new ≡ without n r → IsStore (definitions t new)
store_without_register n t r new h e =
    let o : OtherSet = record { names = length t; bytes = size t } in
    subst (λ r. IsStore (definitions t r)) (sym e) (store_registers o t r (without n r) h (refl, refl) (kept_without o n r (registers_kept o t r h (refl, refl))))

pub hit_length : (n : List ℕ) (d : Definition) (es : Entries) (i : ℕ) → T (is_sorted by_bytes es) → i < length es → by_bytes n (name_at es i) ≡ Equal → length (put n d es) ≡ length es
hit_length n d es i h l e =
    let r = length-remove es i l in
    let p = length-insert (remove es i) i (n, d) (omega (arith, r, l)) in
    ap length (put_hit n d es i h l e) ∙ omega (arith, r, p)

pub hit_size : (n : List ℕ) (d : Definition) (es : Entries) (i : ℕ) → T (is_sorted by_bytes es) → i < length es → by_bytes n (name_at es i) ≡ Equal → size (put n d es) + (length (name_at es i) + length (value_at es i)) ≡ size es + (length n + length d.value)
hit_size n d es i h l e =
    let r = size-remove es i l in
    let p = size-insert (remove es i) i (n, d) in
    let q = ap size (put_hit n d es i h l e) in
    omega (arith, r, p, q)

pub miss_length : (n : List ℕ) (d : Definition) (es : Entries) (i : ℕ) → i ≤ length es → IsBelow n i es → IsAbove n i es → length (put n d es) ≡ length es + 1
miss_length n d es i l b a = ap length (put_miss n d es i l b a) ∙ length-insert es i (n, d) l

pub miss_size : (n : List ℕ) (d : Definition) (es : Entries) (i : ℕ) → i ≤ length es → IsBelow n i es → IsAbove n i es → size (put n d es) ≡ size es + (length n + length d.value)
miss_size n d es i l b a = ap size (put_miss n d es i l b a) ∙ size-insert es i (n, d)

-- ---- A definition that gets another name

-- it would be put where its name is not
pub limits_missed : (o : OtherSet) (n : List ℕ) (es : Entries) (i to : ℕ) → i < length es → to < length es → IsBelow n to (remove es i) → IsAbove n to (remove es i)
    → refusal_beside o n (value_at es i) (insert (remove es i) 0 (n, definition_at es i)) ≡ refusal_beside o n (value_at es i) (put n (definition_at es i) (remove es i))
limits_missed o n es i to l t b a =
    let d = definition_at es i in
    let r = length-remove es i l in
    let m = miss_length n d (remove es i) to (omega (arith, r, t)) b a in
    let s = miss_size n d (remove es i) to (omega (arith, r, t)) b a in
    same_limits (length n) (omega (arith, m)) refl (omega (arith, s))

-- it takes the place of that at p
limits_hit_at : (o : OtherSet) (n : List ℕ) (es : Entries) (i p to : ℕ) → IsKept o es → i < length es → (p < length es) × (p ≢ i) → by_bytes n (name_at es p) ≡ Equal → PlaceWithout p i to
    → refusal_beside o n (value_at es i) (put n (definition_at es i) (remove es i)) ≡ None
limits_hit_at o n es i p to k l t e w =
    let d = definition_at es i in
    let left = entry_left es i p to t.1 l t.0 w in
    let here = ap (λ x. by_bytes n x.0) left.1 ∙ e in
    let sorted = sorted_remove es i k.sorted l in
    let m = hit_length n d (remove es i) to sorted left.0 here in
    let s = hit_size n d (remove es i) to sorted left.0 here in
    let name = ap length (same_name n es p e) in
    let gone = ap (λ x. length x.0) left.1 in
    let r = length-remove es i l in
    let z = size-remove es i l in
    none_passed record {
      name_fits = let short = name_short_at es p k.fit in omega (arith, name, short);
      names_fit = omega (arith, m, r, k.few);
      value_fits = short_at es i k.fit;
      bytes_fit = omega (arith, s, name, gone, z, k.small);
    }

pub limits_hit : (o : OtherSet) (n : List ℕ) (es : Entries) (i p : ℕ) → IsKept o es → i < length es → (p < length es) × (p ≢ i) → by_bytes n (name_at es p) ≡ Equal
    → refusal_beside o n (value_at es i) (put n (definition_at es i) (remove es i)) ≡ None
limits_hit o n es i p k l t e = by (cases_lt i p)
  where
    by : (i < p) ⊎ (p ≤ i) → refusal_beside o n (value_at es i) (put n (definition_at es i) (remove es i)) ≡ None
    by (inl h) = limits_hit_at o n es i p (p - 1) k l t e (inl (h, omega (arith, h)))
    by (inr h) = limits_hit_at o n es i p p k l t e (inr (h, refl))

pub record MovesOnto (n : List ℕ) (es : Entries) (i p from to : ℕ) : Type 0 where
  pub from_in : from < length (remove es p)
  pub to_in : to < length (remove es p)
  pub small : size (remove (remove es p) from) + (length n + length (value_at (remove es p) from)) ≤ size es
  pub is : insert (remove (remove es p) from) to (n, definition_at (remove es p) from) ≡ put n (definition_at es i) (remove es i)

pub moves_onto : (n : List ℕ) (es : Entries) (i p from to : ℕ) → T (is_sorted by_bytes es) → i < length es → (p < length es) × (p ≢ i) → by_bytes n (name_at es p) ≡ Equal → PlaceWithout i p from → PlaceWithout p i to → MovesOnto n es i p from to
moves_onto n es i p from to h l t e v w =
    let d = definition_at es i in
    let moved = entry_left es p i from (λ x. t.1 (sym x)) t.0 l v in
    let left = entry_left es i p to t.1 l t.0 w in
    let here = ap (λ x. by_bytes n x.0) left.1 ∙ e in
    let name = ap length (same_name n es p e) in
    let r = length-remove es i l in
    let q = length-remove es p t.0 in
    let y = size-remove es p t.0 in
    let z = size-remove (remove es p) from moved.0 in
    record {
      from_in = moved.0;
      to_in = omega (arith, left.0, r, q);
      small = omega (arith, y, z, name);
      is = ap (λ x. insert (remove (remove es p) from) to (n, x.1)) moved.1
          ∙ ap (λ es. insert es to (n, d)) (remove_both es i p from to t.1 l t.0 v w)
          ∙ sym (put_hit n d (remove es i) to (sorted_remove es i h l) left.0 here);
    }

pub renamed : (o : OtherSet) (old_name n : List ℕ) (es new : Entries) (i : ℕ) (r : Result (Unit {0}) Limit) → T (is_sorted by_bytes es) → i < length es → by_bytes old_name (name_at es i) ≡ Equal → Settles o n (value_at es i) (put n (definition_at es i) (remove es i)) es r new → RenamesBeside o old_name n es r new
renamed o old_name n es new i r h l e s =
    subst (λ found. MatchOption found ((r ≡ Ok tt) × (new ≡ es)) (λ d. Settles o n d.value (put n d (without old_name es)) es r new)) (sym (look_hit old_name es i h l e))
    (subst (λ all. Settles o n (value_at es i) (put n (definition_at es i) all) es r new) (sym (without_hit old_name es i h l e)) s)

pub not_renamed : (o : OtherSet) (old_name n : List ℕ) (es : Entries) (i : ℕ) → IsBelow old_name i es → IsAbove old_name i es → RenamesBeside o old_name n es (Ok tt) es
not_renamed o old_name n es i b a =
    let r : Result (Unit {0}) Limit = Ok tt in
    subst (λ found. MatchOption found ((r ≡ r) × (es ≡ es)) (λ d. Settles o n d.value (put n d (without old_name es)) es r es)) (sym (look_miss old_name es i b a)) (refl, refl)

-- what is settled beside the other set is defined
defined_at : (o : OtherSet) (n : List ℕ) (d : Definition) (t r new : Entries) (res : Result (Unit {0}) Limit) → (o.names ≡ length r) × (o.bytes ≡ size r) → Settles o n d.value (put n d t) t res new → Defines n d.value (with_text n d (definitions t r)) (definitions t r) res (definitions new r)
defined_at o n d t r new (Ok u) e s = (same_limits (length n) (ap (λ k. length (put n d t) + k) (sym e.0)) refl (ap (λ k. size (put n d t) + k) (sym e.1)) ∙ s.0, ap (λ t. definitions t r) s.1)
defined_at o n d t r new (Err l) e s = (same_limits (length n) (ap (λ k. length (put n d t) + k) (sym e.0)) refl (ap (λ k. size (put n d t) + k) (sym e.1)) ∙ s.0, ap (λ t. definitions t r) s.1)

pub appended : (m : EntryKind) (so_far : Definitions → Option (List ℕ)) (o : OtherSet) (n more items : List ℕ) (t r new : Entries) (old : Definitions) (res : Result (Unit {0}) Limit) → definitions t r ≡ old → (o.names ≡ length r) × (o.bytes ≡ size r) → items ≡ unwrap_or (so_far (definitions t r)) [] → Settles o n (items ++ more) (put n (definition m (items ++ more)) t) t res new → Defines n (unwrap_or (so_far old) [] ++ more) (with_text n (definition m (unwrap_or (so_far old) [] ++ more)) old) old res (definitions new r)
appended m so_far o n more items t r new old res is e f s =
    subst (λ old. Defines n (unwrap_or (so_far old) [] ++ more) (with_text n (definition m (unwrap_or (so_far old) [] ++ more)) old) old res (definitions new r)) is
    (subst (λ v. Defines n (v ++ more) (with_text n (definition m (v ++ more)) (definitions t r)) (definitions t r) res (definitions new r)) f
    (defined_at o n (definition m (items ++ more)) t r new res e s))

-- limits count both sets together
beside : (o : OtherSet) (n : List ℕ) (d : Definition) (t r : Entries) → (o.names ≡ length t) × (o.bytes ≡ size t)
    → first_passed (length n) (length t + length (put n d r)) (length d.value) (size t + size (put n d r)) ≡ refusal_beside o n d.value (put n d r)
beside o n d t r e =
    same_limits (length n) (add_comm (length t) (length (put n d r)) ∙ ap (λ k. length (put n d r) + k) (sym e.0)) refl
    (add_comm (size t) (size (put n d r)) ∙ ap (λ k. size (put n d r) + k) (sym e.1))

registered_at : (o : OtherSet) (n : List ℕ) (d : Definition) (t r new : Entries) (res : Result (Unit {0}) Limit) → (o.names ≡ length t) × (o.bytes ≡ size t)
    → Settles o n d.value (put n d r) r res new → Defines n d.value (definitions t (put n d r)) (definitions t r) res (definitions t new)
registered_at o n d t r new (Ok u) e s = (beside o n d t r e ∙ s.0, ap (λ r. definitions t r) s.1)
registered_at o n d t r new (Err l) e s = (beside o n d t r e ∙ s.0, ap (λ r. definitions t r) s.1)

-- the same of a register, beside strings and macros
pub registered : (o : OtherSet) (n : List ℕ) (d : Definition) (t r new : Entries) (old : Definitions) (res : Result (Unit {0}) Limit) → definitions t r ≡ old
    → (o.names ≡ length t) × (o.bytes ≡ size t) → Settles o n d.value (put n d r) r res new
    → Defines n d.value (definitions old.texts (put n d old.registers)) old res (definitions t new)
registered o n d t r new old res is e s =
    subst (λ (old : Definitions). Defines n d.value (definitions old.texts (put n d old.registers)) old res (definitions t new)) is (registered_at o n d t r new res e s)
