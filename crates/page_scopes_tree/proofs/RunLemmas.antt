-- What the tree gives is what the stack gives, act by act.
use Rattle.std.proofs.Common.{◌≡◌, ℕ, zero, suc, ◌≤◌, List, [], ◌∷◌, ◌++◌, length, drop, refl, ap, subst, append_assoc, arith, ◌+◌, ◌-◌, ◌<◌, ◌==◌, true, false, reverse, get_or, ◌∙◌, Option, None, Some}
use Rattle.std.proofs.lemmas.List.{append-nil, drop-map, drop_more, drop_all, map-append, reverse-reverse, length-reverse}
use Rattle.page_scopes_tree.specs.machine.Nestings.{Standing, as_node, as_leaf, as_nothing, Nesting, IsSound, Forest, After, Rest, node_of, ended, placed, all_open, tree, Layout, scope_of, lay_outer, lay_rest, settled, ended_items, ended_state, placed_items, placed_state, placed_scopes, count_ended, step, run_items}
use Rattle.page_scopes_tree.specs.declared.nestings.Scope.{Scope}
use Rattle.page_scopes_tree.specs.laws.Views.{labels}
use Rattle.page_scopes_tree.specs.Ends.{TreeEdge, place_of_margin, up_to_margin}
use Rattle.std.proofs.lemmas.Grind.{reverse_onto}
use Rattle.std.specs.Prelude.{ℤ, pos, int_lt, nat_abs}
use Rattle.std.specs.Option.{option_map, option_map_or}
use Rattle.page_scopes_labels.specs.Labels.{is_margin}
use Rattle.page_scopes_labels.specs.declared.labels.Label.{Label}

-- the end of the list
lay_all_open : {L A F S B I : Type 0} (lays : Layout L A F S B I) (scopes : List (Scope L B)) (s : S) →
    lay_outer lays scopes s (all_open (labels scopes)) ≡ []
lay_all_open lays [] s = refl
lay_all_open lays (scope ∷ scopes) s = lay_all_open lays scopes s

-- an act that ends so many nodes
lay_ended : {L A F S B I : Type 0} (lays : Layout L A F S B I) (n : ℕ) (a : A) (r : Rest L A F) (scopes : List (Scope L B)) (s : S) →
    n ≤ length scopes →
    lay_rest lays scopes s (ended n a r)
    ≡ ended_items lays n a scopes s ++ lay_rest lays (drop n scopes) (ended_state lays n a scopes s) r
lay_ended lays zero a r scopes s h = refl
lay_ended lays (suc n) a r [] s h = absurd (omega arith)
lay_ended lays (suc n) a r (scope ∷ scopes) s h =
    grind (arith, append_assoc, lay_ended lays n a r scopes (lays.end_state scope.label scope.before a s) (omega arith))

-- a node that an act opens
lay_node_of : {L A F S B I : Type 0} (lays : Layout L A F S B I) (l : L) (a : A) (inner : Forest L A F) (outer : List (After L A F))
    (scopes : List (Scope L B)) (s : S) →
    lay_rest lays scopes s (node_of l a inner outer)
    ≡ lays.begin_items l a s
    ++ lay_rest lays (scope_of lays l a s ∷ scopes) (lays.begin_state l a s) (record { here = inner; outer = outer })
lay_node_of lays l a inner [] scopes s = simp (append_assoc, append-nil)
lay_node_of lays l a inner (next ∷ outer) scopes s = simp append_assoc

-- the act itself
lay_placed : {L A F S B I : Type 0} (lays : Layout L A F S B I) (st : Standing L F) (a : A) (left : List L) (rest : List L → Rest L A F)
    (scopes : List (Scope L B)) (s : S) → left ≡ labels scopes →
    lay_rest lays scopes s (placed st a left rest)
    ≡ placed_items lays st a s
    ++ lay_rest lays (placed_scopes lays st a scopes s) (placed_state lays st a s) (rest (labels (placed_scopes lays st a scopes s)))
lay_placed lays (as_node l) a left rest scopes s h = grind (arith, lay_node_of)
lay_placed lays (as_leaf f) a left rest scopes s h = grind (arith, append_assoc)
lay_placed lays as_nothing a left rest scopes s h = ap (λ t. lay_rest lays scopes s (rest t)) h

pub length-labels : {L B : Type 0} (scopes : List (Scope L B)) → length (labels scopes) ≡ length scopes
length-labels [] = refl
length-labels (scope ∷ scopes) = ap suc (length-labels scopes)

-- an act ends no more than there is
pub ends_fit : {M L A F S B : Type 0} (nests : Nesting M L A F) {most : ℕ} (sound : IsSound nests most) (d : TreeEdge M L S B) (a : A) → count_ended nests d a ≤ length d.scopes
ends_fit nests sound d a = subst (λ m. count_ended nests d a ≤ m) (length-labels d.scopes) (sound.fits d.mode a (labels d.scopes))

pub left_labels : {L B : Type 0} (n : ℕ) (scopes : List (Scope L B)) → drop n (labels scopes) ≡ labels (drop n scopes)
left_labels n scopes = drop-map (λ scope. scope.label) n scopes

-- what the tree of the acts gives is what the stack gives act by act
lay_tree : {M L A F S B I : Type 0} (nests : Nesting M L A F) {most : ℕ} (sound : IsSound nests most) (lays : Layout L A F S B I) (d : TreeEdge M L S B) (acts : List A) →
    lay_rest lays d.scopes d.state (tree nests d.mode (labels d.scopes) acts) ≡ run_items nests lays d acts
lay_tree nests sound lays d [] = lay_all_open lays d.scopes d.state
lay_tree nests sound lays d (a ∷ acts) =
    grind (arith, lay_ended, ends_fit, lay_placed, left_labels, append_assoc, lay_tree nests sound lays (step nests lays d a) acts)

pub settled-run : {M L A F S B I : Type 0} (nests : Nesting M L A F) {most : ℕ} (sound : IsSound nests most) (lays : Layout L A F S B I) (d : TreeEdge M L S B) (acts : List A) →
    settled nests lays d acts ≡ run_items nests lays d acts
unfolding settled
settled-run nests sound lays d acts = lay_tree nests sound lays d acts

-- ---- Where the relative margin of a number is, scope by scope.

-- a place, where so many scopes are before
abbrev pub after_outer : ℕ → Option ℕ → Option ℕ
after_outer n None = None
after_outer n (Some i) = Some (i + n)

after_one : (n : ℕ) (o : Option ℕ) → after_outer n (option_map suc o) ≡ after_outer (n + 1) o
after_one n None = refl
after_one n (Some i) = let e : suc i + n ≡ i + (n + 1) = omega arith in ap Some e

pub from_start : (o : Option ℕ) → o ≡ after_outer 0 o
from_start None = refl
from_start (Some i) = let e : i ≡ i + 0 = omega arith in ap Some e

-- a scope that is no relative margin
pub margin_goes_on : {B : Type 0} (scopes : List (Scope Label B)) (i k : ℕ) (scope : Scope Label B) → i < length scopes
    → scope ≡ get_or scopes i scope → is_margin scope.label ≡ false
    → after_outer i (place_of_margin k (labels (drop i scopes))) ≡ after_outer (i + 1) (place_of_margin k (labels (drop (i + 1) scopes)))
margin_goes_on scopes i k scope h e f = grind (arith, drop_more, after_one)

-- one of those before it
pub margin_counts : {B : Type 0} (scopes : List (Scope Label B)) (i k : ℕ) (scope : Scope Label B) → i < length scopes
    → scope ≡ get_or scopes i scope → is_margin scope.label ≡ true → (k == 1) ≡ false
    → after_outer i (place_of_margin k (labels (drop i scopes))) ≡ after_outer (i + 1) (place_of_margin (k - 1) (labels (drop (i + 1) scopes)))
margin_counts scopes i k scope h e f g = grind (arith, drop_more, after_one)

-- the one itself
pub margin_found : {B : Type 0} (scopes : List (Scope Label B)) (i k : ℕ) (scope : Scope Label B) → i < length scopes
    → scope ≡ get_or scopes i scope → is_margin scope.label ≡ true → (k == 1) ≡ true
    → after_outer i (place_of_margin k (labels (drop i scopes))) ≡ Some i
margin_found scopes i k scope h e f g = grind (arith, drop_more)

-- none is left
pub margin_missing : {B : Type 0} (scopes : List (Scope Label B)) (i k : ℕ) → length scopes ≤ i
    → after_outer i (place_of_margin k (labels (drop i scopes))) ≡ None
margin_missing scopes i k h = rw (drop_all i scopes h) refl

-- ---- scopes from the outside and from the inside

pub labels-reverse : {B : Type 0} (scopes : List (Scope Label B)) → labels (reverse scopes) ≡ reverse (labels scopes)
labels-reverse [] = refl
labels-reverse (scope ∷ scopes) = grind (arith, reverse_onto, map-append, labels-reverse scopes)

pub outer_labels : {B : Type 0} (scopes : List (Scope Label B)) → reverse (labels (reverse scopes)) ≡ labels scopes
outer_labels scopes = ap reverse (labels-reverse scopes) ∙ reverse-reverse (labels scopes)

pub length-inner_labels : {B : Type 0} (scopes : List (Scope Label B)) → length (labels (reverse scopes)) ≡ length scopes
length-inner_labels scopes = length-labels (reverse scopes) ∙ length-reverse scopes

-- all scopes but those outside of a place
abbrev pub but_outside : Option ℕ → ℕ → ℕ
but_outside found count = option_map_or (λ outside. count - outside) found 0

pub margin_by_number : {B : Type 0} (scopes : List (Scope Label B)) (number : ℤ) (found : Option ℕ) (result : ℕ)
    → int_lt number (pos 1) ≡ false → found ≡ place_of_margin (nat_abs number) (labels scopes)
    → result ≡ but_outside found (length scopes) → result ≡ up_to_margin number (labels (reverse scopes))
margin_by_number scopes number found result none f r = rw (none, outer_labels scopes, length-inner_labels scopes, ← f) r
