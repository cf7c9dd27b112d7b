-- What decides the rest after the tree is what the stack has.
use Rattle.std.proofs.Common.{◌≡◌, ℕ, zero, suc, ◌≤◌, List, [], ◌∷◌, ◌++◌, length, drop, refl, sym, ap, append_assoc, arith, ◌+◌, ◌<◌, ◌∙◌, zero-add, length-drop, ◌-◌, Bool, vec_len, ◌*◌}
use Rattle.std.proofs.lemmas.List.{append-nil, drop-drop, length-reverse}
use Rattle.page_scopes_tree.specs.machine.Nestings.{Standing, as_node, as_leaf, as_nothing, Nesting, left_by, standing_of, mode_of, inside, IsSound, Ender, by_act, still_open, Forest, none, node, After, Rest, leaf_first, node_of, ended, placed, all_open, tree, Layout, scope_of, open_outer, open_rest, after_outer, after_rest, mode_after, edge, settled, ended_state, placed_state, placed_scopes, step, run, ended_items, step_items, run_items, placed_items, count_ended, state_left, act, aside, stands_with, with_asides, Sides, layout_with, beside, before_leaf, Ahead, over, on, ending, Part, with_leaf, stand, part, rest_by}
use Rattle.page_scopes_tree.specs.declared.nestings.Scope.{Scope}
use Rattle.page_scopes_tree.specs.laws.Views.{labels, Step}
use Rattle.page_scopes_tree.specs.Ends.{TreeEdge}
use Rattle.page_scopes_tree.proofs.RunLemmas.{ends_fit, left_labels, settled-run, length-labels}
use Rattle.std.proofs.Math.Nat.{suc-add}
use Rattle.std.specs.Global.{Vec}
use Rattle.std.proofs.lemmas.Grind.{common_steps}
use Rattle.page_core_base.specs.Rows.{Item}
use Rattle.page_scopes_tree.proofs.FitLemmas.{scopes-sound}
use Rattle.page_scopes_tree.specs.machine.Stacks.{Fact, scopes_nesting, stack_edge, Tables, framed}
use Rattle.page_core_base.specs.declared.limits.TheConstants.{SCOPES}
use Rattle.page_scopes_labels.specs.declared.labels.Label.{Label}
use Rattle.page_sets_lines.specs.declared.events.Event.{Event}
use Rattle.page_scopes_tree.specs.Placements.{ScopesEdge}
use Rattle.page_scopes_tree.specs.laws.Edges.{steps_of_all, events_items, events_edge, page_items, page_end_items}

-- once a node is open, those around it are
FirstOpen : {L A F : Type 0} → List (After L A F) → Type 0
FirstOpen [] = Unit {0}
FirstOpen (next ∷ outer) = next.ender ≡ still_open

IsTidy : {L A F : Type 0} → List (After L A F) → Type 0
IsTidy [] = Unit {0}
IsTidy (next ∷ outer) = (next.ender ≡ still_open → FirstOpen outer) × IsTidy outer

FirstOpen-all_open : {L : Type 0} (A F : Type 0) (nodes : List L) → FirstOpen {L = L} {A = A} {F = F} (all_open nodes)
unfolding FirstOpen
FirstOpen-all_open A F [] = tt
FirstOpen-all_open A F (l ∷ nodes) = refl

IsTidy-all_open : {L : Type 0} (A F : Type 0) (nodes : List L) → IsTidy {L = L} {A = A} {F = F} (all_open nodes)
unfolding IsTidy
IsTidy-all_open A F [] = tt
IsTidy-all_open A F (l ∷ nodes) = ((λ _. FirstOpen-all_open A F nodes), IsTidy-all_open A F nodes)

IsTidy-ended : {L A F : Type 0} (n : ℕ) (a : A) (r : Rest L A F) → IsTidy r.outer → IsTidy (ended n a r).outer
unfolding IsTidy
IsTidy-ended zero a r h = h
IsTidy-ended (suc n) a r h = ((λ q. cc), IsTidy-ended n a r h)

IsTidy-node_of : {L A F : Type 0} (l : L) (a : A) (inner : Forest L A F) (outer : List (After L A F)) →
    IsTidy outer → IsTidy (node_of l a inner outer).outer
unfolding IsTidy
IsTidy-node_of l a inner [] h = tt
IsTidy-node_of l a inner (next ∷ outer) h = h.1

IsTidy-placed : {L A F : Type 0} (st : Standing L F) (a : A) (left : List L) (rest : List L → Rest L A F) →
    ((open_nodes : List L) → IsTidy (rest open_nodes).outer) → IsTidy (placed st a left rest).outer
IsTidy-placed (as_node l) a left rest h = IsTidy-node_of l a _ _ (h (l ∷ left))
IsTidy-placed (as_leaf f) a left rest h = h left
IsTidy-placed as_nothing a left rest h = h left

IsTidy-tree : {M L A F : Type 0} (nests : Nesting M L A F) (acts : List A) (m : M) (nodes : List L) → IsTidy (tree nests m nodes acts).outer
IsTidy-tree {A = A} {F = F} nests [] m nodes = IsTidy-all_open A F nodes
IsTidy-tree nests (a ∷ acts) m nodes =
    IsTidy-ended _ a _ (IsTidy-placed (standing_of nests m a nodes) a (left_by nests m a nodes) _
    (λ open_nodes. IsTidy-tree nests acts (mode_of nests m a nodes) open_nodes))

-- the open nodes and the state
record Held (L S B : Type 0) : Type 0 where
  scopes : List (Scope L B)
  state : S

held : {L S B : Type 0} → List (Scope L B) → S → Held L S B
held scopes s = record { scopes = scopes; state = s }

held_of : {L A F S B I : Type 0} → Layout L A F S B I → List (Scope L B) → S → Rest L A F → Held L S B
held_of lays scopes s r = record { scopes = open_rest lays scopes s r; state = after_rest lays scopes s r }

held_ended : {L A F S B I : Type 0} (lays : Layout L A F S B I) (n : ℕ) (a : A) (r : Rest L A F) (scopes : List (Scope L B)) (s : S) →
    n ≤ length scopes → held_of lays scopes s (ended n a r) ≡ held_of lays (drop n scopes) (ended_state lays n a scopes s) r
unfolding held_of
held_ended lays zero a r scopes s h = refl
held_ended lays (suc n) a r [] s h = absurd (omega arith)
held_ended lays (suc n) a r (scope ∷ scopes) s h = held_ended lays n a r scopes (lays.end_state scope.label scope.before a s) (omega arith)

open_first : {L A F S B I : Type 0} (lays : Layout L A F S B I) (found scopes : List (Scope L B)) (s : S) (outer : List (After L A F)) →
    FirstOpen outer → open_outer lays found scopes s outer ≡ found ++ scopes
unfolding FirstOpen
open_first lays found scopes s [] h = refl
open_first lays found [] s (next ∷ outer) h = sym (append-nil found)
open_first lays found (scope ∷ scopes) s (next ∷ outer) h = rw h

held_node_by : {L A F S B I : Type 0} (lays : Layout L A F S B I) (l : L) (a : A) (inner : Forest L A F) (x : Ender A) (g : Forest L A F)
    (outer : List (After L A F)) (scopes : List (Scope L B)) (s : S) → (x ≡ still_open → FirstOpen outer) →
    held_of lays scopes s (record { here = node l a inner x g; outer = outer })
    ≡ held_of lays (scope_of lays l a s ∷ scopes) (lays.begin_state l a s) (record { here = inner; outer = record { ender = x; siblings = g } ∷ outer })
unfolding held_of
held_node_by lays l a inner (by_act y) g outer scopes s h = refl
held_node_by lays l a inner still_open g outer scopes s h = grind (arith, open_first, append_assoc)

held_node_of : {L A F S B I : Type 0} (lays : Layout L A F S B I) (l : L) (a : A) (inner : Forest L A F) (outer : List (After L A F))
    (scopes : List (Scope L B)) (s : S) → IsTidy outer →
    held_of lays scopes s (node_of l a inner outer)
    ≡ held_of lays (scope_of lays l a s ∷ scopes) (lays.begin_state l a s) (record { here = inner; outer = outer })
unfolding held_of IsTidy
held_node_of lays l a inner [] scopes s h = grind (arith, append_assoc)
held_node_of lays l a inner (next ∷ outer) scopes s h = held_node_by lays l a inner next.ender next.siblings outer scopes s h.0

held_leaf : {L A F S B I : Type 0} (lays : Layout L A F S B I) (f : F) (r : Rest L A F) (scopes : List (Scope L B)) (s : S) →
    held_of lays scopes s (leaf_first f r) ≡ held_of lays scopes (lays.leaf_state f s) r
unfolding held_of
held_leaf lays f r scopes s = refl

held_placed : {L A F S B I : Type 0} (lays : Layout L A F S B I) (st : Standing L F) (a : A) (left : List L) (rest : List L → Rest L A F)
    (scopes : List (Scope L B)) (s : S) → ((open_nodes : List L) → IsTidy (rest open_nodes).outer) → left ≡ labels scopes →
    held_of lays scopes s (placed st a left rest)
    ≡ held_of lays (placed_scopes lays st a scopes s) (placed_state lays st a s) (rest (labels (placed_scopes lays st a scopes s)))
held_placed lays (as_node l) a left rest scopes s tidy h = grind (arith, held_node_of, held_of)
held_placed lays (as_leaf f) a left rest scopes s tidy h = grind (arith, held_leaf, held_of)
held_placed lays as_nothing a left rest scopes s tidy h = ap (λ t. held_of lays scopes s (rest t)) h

held_all_open : {L A F S B I : Type 0} (lays : Layout L A F S B I) (scopes : List (Scope L B)) (s : S) →
    held_of lays scopes s (record { here = none; outer = all_open (labels scopes) }) ≡ held scopes s
unfolding held_of held
held_all_open lays [] s = refl
held_all_open lays (scope ∷ scopes) s = ap (λ t. held (scope ∷ scopes) t) (states scopes) where
  states : (others : List (Scope _ _)) → after_outer lays others s (all_open (labels others)) ≡ s
  states [] = refl
  states (other ∷ others) = states others

-- the labels that the stack has are those of the nodes
placed_labels : {L A F S B I : Type 0} (lays : Layout L A F S B I) (st : Standing L F) (a : A) (left : List L) (scopes : List (Scope L B)) (s : S) →
    left ≡ labels scopes → inside st left ≡ labels (placed_scopes lays st a scopes s)
placed_labels lays (as_node l) a left scopes s h = ap (λ t. l ∷ t) h
placed_labels lays (as_leaf f) a left scopes s h = h
placed_labels lays as_nothing a left scopes s h = h

held_tree : {M L A F S B I : Type 0} (nests : Nesting M L A F) {most : ℕ} (sound : IsSound nests most) (lays : Layout L A F S B I) (d : TreeEdge M L S B) (acts : List A) →
    held_of lays d.scopes d.state (tree nests d.mode (labels d.scopes) acts) ≡ held (run nests lays d acts).scopes (run nests lays d acts).state
held_tree nests sound lays d [] = held_all_open lays d.scopes d.state
held_tree nests sound lays d (a ∷ acts) =
    grind (arith, held_ended, ends_fit, held_placed, IsTidy-tree, left_labels, held_tree nests sound lays (step nests lays d a) acts)

mode_run : {M L A F S B I : Type 0} (nests : Nesting M L A F) (lays : Layout L A F S B I) (d : TreeEdge M L S B) (acts : List A) →
    mode_after nests d.mode (labels d.scopes) acts ≡ (run nests lays d acts).mode
mode_run nests lays d [] = refl
mode_run nests lays d (a ∷ acts) = grind (arith, placed_labels, left_labels, mode_run nests lays (step nests lays d a) acts)

pub edge-run : {M L A F S B I : Type 0} (nests : Nesting M L A F) {most : ℕ} (sound : IsSound nests most) (lays : Layout L A F S B I) (d : TreeEdge M L S B) (acts : List A) →
    edge nests lays d acts ≡ run nests lays d acts
unfolding held_of held edge
edge-run nests sound lays d acts = grind (arith, held_tree, mode_run)

-- ---- A list of acts cut anywhere gives and leaves the same.

run_items-append : {M L A F S B I : Type 0} (nests : Nesting M L A F) (lays : Layout L A F S B I) (d : TreeEdge M L S B) (acts more : List A) →
    run_items nests lays d (acts ++ more) ≡ run_items nests lays d acts ++ run_items nests lays (run nests lays d acts) more
run_items-append nests lays d [] more = refl
run_items-append nests lays d (a ∷ acts) more = grind (arith, append_assoc, run_items-append nests lays (step nests lays d a) acts more)

run-append : {M L A F S B I : Type 0} (nests : Nesting M L A F) (lays : Layout L A F S B I) (d : TreeEdge M L S B) (acts more : List A) →
    run nests lays d (acts ++ more) ≡ run nests lays (run nests lays d acts) more
run-append nests lays d [] more = refl
run-append nests lays d (a ∷ acts) more = run-append nests lays (step nests lays d a) acts more

-- the cut law, for any cut: what is given
pub settled-append : {M L A F S B I : Type 0} (nests : Nesting M L A F) {most : ℕ} (sound : IsSound nests most) (lays : Layout L A F S B I) (d : TreeEdge M L S B) (acts more : List A) →
    settled nests lays d (acts ++ more) ≡ settled nests lays d acts ++ settled nests lays (edge nests lays d acts) more
settled-append nests sound lays d acts more = grind (arith, settled-run, run_items-append, edge-run)

-- the cut law: what decides the rest
pub edge-append : {M L A F S B I : Type 0} (nests : Nesting M L A F) {most : ℕ} (sound : IsSound nests most) (lays : Layout L A F S B I) (d : TreeEdge M L S B) (acts more : List A) →
    edge nests lays d (acts ++ more) ≡ edge nests lays (edge nests lays d acts) more
edge-append nests sound lays d acts more = grind (arith, edge-run, run-append)

-- one act
pub settled-one : {M L A F S B I : Type 0} (nests : Nesting M L A F) {most : ℕ} (sound : IsSound nests most) (lays : Layout L A F S B I) (d : TreeEdge M L S B) (a : A) →
    settled nests lays d (a ∷ []) ≡ step_items nests lays d a
settled-one nests sound lays d a = settled-run nests sound lays d (a ∷ []) ∙ append-nil (step_items nests lays d a)

pub edge-one : {M L A F S B I : Type 0} (nests : Nesting M L A F) {most : ℕ} (sound : IsSound nests most) (lays : Layout L A F S B I) (d : TreeEdge M L S B) (a : A) →
    edge nests lays d (a ∷ []) ≡ step nests lays d a
edge-one nests sound lays d a = edge-run nests sound lays d (a ∷ [])

-- ---- no more nodes than there may be

placed_fit : {L A F S B I : Type 0} (lays : Layout L A F S B I) (most : ℕ) (st : Standing L F) (a : A) (scopes : List (Scope L B)) (s : S) →
    ((l : L) → st ≡ as_node l → length scopes < most) → length scopes ≤ most → length (placed_scopes lays st a scopes s) ≤ most
placed_fit lays most (as_node l) a scopes s h k = let less : length scopes < most = h l refl in omega arith
placed_fit lays most (as_leaf f) a scopes s h k = k
placed_fit lays most as_nothing a scopes s h k = k

pub step_fits : {M L A F S B I : Type 0} (nests : Nesting M L A F) {most : ℕ} (sound : IsSound nests most) (lays : Layout L A F S B I) (d : TreeEdge M L S B) (a : A) →
    length d.scopes ≤ most → length (step nests lays d a).scopes ≤ most
step_fits nests {most = most} sound lays d a h = grind (arith, left_labels, length-labels, length-drop, placed_fit)

run_fits : {M L A F S B I : Type 0} (nests : Nesting M L A F) {most : ℕ} (sound : IsSound nests most) (lays : Layout L A F S B I) (d : TreeEdge M L S B) (acts : List A) →
    length d.scopes ≤ most → length (run nests lays d acts).scopes ≤ most
run_fits nests sound lays d [] h = h
run_fits nests sound lays d (a ∷ acts) h = run_fits nests sound lays (step nests lays d a) acts (step_fits nests sound lays d a h)

pub edge-fits : {M L A F S B I : Type 0} (nests : Nesting M L A F) {most : ℕ} (sound : IsSound nests most) (lays : Layout L A F S B I) (d : TreeEdge M L S B) (acts : List A) →
    length d.scopes ≤ most → length (edge nests lays d acts).scopes ≤ most
edge-fits nests sound lays d acts h = rw (edge-run nests sound lays d acts) (run_fits nests sound lays d acts h)

-- ---- ending so many, and then so many more

no_items : {L A F S B I : Type 0} (lays : Layout L A F S B I) (n : ℕ) (a : A) (s : S) → ended_items lays n a [] s ≡ []
no_items lays zero a s = refl
no_items lays (suc n) a s = refl

pub ended_items-add : {L A F S B I : Type 0} (lays : Layout L A F S B I) (m n : ℕ) (a : A) (scopes : List (Scope L B)) (s : S) →
    ended_items lays (m + n) a scopes s ≡ ended_items lays m a scopes s ++ ended_items lays n a (drop m scopes) (ended_state lays m a scopes s)
ended_items-add lays zero n a scopes s = rw zero-add refl
ended_items-add lays (suc m) n a [] s = no_items lays (suc m + n) a s ∙ sym (no_items lays n a s)
ended_items-add lays (suc m) n a (scope ∷ scopes) s =
    let here = lays.end_items scope.label scope.before a s in
    rw suc-add
    (ap (λ t. here ++ t) (ended_items-add lays m n a scopes (lays.end_state scope.label scope.before a s)) ∙ sym (append_assoc here _ _))

-- ---- A stack whose innermost scopes end one by one.

one_and_rest : (count i : ℕ) → i < count → count - i ≡ 1 + (count - (i + 1))
one_and_rest count i h = omega arith

pub items_more : {L A F S B I : Type 0} (lays : Layout L A F S B I) (count i : ℕ) → i < count → (a : A) (scopes : List (Scope L B)) (s : S)
    → ended_items lays (count - i) a scopes s
    ≡ ended_items lays 1 a scopes s ++ ended_items lays (count - (i + 1)) a (drop 1 scopes) (ended_state lays 1 a scopes s)
items_more lays count i h a scopes s = grind (arith, one_and_rest, ended_items-add)

pub state_more : {L A F S B I : Type 0} (lays : Layout L A F S B I) (count i : ℕ) → i < count → (a : A) (scopes : List (Scope L B)) (s : S)
    → ended_state lays (count - i) a scopes s ≡ ended_state lays (count - (i + 1)) a (drop 1 scopes) (ended_state lays 1 a scopes s)
state_more lays count i h a scopes s = grind arith

pub drop_more : {X : Type 0} (count i : ℕ) → i < count → (xs : List X) → drop (count - i) xs ≡ drop (count - (i + 1)) (drop 1 xs)
drop_more count i h xs = ap (λ n. drop n xs) (one_and_rest count i h) ∙ sym (drop-drop (count - (i + 1)) 1 xs)

-- ---- one event, which comes and does

pub settled-two : {M L A F S B I : Type 0} (nests : Nesting M L A F) {most : ℕ} (sound : IsSound nests most) (lays : Layout L A F S B I) (d : TreeEdge M L S B)
    (a b : A) → settled nests lays d (a ∷ b ∷ []) ≡ step_items nests lays d a ++ step_items nests lays (step nests lays d a) b
settled-two nests sound lays d a b = grind (arith, settled-run, append-nil)

pub edge-two : {M L A F S B I : Type 0} (nests : Nesting M L A F) {most : ℕ} (sound : IsSound nests most) (lays : Layout L A F S B I) (d : TreeEdge M L S B)
    (a b : A) → edge nests lays d (a ∷ b ∷ []) ≡ step nests lays (step nests lays d a) b
edge-two nests sound lays d a b = edge-run nests sound lays d (a ∷ b ∷ [])

-- what two steps give and leave, where the edge before them and that between them have other names
pub items_by_two : {M L A F S B I : Type 0} (nests : Nesting M L A F) {most : ℕ} (sound : IsSound nests most) (lays : Layout L A F S B I)
    (d d0 d1 : TreeEdge M L S B) (a b : A) → d0 ≡ d → d1 ≡ step nests lays d0 a
    → settled nests lays d (a ∷ b ∷ []) ≡ step_items nests lays d0 a ++ step_items nests lays d1 b
items_by_two nests sound lays d d0 d1 a b same first = grind (arith, settled-two)

pub edge_by_two : {M L A F S B I : Type 0} (nests : Nesting M L A F) {most : ℕ} (sound : IsSound nests most) (lays : Layout L A F S B I)
    (d d0 d1 : TreeEdge M L S B) (a b : A) → d0 ≡ d → d1 ≡ step nests lays d0 a → edge nests lays d (a ∷ b ∷ []) ≡ step nests lays d1 b
edge_by_two nests sound lays d d0 d1 a b same first = grind (arith, edge-two)

-- the same of one step
pub items_by_one : {M L A F S B I : Type 0} (nests : Nesting M L A F) {most : ℕ} (sound : IsSound nests most) (lays : Layout L A F S B I)
    (d d0 : TreeEdge M L S B) (a : A) → d0 ≡ d → settled nests lays d (a ∷ []) ≡ step_items nests lays d0 a
items_by_one nests sound lays d d0 a same = sym (ap (λ t. settled nests lays t (a ∷ [])) same) ∙ settled-one nests sound lays d0 a

pub edge_by_one : {M L A F S B I : Type 0} (nests : Nesting M L A F) {most : ℕ} (sound : IsSound nests most) (lays : Layout L A F S B I)
    (d d0 : TreeEdge M L S B) (a : A) → d0 ≡ d → edge nests lays d (a ∷ []) ≡ step nests lays d0 a
edge_by_one nests sound lays d d0 a same = sym (ap (λ t. edge nests lays t (a ∷ [])) same) ∙ edge-one nests sound lays d0 a

-- no more scopes than there may be
pub scopes_fit : {S B : Type 0} (lays : Layout Label Step Fact S B Item) (skips next : Bool) (scopes next_scopes : Vec (Scope Label B)) (s t : S) (a : Step)
    → vec_len scopes ≤ SCOPES → stack_edge next next_scopes t ≡ step scopes_nesting lays (stack_edge skips scopes s) a → vec_len next_scopes ≤ SCOPES
scopes_fit lays skips next scopes next_scopes s t a h e = grind (arith, common_steps, length-reverse, step_fits, scopes-sound)

-- ---- Events that are cut between two of them.

pub steps_of_all-append : (events more : List (Event (List ℕ))) → steps_of_all (events ++ more) ≡ steps_of_all events ++ steps_of_all more
steps_of_all-append [] more = refl
steps_of_all-append (event ∷ events) more = grind (arith, append_assoc, steps_of_all-append events more)

-- the cut law of events: what they give
pub events_items-append : {S B : Type 0} (tables : Tables S B) (d : ScopesEdge S B) (events more : List (Event (List ℕ)))
    → events_items tables d (events ++ more) ≡ events_items tables d events ++ events_items tables (events_edge tables d events) more
events_items-append tables d events more = grind (arith, steps_of_all-append, settled-append, scopes-sound)

-- the cut law of events: what decides the rest
pub events_edge-append : {S B : Type 0} (tables : Tables S B) (d : ScopesEdge S B) (events more : List (Event (List ℕ)))
    → events_edge tables d (events ++ more) ≡ events_edge tables (events_edge tables d events) more
events_edge-append tables d events more = grind (arith, steps_of_all-append, edge-append, scopes-sound)

-- no more scopes are open than there may be
pub events_edge-fits : {S B : Type 0} (tables : Tables S B) (d : ScopesEdge S B) (events : List (Event (List ℕ)))
    → length d.scopes ≤ SCOPES → length (events_edge tables d events).scopes ≤ SCOPES
events_edge-fits tables d events h = edge-fits scopes_nesting scopes-sound (framed tables) d (steps_of_all events) h

-- the page's end comes after all events
pub page_items-append : {S B : Type 0} (tables : Tables S B) (d : ScopesEdge S B) (events : List (Event (List ℕ))) (line : ℕ)
    → page_items tables d events line ≡ events_items tables d events ++ page_end_items tables (events_edge tables d events) line
page_items-append tables d events line = grind (arith, settled-append, scopes-sound)

-- ---- Acts with asides: helpers of proofs.

pub sound_with : {Y M L A F : Type 0} (nests : Nesting M L A F) (most : ℕ) → IsSound nests most → IsSound (with_asides {Y = Y} nests) most
sound_with nests most k = grind arith

module _ {Y M L A F H S B I : Type 0} (nests : Nesting M L A F) (lays : Layout L A F S B I) (sides : Sides Y A F H S I) where
  ended_items_with : (n : ℕ) (a : A) (scopes : List (Scope L B)) (own : H) (s : S)
      → ended_items (layout_with lays sides) n (act a) scopes (record { own = own; rest = s }) ≡ ended_items lays n a scopes s
  ended_items_with zero a scopes own s = refl
  ended_items_with (suc n) a [] own s = refl
  ended_items_with (suc n) a (scope ∷ scopes) own s =
      ap (λ t. lays.end_items scope.label scope.before a s ++ t) (ended_items_with n a scopes own (lays.end_state scope.label scope.before a s))

  ended_state_with : (n : ℕ) (a : A) (scopes : List (Scope L B)) (own : H) (s : S)
      → ended_state (layout_with lays sides) n (act a) scopes (record { own = own; rest = s }) ≡ record { own = own; rest = ended_state lays n a scopes s }
  ended_state_with zero a scopes own s = refl
  ended_state_with (suc n) a [] own s = refl
  ended_state_with (suc n) a (scope ∷ scopes) own s = ended_state_with n a scopes own (lays.end_state scope.label scope.before a s)

  placed_items_with : (st : Standing L F) (a : A) (own : H) (s : S)
      → placed_items (layout_with lays sides) (stands_with st) (act a) (record { own = own; rest = s })
      ≡ before_leaf sides st own s ++ placed_items lays st a s
  placed_items_with (as_node l) a own s = refl
  placed_items_with (as_leaf f) a own s = refl
  placed_items_with as_nothing a own s = refl

  placed_state_with : (st : Standing L F) (a : A) (own : H) (s : S)
      → placed_state (layout_with lays sides) (stands_with st) (act a) (record { own = own; rest = s }) ≡ record { own = own; rest = placed_state lays st a s }
  placed_state_with (as_node l) a own s = refl
  placed_state_with (as_leaf f) a own s = refl
  placed_state_with as_nothing a own s = refl

  placed_scopes_with : (st : Standing L F) (a : A) (scopes : List (Scope L B)) (own : H) (s : S)
      → placed_scopes (layout_with lays sides) (stands_with st) (act a) scopes (record { own = own; rest = s }) ≡ placed_scopes lays st a scopes s
  placed_scopes_with (as_node l) a scopes own s = refl
  placed_scopes_with (as_leaf f) a scopes own s = refl
  placed_scopes_with as_nothing a scopes own s = refl

  pub act_items : (own : H) (d : TreeEdge M L S B) (a : A)
      → step_items (with_asides nests) (layout_with lays sides) (beside own d) (act a)
      ≡ ended_items lays (count_ended nests d a) a d.scopes d.state
      ++ (before_leaf sides (standing_of nests d.mode a (labels d.scopes)) own (state_left nests lays d a)
      ++ placed_items lays (standing_of nests d.mode a (labels d.scopes)) a (state_left nests lays d a))
  act_items own d a =
      rw (
        ended_items_with (count_ended nests d a) a d.scopes own d.state,
        ended_state_with (count_ended nests d a) a d.scopes own d.state,
        placed_items_with (standing_of nests d.mode a (labels d.scopes)) a own (state_left nests lays d a),
      ) refl

  pub act_step : (own : H) (d : TreeEdge M L S B) (a : A)
      → step (with_asides nests) (layout_with lays sides) (beside own d) (act a) ≡ beside own (step nests lays d a)
  act_step own d a =
      rw (
        ended_state_with (count_ended nests d a) a d.scopes own d.state,
        placed_scopes_with (standing_of nests d.mode a (labels d.scopes)) a (drop (count_ended nests d a) d.scopes) own (state_left nests lays d a),
        placed_state_with (standing_of nests d.mode a (labels d.scopes)) a own (state_left nests lays d a),
      ) refl

  pub aside_items : (own : H) (d : TreeEdge M L S B) (y : Y)
      → step_items (with_asides nests) (layout_with lays sides) (beside own d) (aside y) ≡ sides.items y own d.state
  aside_items own d y = refl

  pub aside_step : (own : H) (d : TreeEdge M L S B) (y : Y)
      → step (with_asides nests) (layout_with lays sides) (beside own d) (aside y) ≡ beside (sides.own y own d.state) d
  aside_step own d y = refl

-- ---- The tree is what is found node by node.

-- the tree of what lies ahead
abbrev rest_of : {M L A F : Type 0} → Nesting M L A F → List L → Ahead M A → Rest L A F
rest_of nests nodes over = record { here = none; outer = all_open nodes }
rest_of nests nodes (on m acts) = tree nests m nodes acts
rest_of nests nodes (ending k n m a acts) =
    ended k a (placed (nests.standing m a n (drop k nodes)) a (drop k nodes) (λ open_nodes. tree nests (nests.mode m a n (drop k nodes)) open_nodes acts))

abbrev size : {M A : Type 0} → Ahead M A → ℕ
size over = 0
size (on m acts) = 2 * length acts + 1
size (ending k n m a acts) = 2 * length acts + 2

-- an act ends no more nodes than are there
abbrev Fits : {M L A : Type 0} → List L → Ahead M A → Type 0
Fits nodes over = Unit {0}
Fits nodes (on m acts) = Unit {0}
Fits nodes (ending k n m a acts) = k ≤ length nodes

-- the rest inside the nodes, by its first part and what lies ahead of that in the node around it
abbrev joined : {M L A F : Type 0} → Nesting M L A F → List L → Part M L A F → Rest L A F
joined nests [] p = record { here = p.forest; outer = [] }
joined nests (l ∷ nodes) p =
    record { here = p.forest; outer = record { ender = p.ender; siblings = (rest_of nests nodes p.ahead).here } ∷ (rest_of nests nodes p.ahead).outer }

abbrev tail : {L : Type 0} → List L → List L
tail [] = []
tail (l ∷ nodes) = nodes

record Good {M L A F : Type 0} (nests : Nesting M L A F) (nodes : List L) (r : Ahead M A) (p : Part M L A F) : Type 0 where
  same : rest_of nests nodes r ≡ joined nests nodes p
  less : size p.ahead ≤ size r
  fits : Fits (tail nodes) p.ahead

good-over : {M L A F : Type 0} (nests : Nesting M L A F) (nodes : List L) (r : Ahead M A) →
    rest_of nests nodes r ≡ record { here = none; outer = all_open nodes } → Good nests nodes r (record { forest = none; ender = still_open; ahead = over })
good-over nests [] r h = record { same = h; less = omega arith; fits = tt }
good-over nests (l ∷ nodes) r h = record { same = h; less = omega arith; fits = tt }

good-leaf : {M L A F : Type 0} (nests : Nesting M L A F) (m : M) (a : A) (f : F) (nodes : List L) (n : ℕ) (acts : List A) (p : Part M L A F) →
    nests.standing m a n nodes ≡ as_leaf f → Good nests nodes (on (nests.mode m a n nodes) acts) p → Good nests nodes (ending zero n m a acts) (with_leaf f p)
good-leaf nests m a f [] n acts p h g = record { same = rw h (ap (leaf_first f) g.same); less = let k = g.less in omega arith; fits = g.fits }
good-leaf nests m a f (l ∷ nodes) n acts p h g = record { same = rw h (ap (leaf_first f) g.same); less = let k = g.less in omega arith; fits = g.fits }

good-nothing : {M L A F : Type 0} (nests : Nesting M L A F) (m : M) (a : A) (nodes : List L) (n : ℕ) (acts : List A) (p : Part M L A F) →
    nests.standing m a n nodes ≡ as_nothing → Good nests nodes (on (nests.mode m a n nodes) acts) p → Good nests nodes (ending zero n m a acts) p
good-nothing nests m a nodes n acts p h g = record { same = rw h g.same; less = let k = g.less in omega arith; fits = g.fits }

good-stand : {M L A F : Type 0} (nests : Nesting M L A F) (k : ℕ) →
    ((nodes : List L) (r : Ahead M A) → size r ≤ k → Fits nodes r → Good nests nodes r (part nests k nodes r)) →
    (m : M) (a : A) (nodes : List L) (n : ℕ) (acts : List A) → 2 * length acts + 1 ≤ k → (st : Standing L F) → nests.standing m a n nodes ≡ st →
    Good nests nodes (ending zero n m a acts) (stand st (nests.mode m a n nodes) a nodes acts (λ open_nodes r. part nests k open_nodes r))
good-stand nests k more m a nodes n acts h (as_node l) s = grind arith
good-stand nests k more m a nodes n acts h (as_leaf f) s = good-leaf nests m a f nodes n acts _ s (more nodes (on (nests.mode m a n nodes) acts) h tt)
good-stand nests k more m a nodes n acts h as_nothing s = good-nothing nests m a nodes n acts _ s (more nodes (on (nests.mode m a n nodes) acts) h tt)

good : {M L A F : Type 0} (nests : Nesting M L A F) {most : ℕ} (sound : IsSound nests most) (k : ℕ) (nodes : List L) (r : Ahead M A) → size r ≤ k → Fits nodes r →
    Good nests nodes r (part nests k nodes r)
good nests sound zero nodes over h f = good-over nests nodes over refl
good nests sound zero nodes (on m acts) h f = absurd (omega arith)
good nests sound zero nodes (ending more n m a acts) h f = absurd (omega arith)
good nests sound (suc k) nodes over h f = good-over nests nodes over refl
good nests sound (suc k) nodes (on m []) h f = good-over nests nodes (on m []) refl
good nests sound (suc k) nodes (on m (a ∷ acts)) h f =
    let n = nests.ends m a nodes in
    let g = good nests sound k nodes (ending n n m a acts) (omega arith) (sound.fits m a nodes) in
    let less = g.less in
    record { same = g.same; less = omega arith; fits = g.fits }
good nests sound (suc k) [] (ending (suc more) n m a acts) h f = absurd (omega arith)
good nests sound (suc k) (l ∷ nodes) (ending (suc more) n m a acts) h f = record { same = refl; less = omega arith; fits = omega arith }
good nests sound (suc k) nodes (ending zero n m a acts) h f = good-stand nests k (good nests sound k) m a nodes n acts (omega arith) (nests.standing m a n nodes) refl

-- the tree of what lies ahead is found part by part
rest-by : {M L A F : Type 0} (nests : Nesting M L A F) {most : ℕ} (sound : IsSound nests most) (k : ℕ) (nodes : List L) (r : Ahead M A) → size r ≤ k → Fits nodes r →
    rest_of nests nodes r ≡ rest_by nests k nodes r
rest-by nests sound k [] r h f = (good nests sound k [] r h f).same
rest-by nests sound k (l ∷ nodes) r h f =
    let g = good nests sound k (l ∷ nodes) r h f in
    let less = g.less in
    let p = part nests k (l ∷ nodes) r in
    g.same
    ∙ ap (λ (t : Rest _ _ _). record { here = p.forest; outer = record { ender = p.ender; siblings = t.here } ∷ t.outer })
    (rest-by nests sound k nodes p.ahead (omega arith) g.fits)

pub tree-part : {M L A F : Type 0} (nests : Nesting M L A F) {most : ℕ} (sound : IsSound nests most) (m : M) (nodes : List L) (acts : List A) →
    tree nests m nodes acts ≡ rest_by nests (2 * length acts + 1) nodes (on m acts)
tree-part nests sound m nodes acts = rest-by nests sound (2 * length acts + 1) nodes (on m acts) (omega arith) tt
