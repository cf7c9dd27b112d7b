-- What the block tree of a page gives is what that of the machine gives: helpers of proofs.
use Rattle.std.proofs.Common.{◌≡◌, Bool, List, [], ◌∷◌, ◌++◌, map, refl, sym, ap, ◌∙◌, append_assoc, append-nil}
use Rattle.page_engine_lines.specs.Bodies.{BodyEdge, HeaderEdge}
use Rattle.page_engine_lines.specs.Trees as new
use Rattle.page_engine_lines.specs.Trees.{PageAct, Step, BlockForest, After, Rest, BodyState, LaidForest, tree, step_gave, begin_gave, end_gave, scope_of, lay, lay_outer, tree_of, laid_by}
use Rattle.page_engine_lines.specs.machine.Lines.{as_act, body_layout, body_nesting}
use Rattle.page_engine_lines.specs.machine.Lines as trees
use Rattle.page_engine_lines.proofs.TreeSameLemmas.{A, OldRest, leaf_old, forest_old, afters_old, rest_old, AllStay, Proper, tree_law, mode_law, tree_proper}
use Rattle.page_scopes.specs.declared.layouts.Kept.{Kept}
use Rattle.page_scopes.specs.declared.layouts.LayoutState.{LayoutState}
use Rattle.page_scopes_labels.specs.declared.labels.Label.{Label}
use Rattle.page_scopes_tree.specs.laws.Views as oldsteps
use Rattle.page_scopes_tree.specs.machine.Nestings.{act, Beside}
use Rattle.page_scopes_tree.specs.machine.Nestings as lays
use Rattle.page_scopes_tree.specs.machine.Stacks.{refused}
use Rattle.page_scopes_tree.specs.declared.nestings.Scope.{Scope}

abbrev OldState : Type 0
OldState = Beside HeaderEdge LayoutState

abbrev to : BodyState → OldState
to s = record { own = s.header; rest = s.layout }

abbrev by : PageAct → lays.Ender A
by a = lays.by_act (act (oldsteps.does a))

abbrev Scopes : Type 0
Scopes = List (Scope Label Kept)

-- ---- leaves

leaf_items_law : (x : Step) (s : BodyState) → body_layout.leaf_items (leaf_old x) (to s) ≡ (step_gave x s).items
unfolding step_gave
leaf_items_law (new.reports m) s = refl
leaf_items_law _ s = refl

leaf_state_law : (x : Step) (s : BodyState) → body_layout.leaf_state (leaf_old x) (to s) ≡ to (step_gave x s).state
unfolding step_gave
leaf_state_law (new.reports m) s = refl
leaf_state_law _ s = refl

-- ---- siblings

after_law : (t : BlockForest) (s : BodyState) → lays.after body_layout (forest_old t) (to s) ≡ to (lay t s).state
unfolding lay
after_law new.none s = refl
after_law (new.leaf x next) s = ap (λ z. lays.after body_layout (forest_old next) z) (leaf_state_law x s) ∙ after_law next (step_gave x s).state
after_law (new.refused obstacle a next) s = after_law next s
after_law (new.node label event inside a next) s =
    let b = begin_gave event s in
    let i = lay inside b.state in
    let scope = scope_of label event s in
    ap (λ z. lays.after body_layout (forest_old next) (lays.closing_state body_layout scope (by a) z)) (after_law inside b.state)
    ∙ after_law next (end_gave scope a i.state).state
after_law (new.open_node label event inside) s = after_law inside (begin_gave event s).state

items_law : (t : BlockForest) (s : BodyState) → lays.lay body_layout (forest_old t) (to s) ≡ (lay t s).items
unfolding lay
items_law new.none s = refl
items_law (new.leaf x next) s =
    ap (λ xs. xs ++ lays.lay body_layout (forest_old next) (body_layout.leaf_state (leaf_old x) (to s))) (leaf_items_law x s)
    ∙ ap (λ z. (step_gave x s).items ++ lays.lay body_layout (forest_old next) z) (leaf_state_law x s)
    ∙ ap (λ xs. (step_gave x s).items ++ xs) (items_law next (step_gave x s).state)
items_law (new.refused obstacle a next) s = ap (λ xs. body_layout.leaf_items (act (refused obstacle a)) (to s) ++ xs) (items_law next s)
items_law (new.node label event inside a next) s =
    let b = begin_gave event s in
    let i = lay inside b.state in
    let scope = scope_of label event s in
    let e = end_gave scope a i.state in
    ap (λ z. b.items ++ lays.lay body_layout (forest_old inside) (to b.state) ++ lays.closing_items body_layout scope (by a) z
    ++ lays.lay body_layout (forest_old next) (lays.closing_state body_layout scope (by a) z)) (after_law inside b.state)
    ∙ ap (λ xs. b.items ++ xs ++ e.items ++ lays.lay body_layout (forest_old next) (to e.state)) (items_law inside b.state)
    ∙ ap (λ xs. b.items ++ i.items ++ e.items ++ xs) (items_law next e.state)
items_law (new.open_node label event inside) s =
    let b = begin_gave event s in
    let before = b.items ++ lays.lay body_layout (forest_old inside) (to b.state) in
    append-nil (before ++ []) ∙ append-nil before ∙ ap (λ xs. b.items ++ xs) (items_law inside b.state)

open_law : (t : BlockForest) (s : BodyState) → lays.open_in body_layout (forest_old t) (to s) ≡ (lay t s).scopes
unfolding lay
open_law new.none s = refl
open_law (new.leaf x next) s = ap (λ z. lays.open_in body_layout (forest_old next) z) (leaf_state_law x s) ∙ open_law next (step_gave x s).state
open_law (new.refused obstacle a next) s = open_law next s
open_law (new.node label event inside a next) s =
    let b = begin_gave event s in
    let i = lay inside b.state in
    let scope = scope_of label event s in
    ap (λ z. lays.open_in body_layout (forest_old next) (lays.closing_state body_layout scope (by a) z)) (after_law inside b.state)
    ∙ open_law next (end_gave scope a i.state).state
open_law (new.open_node label event inside) s =
    ap (λ (xs : Scopes). xs ++ (scope_of label event s ∷ [])) (open_law inside (begin_gave event s).state)

-- ---- the nodes that were open before

stay_items : (scopes : Scopes) (outer : List After) (s : BodyState) → AllStay outer → lays.lay_outer body_layout scopes (to s) (afters_old outer) ≡ []
stay_items scopes [] s p = refl
stay_items [] (new.stays ∷ outer) s p = refl
stay_items (scope ∷ scopes) (new.stays ∷ outer) s p = stay_items scopes outer s p
stay_items scopes (new.ended_by a siblings ∷ outer) s p = absurd p

stay_state : (scopes : Scopes) (outer : List After) (s : BodyState) → AllStay outer → lays.after_outer body_layout scopes (to s) (afters_old outer) ≡ to s
stay_state scopes [] s p = refl
stay_state [] (new.stays ∷ outer) s p = refl
stay_state (scope ∷ scopes) (new.stays ∷ outer) s p = stay_state scopes outer s p
stay_state scopes (new.ended_by a siblings ∷ outer) s p = absurd p

outer_items : (scopes : Scopes) (outer : List After) (l : LaidForest) → Proper outer
    → l.items ++ lays.lay_outer body_layout scopes (to l.state) (afters_old outer) ≡ (lay_outer scopes outer l).items
unfolding lay_outer
outer_items [] [] l p = append-nil l.items
outer_items [] (x ∷ outer) l p = append-nil l.items
outer_items (scope ∷ scopes) [] l p = append-nil l.items
outer_items (scope ∷ scopes) (new.stays ∷ outer) l p = ap (λ xs. l.items ++ xs) (stay_items scopes outer l.state p) ∙ append-nil l.items
outer_items (scope ∷ scopes) (new.ended_by a siblings ∷ outer) l p =
    let e = end_gave scope a l.state in
    let n = lay siblings e.state in
    let r = lays.lay_outer body_layout scopes (to n.state) (afters_old outer) in
    ap (λ z. l.items ++ (e.items ++ lays.lay body_layout (forest_old siblings) (to e.state) ++ lays.lay_outer body_layout scopes z (afters_old outer)))
    (after_law siblings e.state)
    ∙ ap (λ xs. l.items ++ (e.items ++ xs ++ r)) (items_law siblings e.state)
    ∙ sym (append_assoc l.items (e.items ++ n.items) r) ∙ ap (λ xs. xs ++ r) (sym (append_assoc l.items e.items n.items))
    ∙ outer_items scopes outer (record n { items = l.items ++ e.items ++ n.items }) p

outer_state : (scopes : Scopes) (outer : List After) (l : LaidForest) → Proper outer
    → lays.after_outer body_layout scopes (to l.state) (afters_old outer) ≡ to (lay_outer scopes outer l).state
unfolding lay_outer
outer_state [] [] l p = refl
outer_state [] (x ∷ outer) l p = refl
outer_state (scope ∷ scopes) [] l p = refl
outer_state (scope ∷ scopes) (new.stays ∷ outer) l p = stay_state scopes outer l.state p
outer_state (scope ∷ scopes) (new.ended_by a siblings ∷ outer) l p =
    let e = end_gave scope a l.state in
    let n = lay siblings e.state in
    ap (λ z. lays.after_outer body_layout scopes z (afters_old outer)) (after_law siblings e.state)
    ∙ outer_state scopes outer (record n { items = l.items ++ e.items ++ n.items }) p

outer_open : (scopes : Scopes) (outer : List After) (l : LaidForest)
    → lays.open_outer body_layout l.scopes scopes (to l.state) (afters_old outer) ≡ (lay_outer scopes outer l).scopes
unfolding lay_outer
outer_open [] [] l = refl
outer_open [] (x ∷ outer) l = sym (append-nil l.scopes)
outer_open (scope ∷ scopes) [] l = refl
outer_open (scope ∷ scopes) (new.stays ∷ outer) l = refl
outer_open (scope ∷ scopes) (new.ended_by a siblings ∷ outer) l =
    let e = end_gave scope a l.state in
    let n = lay siblings e.state in
    ap (λ z. lays.open_outer body_layout (lays.open_in body_layout (forest_old siblings) (to e.state)) scopes z (afters_old outer)) (after_law siblings e.state)
    ∙ ap (λ xs. lays.open_outer body_layout xs scopes (to n.state) (afters_old outer)) (open_law siblings e.state)
    ∙ outer_open scopes outer (record n { items = l.items ++ e.items ++ n.items })

-- ---- a body

module _ (b : BodyEdge) (steps : List Step) where
  abbrev at_first : BodyState
  at_first = record { header = b.header; layout = b.scopes.state }

  abbrev r : Rest
  r = tree_of b steps

  abbrev l : LaidForest
  l = lay r.here at_first

  r_law : lays.tree body_nesting b.scopes.mode (map (λ (scope : Scope Label Kept). scope.label) b.scopes.scopes) (map as_act steps) ≡ rest_old r
  r_law = tree_law steps b.scopes.mode (map (λ scope. scope.label) b.scopes.scopes)

  r_proper : Proper r.outer
  r_proper = tree_proper steps b.scopes.mode (map (λ scope. scope.label) b.scopes.scopes)

  pub tree_items_law : trees.tree_items b (map as_act steps) ≡ new.tree_items b steps
  unfolding lays.settled
  tree_items_law =
      ap (λ (q : OldRest). lays.lay_rest body_layout b.scopes.scopes (to at_first) q) r_law
      ∙ ap (λ z. lays.lay body_layout (forest_old r.here) (to at_first) ++ lays.lay_outer body_layout b.scopes.scopes z (afters_old r.outer)) (after_law r.here at_first)
      ∙ ap (λ xs. xs ++ lays.lay_outer body_layout b.scopes.scopes (to l.state) (afters_old r.outer)) (items_law r.here at_first)
      ∙ outer_items b.scopes.scopes r.outer l r_proper

  state_law : lays.after_rest body_layout b.scopes.scopes (to at_first) (rest_old r) ≡ to (laid_by b r).state
  state_law =
      ap (λ z. lays.after_outer body_layout b.scopes.scopes z (afters_old r.outer)) (after_law r.here at_first)
      ∙ outer_state b.scopes.scopes r.outer l r_proper

  scopes_law : lays.open_rest body_layout b.scopes.scopes (to at_first) (rest_old r) ≡ (laid_by b r).scopes
  scopes_law =
      ap (λ z. lays.open_outer body_layout (lays.open_in body_layout (forest_old r.here) (to at_first)) b.scopes.scopes z (afters_old r.outer)) (after_law r.here at_first)
      ∙ ap (λ xs. lays.open_outer body_layout xs b.scopes.scopes (to l.state) (afters_old r.outer)) (open_law r.here at_first)
      ∙ outer_open b.scopes.scopes r.outer l

  abbrev body_with : Bool → Scopes → OldState → BodyEdge
  body_with mode scopes s = record { header = s.own; scopes = record { mode = mode; scopes = scopes; state = s.rest } }

  pub tree_after_law : trees.tree_after b (map as_act steps) ≡ new.tree_after b steps
  unfolding lays.edge
  tree_after_law =
      ap (λ (q : OldRest). body_with (lays.mode_after body_nesting b.scopes.mode (map (λ (scope : Scope Label Kept). scope.label) b.scopes.scopes) (map as_act steps))
      (lays.open_rest body_layout b.scopes.scopes (to at_first) q) (lays.after_rest body_layout b.scopes.scopes (to at_first) q)) r_law
      ∙ ap (λ mode. body_with mode (lays.open_rest body_layout b.scopes.scopes (to at_first) (rest_old r))
      (lays.after_rest body_layout b.scopes.scopes (to at_first) (rest_old r))) (mode_law steps b.scopes.mode (map (λ scope. scope.label) b.scopes.scopes))
      ∙ ap (λ scopes. body_with r.skips scopes (lays.after_rest body_layout b.scopes.scopes (to at_first) (rest_old r))) scopes_law
      ∙ ap (λ s. body_with r.skips (laid_by b r).scopes s) state_law
