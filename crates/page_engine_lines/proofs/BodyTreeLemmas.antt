-- The block tree of a body gives what its events give one after another: helpers of proofs.
use Rattle.std.proofs.Common.{◌≡◌, ℕ, Bool, true, false, not, ◌&&◌, ◌⊎◌, inl, inr, List, [], ◌∷◌, ◌++◌, drop, map, refl, sym, ◌∙◌, ap, append_assoc, append-nil, if◌then◌else◌}
use Rattle.page_core_base.specs.Rows.{Item}
use Rattle.page_scopes.specs.Bodies.{begins}
use Rattle.page_scopes.specs.Bodies as scopes
use Rattle.page_scopes.specs.laws.Views as scopes_laws
use Rattle.page_scopes.specs.laws.Views.{layout_tables}
use Rattle.page_scopes.specs.declared.layouts.Kept.{Kept}
use Rattle.page_scopes.specs.declared.layouts.LayoutState.{LayoutState}
use Rattle.page_scopes_tree.specs.machine.Nestings.{With, act, aside, Beside, beside, before_leaf, step, step_items, placed_items, ended_items, count_ended, state_left, IsSound, standing_of}
use Rattle.page_scopes_tree.specs.Ends.{TreeEdge}
use Rattle.page_scopes_tree.specs.laws.Views.{labels, Step, comes, does, steps_of}
use Rattle.page_scopes_tree.proofs.EdgeLemmas.{sound_with, act_items, act_step, settled-append, edge-append, edge-run}
use Rattle.page_scopes_tree.proofs.RunLemmas.{settled-run}
use Rattle.page_scopes_tree.specs.machine.Stacks.{framed, scopes_nesting, step_standing}
use Rattle.page_core_base.specs.declared.limits.TheConstants.{SCOPES}
use Rattle.page_scopes_tree.specs.declared.acts.Act.{Act}
use Rattle.page_scopes_tree.specs.declared.acts.Act.TheVariants as acts
use Rattle.page_scopes_labels.specs.declared.labels.Label.{Label}
use Rattle.page_scopes_tree.proofs.FitLemmas.{scopes-sound, done-standing}
use Rattle.page_sets_lines.specs.declared.events.EventKind.{EventKind}
use Rattle.page_sets_lines.specs.declared.events.EventKind.TheVariants as kinds
use Rattle.page_sets_lines.specs.declared.events.Event.{Event}
use Rattle.page_sets_lines.specs.declared.leaves.Leaf.{Leaf}
use Rattle.page_sets_lines.specs.declared.leaves.Leaf.TheVariants as leaves
use Rattle.page_sets_names.specs.declared.macro_names.Prologue.{Prologue}
use Rattle.page_engine_lines.specs.Bodies.{BodyEdge, HeaderEdge}
use Rattle.page_engine_lines.specs.laws.Views.{begin_items, scope_items, with_scopes, kind_items, kind_after, event_items, event_after, events_items, events_after, end_items}
use Rattle.page_engine_lines.specs.Trees.{header_at}
use Rattle.page_engine_lines.specs.machine.Lines.{Aside, titles, closes, kind_steps, events_steps, page_end_steps, body_sides, body_nesting, body_layout, opened, body_of, tree_items, tree_after}

sound : IsSound body_nesting SCOPES
sound = sound_with scopes_nesting SCOPES scopes-sound

-- ---- cut anywhere

pub tree_items-append : (b : BodyEdge) (above below : List (With Aside Step))
    → tree_items b (above ++ below) ≡ tree_items b above ++ tree_items (tree_after b above) below
tree_items-append b above below = settled-append body_nesting sound body_layout (opened b) above below

pub tree_after-append : (b : BodyEdge) (above below : List (With Aside Step))
    → tree_after b (above ++ below) ≡ tree_after (tree_after b above) below
tree_after-append b above below = ap body_of (edge-append body_nesting sound body_layout (opened b) above below)

pub tree_items-none : (b : BodyEdge) → tree_items b [] ≡ []
tree_items-none b = settled-run body_nesting sound body_layout (opened b) []

pub tree_after-none : (b : BodyEdge) → tree_after b [] ≡ b
tree_after-none b = ap body_of (edge-run body_nesting sound body_layout (opened b) [])

-- ---- asides

pub aside_items_is : (b : BodyEdge) (y : Aside) → tree_items b (aside y ∷ []) ≡ body_sides.items y b.header b.scopes.state
aside_items_is b y =
    settled-run body_nesting sound body_layout (opened b) (aside y ∷ []) ∙ append-nil (body_sides.items y b.header b.scopes.state)

pub aside_after_is : (b : BodyEdge) (y : Aside)
    → tree_after b (aside y ∷ []) ≡ record { header = body_sides.own y b.header b.scopes.state; scopes = b.scopes }
aside_after_is b y = ap body_of (edge-run body_nesting sound body_layout (opened b) (aside y ∷ []))

-- ---- acts

before_comes : (mode : Bool) (event : Event (List ℕ)) (nodes : List Label) (h : HeaderEdge) (s : LayoutState)
    → before_leaf body_sides (step_standing mode (comes event) 0 nodes) h s
    ≡ (if not mode && begins event.kind s.has_begun then header_at event.place.line h else [])
before_comes true event nodes h s = refl
before_comes false event nodes h s = refl

-- the header is before no act that is done
before_done : (mode : Bool) (a : Act (Event (List ℕ))) (n : ℕ) (nodes : List Label) (h : HeaderEdge) (s : LayoutState)
    → before_leaf body_sides (step_standing mode (does a) n nodes) h s ≡ []
before_done mode a n nodes h s =
    done-standing (λ st. before_leaf body_sides st h s ≡ [])
    (record { node = λ l. refl; leaf = λ a. refl; refusal = λ o a. refl; nothing = refl }) mode a n nodes

done_items : (h : HeaderEdge) (d : scopes.PageEdge) (a : Act (Event (List ℕ)))
    → step_items body_nesting body_layout (beside h d) (act (does a)) ≡ step_items scopes_nesting (framed layout_tables) d (does a)
done_items h d a =
    let n = count_ended scopes_nesting d (does a) in
    let s = state_left scopes_nesting (framed layout_tables) d (does a) in
    let st = standing_of scopes_nesting d.mode (does a) (labels d.scopes) in
    act_items scopes_nesting (framed layout_tables) body_sides h d (does a)
    ∙ ap (λ (t : List Item). ended_items (framed layout_tables) n (does a) d.scopes d.state ++ (t ++ placed_items (framed layout_tables) st (does a) s))
    (before_done d.mode a n (drop n (labels d.scopes)) h s)

comes_items : (h : HeaderEdge) (d : scopes.PageEdge) (event : Event (List ℕ))
    → step_items body_nesting body_layout (beside h d) (act (comes event))
    ≡ (if scopes_laws.begins_body d event then header_at event.place.line h else []) ++ step_items scopes_nesting (framed layout_tables) d (comes event)
comes_items h d event =
    let st = standing_of scopes_nesting d.mode (comes event) (labels d.scopes) in
    act_items scopes_nesting (framed layout_tables) body_sides h d (comes event)
    ∙ ap (λ (t : List Item). t ++ placed_items (framed layout_tables) st (comes event) d.state)
    (before_comes d.mode event (labels d.scopes) h d.state)

-- an event that is no macro of the prologue
plain_items : (b : BodyEdge) (event : Event (List ℕ)) → tree_items b (map act (steps_of event)) ≡ scope_items b event
plain_items b event =
    let d = b.scopes in
    let lays = framed layout_tables in
    let c = comes event in
    let a = does (acts.Event event) in
    let d1 = step scopes_nesting lays d c in
    let first = step_items scopes_nesting lays d c in
    let second = step_items scopes_nesting lays d1 a in
    let begin = begin_items b event in
    let tail : TreeEdge Bool Label (Beside HeaderEdge LayoutState) Kept → List Item =
    λ x. step_items body_nesting body_layout x (act a) ++ [] in
    settled-run body_nesting sound body_layout (opened b) (map act (steps_of event))
    ∙ ap (λ (t : List Item). t ++ tail (step body_nesting body_layout (opened b) (act c))) (comes_items b.header d event)
    ∙ ap (λ x. (begin ++ first) ++ tail x) (act_step scopes_nesting lays body_sides b.header d c)
    ∙ ap (λ (t : List Item). (begin ++ first) ++ (t ++ [])) (done_items b.header d1 (acts.Event event))
    ∙ append_assoc begin first (second ++ [])
    ∙ ap (λ (t : List Item). begin ++ t) (sym (settled-run scopes_nesting scopes-sound lays d (steps_of event)))

plain_after : (b : BodyEdge) (event : Event (List ℕ)) → tree_after b (map act (steps_of event)) ≡ with_scopes b (scopes_laws.event_after b.scopes event)
plain_after b event =
    let d = b.scopes in
    let lays = framed layout_tables in
    let c = comes event in
    let a = does (acts.Event event) in
    let d1 = step scopes_nesting lays d c in
    ap body_of (edge-run body_nesting sound body_layout (opened b) (map act (steps_of event))
    ∙ ap (λ x. step body_nesting body_layout x (act a)) (act_step scopes_nesting lays body_sides b.header d c)
    ∙ act_step scopes_nesting lays body_sides b.header d1 a)
    ∙ ap (λ x. with_scopes b x) (sym (edge-run scopes_nesting scopes-sound lays d (steps_of event)))

-- ---- events

-- a macro of the prologue, or an event of the scopes
IsTitle : EventKind (List ℕ) → Type 0
IsTitle kind = (name : Prologue) × (rest : List ℕ) × (kind ≡ kinds.Leaf (leaves.Prologue name rest))

record IsPlain (kind : EventKind (List ℕ)) : Type 0 where
  pub steps : (event : Event (List ℕ)) → kind_steps kind event ≡ map act (steps_of event)
  pub items : (b : BodyEdge) (event : Event (List ℕ)) → kind_items kind b event ≡ scope_items b event
  pub after : (b : BodyEdge) (event : Event (List ℕ)) → kind_after kind b event ≡ with_scopes b (scopes_laws.event_after b.scopes event)

leaf_kinds : (l : Leaf (List ℕ)) → IsTitle (kinds.Leaf l) ⊎ IsPlain (kinds.Leaf l)
unfolding IsTitle
leaf_kinds (leaves.Prologue name rest) = inl (name, rest, refl)
leaf_kinds _ = inr (record { steps = λ e. refl; items = λ b e. refl; after = λ b e. refl })

event_kinds : (kind : EventKind (List ℕ)) → IsTitle kind ⊎ IsPlain kind
event_kinds (kinds.Leaf l) = leaf_kinds l
event_kinds _ = inr (record { steps = λ e. refl; items = λ b e. refl; after = λ b e. refl })

Same : EventKind (List ℕ) → BodyEdge → Event (List ℕ) → Type 0
Same kind b event = (tree_items b (kind_steps kind event) ≡ kind_items kind b event) × (tree_after b (kind_steps kind event) ≡ kind_after kind b event)

kind_same : (kind : EventKind (List ℕ)) (b : BodyEdge) (event : Event (List ℕ)) → Same kind b event
unfolding IsTitle Same
kind_same kind b event = elim (event_kinds kind) [
  | inl t ↦ rw t.2 (aside_items_is b (titles event.place t.0 t.1), aside_after_is b (titles event.place t.0 t.1))
  | inr p ↦ rw (p.steps event, p.items b event, p.after b event) (plain_items b event, plain_after b event)
]

abbrev event_steps : Event (List ℕ) → List (With Aside Step)
event_steps event = kind_steps event.kind event

pub event_tree : (b : BodyEdge) (event : Event (List ℕ)) → (tree_items b (event_steps event) ≡ event_items b event) × (tree_after b (event_steps event) ≡ event_after b event)
unfolding event_items event_after Same
event_tree b event = kind_same event.kind b event

pub events_tree_items : (b : BodyEdge) (events : List (Event (List ℕ))) → tree_items b (events_steps events) ≡ events_items b events
unfolding events_items
events_tree_items b [] = tree_items-none b
events_tree_items b (event ∷ events) =
    tree_items-append b (event_steps event) (events_steps events)
    ∙ ap (λ (t : List Item). t ++ tree_items (tree_after b (event_steps event)) (events_steps events)) (event_tree b event).0
    ∙ ap (λ (c : BodyEdge). event_items b event ++ tree_items c (events_steps events)) (event_tree b event).1
    ∙ ap (λ (t : List Item). event_items b event ++ t) (events_tree_items (event_after b event) events)

pub events_tree_after : (b : BodyEdge) (events : List (Event (List ℕ))) → tree_after b (events_steps events) ≡ events_after b events
unfolding events_after
events_tree_after b [] = tree_after-none b
events_tree_after b (event ∷ events) =
    tree_after-append b (event_steps event) (events_steps events)
    ∙ ap (λ (c : BodyEdge). tree_after c (events_steps events)) (event_tree b event).1
    ∙ events_tree_after (event_after b event) events

-- ---- the language

-- events leave the language as it was
Keeps : BodyEdge → BodyEdge → Type 0
Keeps next b = (next.header.set ≡ b.header.set) × (next.header.is_decided ≡ b.header.is_decided)

kind_keeps : (kind : EventKind (List ℕ)) (b : BodyEdge) (event : Event (List ℕ)) → Keeps (kind_after kind b event) b
unfolding IsTitle Keeps
kind_keeps kind b event = elim (event_kinds kind) [
  | inl t ↦ rw t.2 (refl, refl)
  | inr p ↦ rw (p.after b event) (refl, refl)
]

pub events_keep : (b : BodyEdge) (events : List (Event (List ℕ)))
    → ((events_after b events).header.set ≡ b.header.set) × ((events_after b events).header.is_decided ≡ b.header.is_decided)
unfolding event_after events_after Keeps
events_keep b [] = (refl, refl)
events_keep b (event ∷ events) =
    let first = kind_keeps event.kind b event in
    let next = events_keep (event_after b event) events in
    (next.0 ∙ first.0, next.1 ∙ first.1)

-- ---- the page's end

pub end_tree : (b : BodyEdge) (line : ℕ) → tree_items b (page_end_steps line) ≡ end_items b line
unfolding end_items
end_tree b line =
    let a = does (acts.PageEnd line) in
    let late = body_sides.items (closes line) b.header b.scopes.state in
    settled-run body_nesting sound body_layout (opened b) (page_end_steps line)
    ∙ ap (λ (t : List Item). late ++ (t ++ [])) (done_items b.header b.scopes (acts.PageEnd line))
    ∙ ap (λ (t : List Item). late ++ t) (sym (settled-run scopes_nesting scopes-sound (framed layout_tables) b.scopes (a ∷ [])))
