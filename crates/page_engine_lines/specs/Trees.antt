-- The body of a page: the block tree of its steps inside the open scopes, and what it gives, laid out sibling after sibling.
-- Source: man(7), "MACRO OVERVIEW"; mdoc(7), "MACRO REFERENCE"; mandoc(1), "ASCII Output" and "DIAGNOSTICS".
use Rattle.std.specs.Prelude.{ℕ, List, [], ◌∷◌, flat_map, Bool, zero, suc, drop, map, if◌then◌else◌, ◌++◌}
use Rattle.page_core_base.specs.Messages.{Message}
use Rattle.page_core_base.specs.Rows.{Item, noted, says}
use Rattle.page_core_base.specs.declared.note_kinds.NoteKind.TheVariants.{NoBody}
use Rattle.page_core_base.specs.declared.places.Place.{Place}
use Rattle.page_sets_names.specs.declared.macro_names.Prologue.{Prologue as PrologueName}
use Rattle.page_sets_lines.specs.declared.events.Event.{Event}
use Rattle.page_sets_lines.specs.declared.events.EventKind.{EventKind}
use Rattle.page_sets_lines.specs.declared.events.EventKind.TheVariants.{Leaf}
use Rattle.page_sets_lines.specs.declared.leaves.Leaf.TheVariants.{Prologue}
use Rattle.page_scopes_labels.specs.declared.labels.Label.{Label}
use Rattle.page_scopes_tree.specs.Ends.{event_of, act_ends}
use Rattle.page_scopes_tree.specs.Placements.{act_placement, act_skips, is_passed_over, broken_notes, obstacle_notes}
use Rattle.page_scopes_tree.specs.declared.acts.Act.{Act}
use Rattle.page_scopes_tree.specs.declared.acts.Act.TheVariants as acts
use Rattle.page_scopes_tree.specs.declared.nestings.Scope.{Scope}
use Rattle.page_scopes_tree.specs.declared.placements.Obstacle.{Obstacle}
use Rattle.page_scopes_tree.specs.declared.placements.Placement.{Placement}
use Rattle.page_scopes_tree.specs.declared.placements.Placement.TheVariants as placements
use Rattle.page_scopes_words.specs.Words.{at}
use Rattle.page_scopes_phrases.specs.Phrases.{EventOutcome}
use Rattle.page_scopes_nodes.specs.Begins.{begun_by}
use Rattle.page_scopes_nodes.specs.Ends as ends
use Rattle.page_scopes.specs.Bodies.{act_name, begins, begun_after, coming, stands, kept}
use Rattle.page_scopes.specs.declared.layouts.Kept.{Kept}
use Rattle.page_scopes.specs.declared.layouts.LayoutState.{LayoutState}
use Rattle.page_engine_header.specs.Header.{header_items}
use Rattle.page_engine_lines.specs.Bodies.{HeaderEdge, is_mdoc, title_items, title_fields, BodyEdge}

-- ---- the steps of a page

abbrev pub PageEvent : Type 0
PageEvent = Event (List ℕ)

abbrev pub PageAct : Type 0
PageAct = Act (Event (List ℕ))

-- A message; a macro of the prologue, with the rest of its line. An event comes: it may begin the body, and its closer's number is read; then it does what
-- it does. The body closes, on a line, before the page's end ends its scopes.
pub data Step : Type 0 where
  reports : Message → Step
  titles : Place → PrologueName → List ℕ → Step
  comes : PageEvent → Step
  does : PageAct → Step
  closes : ℕ → Step

-- a macro of the prologue sets the fields, even where events are passed over
abbrev pub kind_steps : EventKind (List ℕ) → PageEvent → List Step
kind_steps (Leaf (Prologue name rest)) event = titles event.place name rest ∷ []
kind_steps _ event = comes event ∷ does (acts.Event event) ∷ []

abbrev pub events_steps : List PageEvent → List Step
events_steps events = flat_map (λ (event : PageEvent). kind_steps event.kind event) events

abbrev pub page_end_steps : ℕ → List Step
page_end_steps line = closes line ∷ does (acts.PageEnd line) ∷ []

-- ---- the block tree

-- Siblings: none; a leaf, or an event that is refused, and those after it; a node, with what is in it, the act that ends it and those after it; or, at
-- last, a node that is still open.
pub data BlockForest : Type 0 where
  none : BlockForest
  leaf : Step → BlockForest → BlockForest
  refused : Obstacle → PageAct → BlockForest → BlockForest
  node : Label → PageEvent → BlockForest → PageAct → BlockForest → BlockForest
  open_node : Label → PageEvent → BlockForest → BlockForest

-- what ends an open node, and follows it in the one around it; or it stays open
pub data After : Type 0 where
  ended_by : PageAct → BlockForest → After
  stays : After

-- What steps are inside open nodes: what goes into the innermost, and what comes after each, the innermost first; and whether the rest of a line is passed
-- over after them.
pub record Rest : Type 0 where
  pub here : BlockForest
  pub outer : List After
  pub skips : Bool

-- the rest inside a node, seen from the one around it
abbrev pub around_node : Label → PageEvent → Rest → List After → Rest
around_node label event r [] = record r { here = open_node label event r.here; outer = [] }
around_node label event r (stays ∷ outer) = record r { here = open_node label event r.here; outer = outer }
around_node label event r (ended_by act siblings ∷ outer) = record r { here = node label event r.here act siblings; outer = outer }

-- an act ends this many nodes before what follows
abbrev pub after_ends : ℕ → PageAct → Rest → Rest
after_ends zero act r = r
after_ends (suc n) act r = let inside = after_ends n act r in record inside { here = none; outer = ended_by act inside.here ∷ inside.outer }

-- the act itself, before the rest inside the nodes that it leaves
abbrev pub placed : Placement → PageAct → List Label → (List Label → Rest) → Rest
placed (placements.Node label) act nodes rest = let r = rest (label ∷ nodes) in around_node label (event_of act) r r.outer
placed placements.Leaf act nodes rest = let r = rest nodes in record r { here = leaf (does act) r.here }
placed (placements.Refused obstacle) act nodes rest = let r = rest nodes in record r { here = refused obstacle act r.here }
placed placements.Nothing act nodes rest = rest nodes

unfoldable pub tree : Bool → List Label → List Step → Rest
tree skips nodes [] = record { here = none; outer = map (λ label. stays) nodes; skips = skips }
tree skips nodes (does act ∷ steps) =
    if is_passed_over skips act then tree skips nodes steps
    else (let n = act_ends act nodes in
    let remaining = drop n nodes in
    after_ends n act (placed (act_placement act n remaining) act remaining (λ inside. tree (act_skips skips act n remaining) inside steps)))
tree skips nodes (comes event ∷ steps) =
    let r = tree skips nodes steps in if skips then r else record r { here = leaf (comes event) r.here }
tree skips nodes (step ∷ steps) = let r = tree skips nodes steps in record r { here = leaf step r.here }

-- ---- what it gives

-- the header's fields, and what the page is formatted by
pub record BodyState : Type 0 where
  pub header : HeaderEdge
  pub layout : LayoutState

pub record LaidStep : Type 0 where
  pub items : List Item
  pub state : BodyState

abbrev pub gave : List Item → BodyState → LaidStep
gave items s = record { items = items; state = s }

abbrev pub with_layout : LayoutState → BodyState → BodyState
with_layout layout s = record s { layout = layout }

-- what is given while the page is formatted
abbrev pub formats : EventOutcome → BodyState → LaidStep
formats o s = gave o.items (with_layout (record s.layout { formatting = o.state }) s)

abbrev pub header_at : ℕ → HeaderEdge → List Item
header_at line h = header_items (is_mdoc h.set) h.measure (at line 1) h.fields

-- The header is before the event that begins the body. At the page's end one that is missing comes with a message.
unfoldable pub step_gave : Step → BodyState → LaidStep
step_gave (reports m) s = gave (noted m ∷ []) s
step_gave (titles place name rest) s =
    gave (title_items s.layout.has_begun place name rest)
    (record s { header = record s.header { fields = title_fields s.layout.has_begun name s.header.os rest s.header.fields } })
step_gave (comes event) s =
    gave ((if begins event.kind s.layout.has_begun then header_at event.place.line s.header else [])
    ++ coming event.place event.kind s.layout.formatting.context s.layout.has_begun)
    (with_layout (record s.layout { has_begun = begun_after event.kind s.layout.has_begun }) s)
step_gave (does act) s =
    let g = formats (stands s.layout.page.output act s.layout.name s.layout.has_begun s.layout.formatting) s in
    record g { state = with_layout (record g.state.layout { name = act_name act s.layout.name }) g.state }
step_gave (closes line) s =
    gave (if s.layout.has_begun then [] else (header_at line s.header ++ says NoBody (at line 1) [] ∷ [])) s

-- a scope begins by its event; it ends by an act, with a message where that is not its own closer
abbrev pub scope_of : Label → PageEvent → BodyState → Scope Label Kept
scope_of label event s = record { label = label; before = kept event s.layout }

abbrev pub begin_gave : PageEvent → BodyState → LaidStep
begin_gave event s = formats (begun_by s.layout.page event s.layout.formatting) s

abbrev pub end_gave : Scope Label Kept → PageAct → BodyState → LaidStep
end_gave scope act s =
    let g = formats (ends.ended scope.label scope.before.context scope.before.target (event_of act).place s.layout.formatting) s in
    record g { items = broken_notes act scope.label ++ g.items }

-- what siblings give, the state after them, and the scopes that are still open in them, the innermost first
pub record LaidForest : Type 0 where
  pub items : List Item
  pub state : BodyState
  pub scopes : List (Scope Label Kept)

unfoldable pub lay : BlockForest → BodyState → LaidForest
lay none s = record { items = []; state = s; scopes = [] }
lay (leaf step next) s =
    let g = step_gave step s in
    let n = lay next g.state in
    record n { items = g.items ++ n.items }
lay (refused obstacle act next) s = let n = lay next s in record n { items = obstacle_notes obstacle act ++ n.items }
lay (node label event inner act next) s =
    let b = begin_gave event s in
    let i = lay inner b.state in
    let e = end_gave (scope_of label event s) act i.state in
    let n = lay next e.state in
    record n { items = b.items ++ i.items ++ e.items ++ n.items }
lay (open_node label event inner) s =
    let b = begin_gave event s in
    let i = lay inner b.state in
    record i { items = b.items ++ i.items; scopes = i.scopes ++ scope_of label event s ∷ [] }

-- after what goes into the innermost of the scopes that were open before: what ends them, and follows them
unfoldable pub lay_outer : List (Scope Label Kept) → List After → LaidForest → LaidForest
lay_outer (scope ∷ scopes) (ended_by act siblings ∷ outer) l =
    let e = end_gave scope act l.state in
    let n = lay siblings e.state in
    lay_outer scopes outer (record n { items = l.items ++ e.items ++ n.items })
lay_outer scopes outer l = record l { scopes = l.scopes ++ scopes }

-- ---- a body

abbrev pub tree_of : BodyEdge → List Step → Rest
tree_of b steps = tree b.scopes.mode (map (λ scope. scope.label) b.scopes.scopes) steps

abbrev pub laid_by : BodyEdge → Rest → LaidForest
laid_by b r = lay_outer b.scopes.scopes r.outer (lay r.here (record { header = b.header; layout = b.scopes.state }))

-- the pieces and messages of steps, inside the open scopes; and the body after them
abbrev pub tree_items : BodyEdge → List Step → List Item
tree_items b steps = (laid_by b (tree_of b steps)).items

abbrev pub tree_after : BodyEdge → List Step → BodyEdge
tree_after b steps =
    let r = tree_of b steps in
    let l = laid_by b r in
    record { header = l.state.header; scopes = record { mode = r.skips; scopes = l.scopes; state = l.state.layout } }
