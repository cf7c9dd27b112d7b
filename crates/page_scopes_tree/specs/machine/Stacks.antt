-- A machine: the nesting of scopes: the tables of events as those of the block tree of any language. Trust needs no reading of it.
use Rattle.std.specs.Prelude.{ℕ, Bool, List, if◌then◌else◌, ◌++◌, ◌≡◌, true, false, not, reverse, vec_capacity}
use Rattle.page_scopes_tree.specs.machine.Nestings.{Nesting, Standing, as_node, as_leaf, as_nothing, Layout, step, step_items}
use Rattle.page_scopes_tree.specs.laws.Views.{Step, comes, does, labels, in_enclosure}
use Rattle.page_scopes_tree.specs.Ends.{act_ends, event_of, TreeEdge}
use Rattle.page_scopes_tree.specs.Placements.{act_placement, act_skips, is_passed_over, broken_notes, obstacle_notes, in_line_scope}
use Rattle.page_sets_lines.specs.declared.events.Event.{Event}
use Rattle.page_scopes_tree.specs.declared.acts.Act.{Act}
use Rattle.page_scopes_labels.specs.declared.labels.Label.{Label}
use Rattle.page_scopes_tree.specs.declared.placements.Placement.{Placement}
use Rattle.page_scopes_tree.specs.declared.placements.Placement.TheVariants as placements
use Rattle.page_scopes_tree.specs.declared.placements.Obstacle.{Obstacle}
use Rattle.page_core_base.specs.Rows.{Item}
use Rattle.page_core_base.specs.declared.places.Place.{Place}
use Rattle.page_scopes_tree.specs.declared.acts.Act.TheVariants as acts
use Rattle.std.specs.Global.{Vec}
use Rattle.page_core_base.specs.laws.Views.{Came}
use Rattle.page_scopes_tree.specs.declared.nestings.Scope.{Scope}
use Rattle.page_sets_lines.specs.declared.events.EventKind.{EventKind}
use Rattle.page_sets_lines.specs.declared.events.EventKind.TheVariants as kinds
use Rattle.page_sets_lines.specs.declared.openers.Closer.{Closer}
use Rattle.page_sets_lines.specs.declared.openers.Closer.TheVariants as closers

-- what a leaf is: an event that comes, an act that opens and closes nothing, or one that is refused
pub data Fact : Type 0 where
  coming : Event (List ℕ) → Fact
  standing : Act (Event (List ℕ)) → Fact
  refused : Obstacle → Act (Event (List ℕ)) → Fact

abbrev pub standing_by : Act (Event (List ℕ)) → Placement → Standing Label Fact
standing_by act (placements.Node label) = as_node label
standing_by act placements.Leaf = as_leaf (standing act)
standing_by act (placements.Refused obstacle) = as_leaf (refused obstacle act)
standing_by act placements.Nothing = as_nothing

abbrev pub step_ends : Bool → Step → List Label → ℕ
step_ends skips (comes event) nodes = 0
step_ends skips (does act) nodes = if is_passed_over skips act then 0 else act_ends act nodes

abbrev pub step_standing : Bool → Step → ℕ → List Label → Standing Label Fact
step_standing skips (comes event) n remaining = if skips then as_nothing else as_leaf (coming event)
step_standing skips (does act) n remaining = if is_passed_over skips act then as_nothing else standing_by act (act_placement act n remaining)

abbrev pub step_skips : Bool → Step → ℕ → List Label → Bool
step_skips skips (comes event) n remaining = skips
step_skips skips (does act) n remaining = act_skips skips act n remaining

-- the tables of events as a nesting of scopes
abbrev pub scopes_nesting : Nesting Bool Label Step Fact
scopes_nesting = record { ends = step_ends; standing = step_standing; mode = step_skips }

-- ---- A machine: the frame of a layout: messages of scopes that are broken and of events that are refused, before what the layout itself gives.
-- Trust needs no reading of it.

-- The tables of a layout over a state: what a scope keeps of the state before it; what its opener gives, an event that comes, an act that opens and
-- closes nothing, and a scope's end at a place; and the state after each.
pub record Tables (S B : Type 0) : Type 0 where
  pub keep : Label → Event (List ℕ) → S → B
  pub begin_items : Label → Event (List ℕ) → S → List Item
  pub begin_state : Label → Event (List ℕ) → S → S
  pub coming_items : Event (List ℕ) → S → List Item
  pub coming_state : Event (List ℕ) → S → S
  pub leaf_items : Act (Event (List ℕ)) → S → List Item
  pub leaf_state : Act (Event (List ℕ)) → S → S
  pub end_items : Label → B → Place → S → List Item
  pub end_state : Label → B → Place → S → S

abbrev pub act_of : Step → Act (Event (List ℕ))
act_of (comes event) = acts.Event event
act_of (does act) = act

abbrev pub fact_items : {S B : Type 0} → Tables S B → Fact → S → List Item
fact_items tables (coming event) s = tables.coming_items event s
fact_items tables (standing act) s = tables.leaf_items act s
fact_items tables (refused obstacle act) s = obstacle_notes obstacle act

abbrev pub fact_state : {S B : Type 0} → Tables S B → Fact → S → S
fact_state tables (coming event) s = tables.coming_state event s
fact_state tables (standing act) s = tables.leaf_state act s
fact_state tables (refused obstacle act) s = s

-- the end of a scope gives its message, and then what the layout gives
abbrev pub framed : {S B : Type 0} → Tables S B → Layout Label Step Fact S B Item
framed tables = record {
  keep = λ label step s. tables.keep label (event_of (act_of step)) s;
  begin_items = λ label step s. tables.begin_items label (event_of (act_of step)) s;
  begin_state = λ label step s. tables.begin_state label (event_of (act_of step)) s;
  leaf_items = λ fact s. fact_items tables fact s;
  leaf_state = λ fact s. fact_state tables fact s;
  end_items = λ label before step s. broken_notes (act_of step) label ++ tables.end_items label before (event_of (act_of step)).place s;
  end_state = λ label before step s. tables.end_state label before (event_of (act_of step)).place s;
}

-- ---- The code's own stack, a vector with the outermost scope first, and the acts that end no scope and open none. Source: man(7).

-- the stack has these scopes now, the innermost first, and its room is as before
abbrev pub Keeps : {B : Type 0} → Vec (Scope Label B) → Vec (Scope Label B) → List (Scope Label B) → Type 0
Keeps old new scopes = (reverse new.items ≡ scopes) × (vec_capacity new ≡ vec_capacity old)

-- what decides the rest, by the parts of a stack
abbrev pub stack_edge : {S B : Type 0} → Bool → Vec (Scope Label B) → S → TreeEdge Bool Label S B
stack_edge skips scopes state = record { mode = skips; scopes = reverse scopes.items; state = state }

-- what becomes of an act that ended this many scopes and leaves these
abbrev pub stack_standing : {B : Type 0} → Act (Event (List ℕ)) → ℕ → Vec (Scope Label B) → Standing Label Fact
stack_standing act count scopes = standing_by act (act_placement act count (labels (reverse scopes.items)))

-- A word, and the end of a line where the innermost scope is no line scope: they end no scope and open none, and are leaves.
abbrev pub kind_stands_alone : EventKind (List ℕ) → List Label → Bool
kind_stands_alone (kinds.Word word) nodes = true
kind_stands_alone (kinds.End fills) nodes = not (in_line_scope nodes)
kind_stands_alone _ nodes = false

abbrev pub stands_alone : Act (Event (List ℕ)) → List Label → Bool
stands_alone (acts.Event event) nodes = kind_stands_alone event.kind nodes
stands_alone (acts.PageEnd line) nodes = false

-- A break of line scopes where the innermost scope is none, and an end of enclosures where it is none: it does nothing.
abbrev pub closer_is_idle : Closer (List ℕ) → List Label → Bool
closer_is_idle closers.Line nodes = not (in_line_scope nodes)
closer_is_idle closers.Enclosures nodes = not (in_enclosure nodes)
closer_is_idle _ nodes = false

abbrev pub kind_is_idle : EventKind (List ℕ) → List Label → Bool
kind_is_idle (kinds.Close closer) nodes = closer_is_idle closer nodes
kind_is_idle _ nodes = false

abbrev pub is_idle : Act (Event (List ℕ)) → List Label → Bool
is_idle (acts.Event event) nodes = kind_is_idle event.kind nodes
is_idle (acts.PageEnd line) nodes = false

-- a step was taken from an edge: what it settles came to a latch, and this edge is after it
pub record TakesStep {P O S B : Type 0} (left : P → O → List Item → Type 0) (tables : Tables S B) (taken : Step) (before : TreeEdge Bool Label S B) (out : O)
    (after : TreeEdge Bool Label S B) (next : O) : Type 0 where
  pub came : Came left out (step_items scopes_nesting (framed tables) before taken) next
  pub edge : after ≡ step scopes_nesting (framed tables) before taken
