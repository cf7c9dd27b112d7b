-- What contracts of the code say by the definitions, and what is proved of these.
use Rattle.std.specs.Prelude.{ℕ, List, [], ◌∷◌, Bool, not, ◌&&◌, ◌≤◌, length, IfSome, Option, unwrap_or, ◌≡◌, None, Some, Result, Err, option_map, MatchResult}
use Rattle.page_core_base.specs.Limits.{FIELD, COLUMNS, SCOPES}
use Rattle.page_core_base.specs.Rows.{Item}
use Rattle.page_core_base.specs.laws.Views.{Emits}
use Rattle.page_core_base.specs.declared.faults.Fault.{Fault}
use Rattle.page_core_base.specs.declared.faults.Fault.TheVariants.{Failed}
use Rattle.page_core_base.specs.declared.page_settings.Settings.{Settings}
use Rattle.page_sets_lines.specs.declared.events.Event.{Event}
use Rattle.page_scopes_labels.specs.declared.labels.Label.{Label}
use Rattle.page_scopes_tree.specs.laws.Edges.{events_items, events_edge, page_end_items, page_end_edge}
use Rattle.page_scopes_tree.specs.machine.Stacks.{Tables}
use Rattle.page_scopes_tree.specs.declared.nestings.Scope.{Scope}
use Rattle.page_scopes_layout.specs.declared.contexts.Context.{Context}
use Rattle.page_scopes_phrases.specs.Phrases.{EventOutcome}
use Rattle.page_scopes_nodes.specs.Begins.{begun_by}
use Rattle.page_scopes_nodes.specs.Ends.{ended}
use Rattle.page_scopes_nodes.specs.declared.page_layouts.PageLayout.{PageLayout}
use Rattle.page_scopes.specs.Bodies.{kept, act_name, begun_after, coming, stands, PageEdge, begins, start_edge}
use Rattle.page_scopes.specs.declared.layouts.Kept.{Kept}
use Rattle.page_scopes.specs.declared.layouts.LayoutState.{LayoutState}

-- what an outcome leaves
abbrev pub leaves : LayoutState → EventOutcome → LayoutState
leaves s o = record s { formatting = o.state }

abbrev pub layout_tables : Tables LayoutState Kept
layout_tables = record {
  keep = λ label event s. kept event s;
  begin_items = λ label event s. (begun_by s.page event s.formatting).items;
  begin_state = λ label event s. leaves s (begun_by s.page event s.formatting);
  coming_items = λ event s. coming event.place event.kind s.formatting.context s.has_begun;
  coming_state = λ event s. record s { has_begun = begun_after event.kind s.has_begun };
  leaf_items = λ act s. (stands s.page.output act s.name s.has_begun s.formatting).items;
  leaf_state = λ act s. record (leaves s (stands s.page.output act s.name s.has_begun s.formatting)) { name = act_name act s.name };
  end_items = λ label before place s. (ended label before.context before.target place s.formatting).items;
  end_state = λ label before place s. leaves s (ended label before.context before.target place s.formatting);
}

-- an edge, of a page that is laid out so
abbrev pub under : PageLayout → PageEdge → PageEdge
under page edge = record edge { state = record edge.state { page = page } }

-- events, one after another
abbrev pub scopes_items : PageEdge → List (Event (List ℕ)) → List Item
scopes_items edge events = events_items layout_tables edge events

abbrev pub scopes_after : PageEdge → List (Event (List ℕ)) → PageEdge
scopes_after edge events = events_edge layout_tables edge events

-- an event
abbrev pub event_items : PageEdge → Event (List ℕ) → List Item
event_items edge event = scopes_items edge (event ∷ [])

abbrev pub event_after : PageEdge → Event (List ℕ) → PageEdge
event_after edge event = scopes_after edge (event ∷ [])

-- the page's end on a line: all scopes end, and the row
abbrev pub end_items : PageEdge → ℕ → List Item
end_items edge line = page_end_items layout_tables edge line

abbrev pub end_after : PageEdge → ℕ → PageEdge
end_after edge line = page_end_edge layout_tables edge line

-- whether an event begins the page's body
abbrev pub begins_body : PageEdge → Event (List ℕ) → Bool
begins_body edge event = not edge.mode && begins event.kind edge.state.has_begun

-- the bytes of the target of each link that is open
abbrev pub TargetsFit : List (Scope Label Kept) → Type 0
TargetsFit [] = Unit {0}
TargetsFit (scope ∷ scopes) =
    IfSome scope.before.target (λ target. length target.text ≤ FIELD) × TargetsFit scopes

-- the widths of columns that the list of a context keeps, if one is open
abbrev pub WidthsFit : Context → Type 0
WidthsFit context = IfSome context.list (λ list. list.widths.count ≤ COLUMNS)

-- those of the contexts before each open scope
abbrev pub ListsFit : List (Scope Label Kept) → Type 0
ListsFit [] = Unit {0}
ListsFit (scope ∷ scopes) = WidthsFit scope.before.context × ListsFit scopes

-- these, those of the list that is open, how many scopes are open, and the bytes of the manual's name
pub record ScopesFit (edge : PageEdge) : Type 0 where
  pub targets : TargetsFit edge.scopes
  pub lists : ListsFit edge.scopes
  pub widths : WidthsFit edge.state.formatting.context
  pub depth : length edge.scopes ≤ SCOPES
  pub name : IfSome edge.state.name (λ name. length name.text ≤ FIELD)

-- what decides the rest while the page goes on: its edge, the line of the last event, 1 before the first, and the indent that the settings give
pub record SinkEdge : Type 0 where
  pub page : PageEdge
  pub line : ℕ
  pub indent : Option ℕ

-- the indent is that of the settings, or else that of the set
abbrev pub layout_of : Settings → ℕ → PageLayout
layout_of settings indent = record { indent = unwrap_or settings.indent indent; output = settings.output }

-- before a page's first line
abbrev pub start_of : Settings → ℕ → SinkEdge
start_of settings indent = record { page = start_edge (layout_of settings indent); line = 1; indent = settings.indent }

-- what is held between two lines: the open scopes, and the line of the last event
pub record Part : Type 0 where
  pub page : PageEdge
  pub line : ℕ

abbrev pub part_of : SinkEdge → Part
part_of sink = record { page = sink.page; line = sink.line }

-- it goes on under settings and with a set: at the settings and the set from which it came the part is as it was
abbrev pub resumed : Settings → ℕ → Part → SinkEdge
resumed settings indent part = record { page = under (layout_of settings indent) part.page; line = part.line; indent = settings.indent }

-- a set of macros is chosen before anything came: the page is at its indent, unless the settings give another
abbrev pub chosen : ℕ → SinkEdge → SinkEdge
chosen indent sink = record sink { page = start_edge (record sink.page.state.page { indent = unwrap_or sink.indent indent }) }

abbrev pub after_event : Event (List ℕ) → SinkEdge → SinkEdge
after_event event sink = record sink { page = event_after sink.page event; line = event.place.line }

-- at Ok these items came, and no other; else a front of them, and then the fault; where the page is over none
abbrev pub Settles : {S : Type 0} → Result (Unit {0}) Fault → (S → List Item → S → Type 0) → (S → Fault → List Item → S → Type 0)
    → Option SinkEdge → (SinkEdge → List Item) → S → S → Type 0
Settles r took broke None items s t = (r ≡ Err Failed) × (t ≡ s)
Settles r took broke (Some sink) items s t = Emits r took broke s (items sink) t

-- a call that succeeds leads to the next edge; after one that fails the page is over
abbrev pub GoesOn : Result (Unit {0}) Fault → Option SinkEdge → (SinkEdge → SinkEdge) → Option SinkEdge → Type 0
GoesOn r old next new = MatchResult r (λ _. new ≡ option_map next old) (λ _. new ≡ None)
