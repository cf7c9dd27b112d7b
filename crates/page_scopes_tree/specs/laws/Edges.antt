-- What the events of a page give, by the block tree of its scopes, and what decides the rest. Source: man(7), mdoc(7).
use Rattle.std.specs.Prelude.{ℕ, List, [], ◌∷◌, ◌++◌}
use Rattle.page_core_base.specs.Rows.{Item}
use Rattle.page_sets_lines.specs.declared.events.Event.{Event}
use Rattle.page_scopes_tree.specs.Placements.{ScopesEdge}
use Rattle.page_scopes_tree.specs.laws.Views.{Step, steps_of, does}
use Rattle.page_scopes_tree.specs.machine.Stacks.{Tables, framed, scopes_nesting}
use Rattle.page_scopes_tree.specs.machine.Nestings.{settled, edge}
use Rattle.page_scopes_tree.specs.declared.acts.Act.TheVariants as acts

abbrev pub steps_of_all : List (Event (List ℕ)) → List Step
steps_of_all [] = []
steps_of_all (event ∷ events) = steps_of event ++ steps_of_all events

-- what events give while the page goes on, and what decides the rest after them
abbrev pub events_items : {S B : Type 0} → Tables S B → ScopesEdge S B → List (Event (List ℕ)) → List Item
events_items tables d events = settled scopes_nesting (framed tables) d (steps_of_all events)

abbrev pub events_edge : {S B : Type 0} → Tables S B → ScopesEdge S B → List (Event (List ℕ)) → ScopesEdge S B
events_edge tables d events = edge scopes_nesting (framed tables) d (steps_of_all events)

-- `events_items` and `events_edge` of the page's end on a line
abbrev pub page_end_items : {S B : Type 0} → Tables S B → ScopesEdge S B → ℕ → List Item
page_end_items tables d line = settled scopes_nesting (framed tables) d (does (acts.PageEnd line) ∷ [])

abbrev pub page_end_edge : {S B : Type 0} → Tables S B → ScopesEdge S B → ℕ → ScopesEdge S B
page_end_edge tables d line = edge scopes_nesting (framed tables) d (does (acts.PageEnd line) ∷ [])

-- what the rest of a page gives: its events, and its end on a line
abbrev pub page_items : {S B : Type 0} → Tables S B → ScopesEdge S B → List (Event (List ℕ)) → ℕ → List Item
page_items tables d events line = settled scopes_nesting (framed tables) d (steps_of_all events ++ does (acts.PageEnd line) ∷ [])
