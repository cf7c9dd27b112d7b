-- What a body that takes events knows of a plan: a machine of proofs, which no public clause cites.
use Rattle.std.specs.Prelude.{◌≡◌, ℕ, List, ◌++◌, Option, MatchOption, [], ◌∷◌}
use Rattle.std.specs.Borrow.{GName}
use Rattle.page_core_base.specs.Rows.{Item, noted}
use Rattle.page_engine_lines.specs.Bodies.{BodyEdge}
use Rattle.page_engine_lines.specs.laws.Views.{events_items, events_after, decided}
use Rattle.page_sets_lines.specs.declared.events.Event.{Event}
use Rattle.page_roff_effects.specs.States.{Given, says, takes}
use Rattle.page_core_base.specs.Texts.{TakenLine}
use Rattle.page_sets.specs.Mdoc.{either_events}

-- what the latch below plans, if something is planned there, what is to come there after the events, and the edge at which they leave the body
pub record PlannedEvents (P : Type 0) : Type 0 where
  pub plan : Option P
  pub rest : List Item
  pub edge : BodyEdge
  pub body : GName
  pub out : GName

-- these events are still to come
pub record LeftEvents {P O : Type 0} (left : P → O → List Item → Type 0) (plan : PlannedEvents P) (body_name out_name : GName) (body : BodyEdge)
    (out : O) (events : List (Event (List ℕ))) : Type 0 where
  pub same_body : body_name ≡ plan.body
  pub same_out : out_name ≡ plan.out
  pub items : MatchOption plan.plan (Unit {0}) (λ p. left p out (events_items body events ++ plan.rest))
  pub after : events_after body events ≡ plan.edge

-- ---- A machine: what roff gives of one source line, as pieces and messages, as the code takes it. That all lines together give their block tree is the
-- law `tree_law`, and trust needs no reading of this. Source: mandoc(1), "DIAGNOSTICS".

-- what the macros of a body's set make of a line
abbrev pub set_events : BodyEdge → TakenLine → List (Event (List ℕ))
set_events b line = either_events b.header.set line

-- a line decides the language, unless it is decided, and then is what the macros make of it
abbrev pub line_items : BodyEdge → TakenLine → List Item
line_items b line = events_items (decided b line) (set_events (decided b line) line)

abbrev pub line_after : BodyEdge → TakenLine → BodyEdge
line_after b line = events_after (decided b line) (set_events (decided b line) line)

-- a message is itself, a line is what the macros make of it
unfoldable pub given_items : BodyEdge → List Given → List Item
given_items b [] = []
given_items b (says message ∷ more) = noted message ∷ given_items b more
given_items b (takes line ∷ more) = line_items b line ++ given_items (line_after b line) more

unfoldable pub body_after : BodyEdge → List Given → BodyEdge
body_after b [] = b
body_after b (says message ∷ more) = body_after b more
body_after b (takes line ∷ more) = body_after (line_after b line) more
