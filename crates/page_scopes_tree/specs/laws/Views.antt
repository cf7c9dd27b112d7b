-- What contracts of the code say by the definitions, and what is proved of these.
use Rattle.std.specs.Borrow.{Bor}
use Rattle.std.specs.Prelude.{ℕ, List, [], ◌∷◌, map, Bool, false}
use Rattle.page_sets_lines.specs.laws.Events.{event_view}
use Rattle.page_sets_lines.specs.declared.events.Event.{Event}
use Rattle.page_scopes_labels.specs.Labels.{is_enclosure}
use Rattle.page_scopes_labels.specs.declared.labels.Label.{Label}
use Rattle.page_scopes_tree.specs.declared.acts.Act.{Act}
use Rattle.page_scopes_tree.specs.declared.acts.Act.TheVariants as acts
use Rattle.page_scopes_tree.specs.declared.nestings.Scope.{Scope}

-- an act of the program, with what its texts hold
abbrev pub act_view : Act (Bor (Event (Bor (List ℕ)))) → Act (Event (List ℕ))
act_view (acts.Event event) = acts.Event (event_view event.now)
act_view (acts.PageEnd line) = acts.PageEnd line

-- whether an act is taken where events are taken of which something holds
abbrev pub TakesAct : (Event (List ℕ) → Type 0) → Act (Event (List ℕ)) → Type 0
TakesAct takes (acts.Event event) = takes event
TakesAct takes (acts.PageEnd line) = Unit {0}

-- An event comes first: it may begin the body, and its closer's number is read. Then it does what it does.
pub data Step : Type 0 where
  comes : Event (List ℕ) → Step
  does : Act (Event (List ℕ)) → Step

abbrev pub steps_of : Event (List ℕ) → List Step
steps_of event = comes event ∷ does (acts.Event event) ∷ []

abbrev pub labels : {L B : Type 0} → List (Scope L B) → List L
labels scopes = map (λ scope. scope.label) scopes

-- whether it is an enclosure that ends with a line
abbrev pub in_enclosure : List Label → Bool
in_enclosure [] = false
in_enclosure (label ∷ nodes) = is_enclosure label
