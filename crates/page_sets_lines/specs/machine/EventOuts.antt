-- What takes events, where it is lent, and where one event of all is kept.
use Rattle.std.specs.Prelude.{◌≡◌, ℕ, zero, suc, List, [], ◌∷◌, Option, None, Some}
use Rattle.std.specs.Borrow.{Bor, GName}
use Rattle.page_sets_lines.specs.laws.Events.{event_view}
use Rattle.page_sets_lines.specs.declared.events.Event.{Event}

-- ---- what is lent

pub record PlannedHanded (P : Type 0) : Type 0 where
  pub plan : P
  pub name : GName

pub record LeftHanded {P O : Type 0} (left : P → O → List (Event (List ℕ)) → Type 0) (plan : PlannedHanded P) (name : GName) (out : O)
    (events : List (Event (List ℕ))) : Type 0 where
  pub same : name ≡ plan.name
  pub came : left plan.plan out events

-- ---- one event

-- the event after this many
abbrev pub nth : ℕ → List (Event (List ℕ)) → Option (Event (List ℕ))
nth n [] = None
nth zero (event ∷ events) = Some event
nth (suc n) (event ∷ events) = nth n events

abbrev pub kept_view : Option (Event (Bor (List ℕ))) → Option (Event (List ℕ))
kept_view None = None
kept_view (Some event) = Some (event_view event)

-- the event that is kept, or else the one after this many of those to come
abbrev pub found : ℕ → Option (Event (Bor (List ℕ))) → List (Event (List ℕ)) → Option (Event (List ℕ))
found n None events = nth n events
found n (Some event) events = Some (event_view event)
