-- What a latch over a sink knows of a plan: a machine of proofs, which no public clause cites. Trust needs no reading of it.
use Rattle.std.specs.Prelude.{◌≡◌, ℕ, List, Option, MatchOption}
use Rattle.std.specs.Borrow.{GName}
use Rattle.page_core_base.specs.Messages.{Rose, Message}
use Rattle.page_core_base.specs.laws.Views.{UpTo}
use Rattle.page_core_base.specs.declared.faults.Fault.{Fault}
use Rattle.page_core_base.specs.declared.faults.Fault.TheVariants.{WriteNotes}

-- from a moment of a sink that is lent these items are to come
pub record Planned (S L I : Type 0) : Type 0 where
  pub name : GName
  pub start : S
  pub loans : L
  pub all : List I

-- all but the rest came, or a front of all and then the fault
pub record Left {S L I : Type 0} (gave : S → List I → S → Type 0) (broke : S → Fault → List I → S → Type 0) (loans : S → L)
    (plan : Planned S L I) (name : GName) (now : S) (fault : Option Fault) (rest : List I) : Type 0 where
  pub same_loan : name ≡ plan.name
  pub same_loans : loans now ≡ plan.loans
  pub came : MatchOption fault (UpTo gave plan.start plan.all rest now) (λ f. broke plan.start f plan.all now)

-- ---- over a sink of messages

-- it took messages, and did not fail
abbrev pub TookNotes : {N : Type 0} → (N → List Message → N → Type 0) → (N → ℕ) → N → List Message → N → Type 0
TookNotes gave failed s notes t = gave s notes t × (failed t ≡ failed s)

-- it took a front of messages, and failed
abbrev pub BrokeNotes : {N : Type 0} → (N → List Message → N → Type 0) → (N → ℕ) → N → Fault → List Message → N → Type 0
BrokeNotes within failed s fault notes t = within s notes t × (fault ≡ WriteNotes) × Rose (failed s) (failed t)
