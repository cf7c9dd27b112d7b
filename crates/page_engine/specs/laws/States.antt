-- A page as contracts see it, and what its calls do. Source: mandoc(1).
use Rattle.std.specs.Prelude.{Option, ◌≡◌, Some, None, ℕ, ◌-◌, ◌^◌, nat_lt, if◌then◌else◌, Result, Err, MatchResult}
use Rattle.page_core_base.specs.Rows.{Laid}
use Rattle.page_core_base.specs.Settings.{IsGood, IsFirst}
use Rattle.page_core_base.specs.declared.faults.Fault.{Fault}
use Rattle.page_core_base.specs.declared.faults.Fault.TheVariants as faults
use Rattle.page_core_base.specs.declared.note_kinds.Level.{Level}
use Rattle.page_core_base.specs.declared.page_settings.Settings.{Settings}
use Rattle.page_roff_source.specs.declared.counts.Counts.{Counts}
use Rattle.page_engine.specs.Edges.{Edge}
use Rattle.page_engine.specs.Runs.{Sinks}
use Rattle.page_engine.specs.laws.Views.{IsReached, counts_at, Came, Front}
use Rattle.page_engine.specs.declared.pages.Phase.{Phase}
use Rattle.page_engine.specs.declared.pages.Phase.TheVariants.{Open, Failed, Ended}

-- open, failed or ended; the edge, while it is open; the worst level and the counts, also once it has failed or ended
pub record PageState : Type 0 where
  pub phase : Phase
  pub edge : Option Edge
  pub worst : Option Level
  pub counts : Counts

-- open at an edge, one that a page comes to
pub record IsOpenAt (p : PageState) (e : Edge) : Type 0 where
  pub reached : IsReached e
  pub phase : p.phase ≡ Open
  pub edge : p.edge ≡ Some e
  pub worst : p.worst ≡ e.worst
  pub counts : p.counts ≡ counts_at e

-- failed, with the worst level and the counts of the edge before the line, or the end, at which a sink failed
pub record IsFailedAt (p : PageState) (e : Edge) : Type 0 where
  pub phase : p.phase ≡ Failed
  pub worst : p.worst ≡ e.worst
  pub counts : p.counts ≡ counts_at e

-- ended, with the worst level and the counts of an edge
pub record IsEndedAt (p : PageState) (e : Edge) : Type 0 where
  pub phase : p.phase ≡ Ended
  pub worst : p.worst ≡ e.worst
  pub counts : p.counts ≡ counts_at e

-- ---- faults

-- why a page cannot start: its settings are refused; or they are good, and memory is wanting
abbrev pub CannotStart : Settings → Fault → Type 0
CannotStart s (faults.Settings fault) = IsFirst s fault
CannotStart s faults.Memory = IsGood s
CannotStart s _ = ⊥

-- the fault of each call on a page that is not open
abbrev pub closed : Phase → Option Fault
closed Open = None
closed Failed = Some faults.Failed
closed Ended = Some faults.Ended

-- the fault of a line: a page has at most 2^31 - 1 of them
abbrev pub line_fault_of : Phase → ℕ → Option Fault
line_fault_of Open source = if nat_lt source (2 ^ 31 - 1) then None else Some faults.TooLong
line_fault_of Failed source = Some faults.Failed
line_fault_of Ended source = Some faults.Ended

abbrev pub line_fault : PageState → Option Fault
line_fault p = line_fault_of p.phase p.counts.source

-- a call answers a fault, and nothing changes
pub record IsRefused {P R N : Type 0} (res : Result (Unit {0}) Fault) (fault : Fault) (p p' : P)
    (r r' : R) (n n' : N) : Type 0 where
  pub answer : res ≡ Err fault
  pub page : p' ≡ p
  pub rows : r' ≡ r
  pub notes : n' ≡ n

-- ---- what is given

-- From an edge: at Ok all that is laid came to the sinks, and the page is open at the next edge. At a fault a sink failed, a front
-- of it came to each, and the page has failed, with the worst level and the counts from before.
abbrev pub Takes : {R N : Type 0} → Result (Unit {0}) Fault → Sinks R N → R → R → N → N → Edge → Laid Edge
    → PageState → Type 0
Takes res k r r' n n' e l after = MatchResult res
    (λ _. Came k r r' n n' l × IsOpenAt after l.edge)
    (λ fault. Front k r r' n n' l fault × IsFailedAt after e)

-- `Takes` of the end of a page
abbrev pub Ends : {R N : Type 0} → Result (Unit {0}) Fault → Sinks R N → R → R → N → N → Edge → Laid Edge
    → PageState → Type 0
Ends res k r r' n n' e l after = MatchResult res
    (λ _. Came k r r' n n' l × IsEndedAt after l.edge)
    (λ fault. Front k r r' n n' l fault × IsFailedAt after e)
