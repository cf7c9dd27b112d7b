-- The steps of a run, as the code takes them: a machine of proofs, which no public clause cites.
use Rattle.std.specs.Prelude.{◌≡◌, ◌≤◌, ◌^◌, ◌-◌, ℕ, List, length, ◌<◌, ◌+◌, false, Result, MatchResult, take}
use Rattle.page_core_base.specs.Rows.{Laid, nothing}
use Rattle.page_core_base.specs.declared.faults.Fault.{Fault}
use Rattle.page_core_base.specs.declared.page_settings.Settings.{Settings as PageSettings}
use Rattle.page_roff_lines.specs.Lines.{lines_made, line_left}
use Rattle.page_roff_lines.specs.laws.Cutting.{point_after}
use Rattle.page_engine.specs.Edges.{Edge}
use Rattle.page_engine.specs.Page.{settled}
use Rattle.page_engine.specs.Runs.{Sinks, whole_page, settled_page, settled_by, page_rest}
use Rattle.page_engine.specs.declared.pages.Phase.{Phase}
use Rattle.page_engine.specs.declared.pages.Phase.TheVariants.{Open}
use Rattle.page_engine.specs.declared.runs.Run.{Run}
use Rattle.page_engine.specs.laws.Reads.{RunState, HasTaken, Fed, BrokeAt}
use Rattle.page_engine.specs.laws.States.{IsOpenAt, IsEndedAt}
use Rattle.page_engine.specs.laws.Views.{Came, Front}

-- a run that takes bytes, as contracts see it
abbrev pub state_of : Run → RunState
state_of run = record { phase = Open; page = run.page; point = run.cutter.point }

-- while it takes bytes no line waits in its cutter, and it may take so many more
abbrev pub HasRoom : Phase → Run → ℕ → Type 0
HasRoom Open run left = (run.cutter.ready ≡ false) × (run.cutter.point.line.consumed + left ≡ 2 ^ 31 - 1)
HasRoom _ run left = Unit {0}

-- no line waits, and there is room for more bytes
pub record CanTake (run : Run) (count : ℕ) : Type 0 where
  pub free : run.cutter.ready ≡ false
  pub room : run.cutter.point.line.consumed + count < 2 ^ 31

-- bytes were taken, and what they settle came, whichever were before them
pub record Through {R N : Type 0} (k : Sinks R N) (run run' : Run) (r r' : R) (n n' : N) (bytes : List ℕ) : Type 0 where
  pub fed : (s : PageSettings) (before : List ℕ) → HasTaken (state_of run) s before → Fed k r r' n n' s before bytes (state_of run')
  pub point : run'.cutter.point ≡ point_after run.cutter.point bytes
  pub free : run'.cutter.ready ≡ false

-- a part of a chunk was taken, at least a byte
pub record TookPart {R N : Type 0} (k : Sinks R N) (run run' : Run) (r r' : R) (n n' : N) (chunk : List ℕ)
    (count : ℕ) : Type 0 where
  pub some : 0 < count
  pub most : count ≤ length chunk
  pub through : Through k run run' r r' n n' (take count chunk)

-- a sink failed at the first line of a chunk
pub record PartBroke {R N : Type 0} (k : Sinks R N) (r r' : R) (n n' : N) (s : PageSettings) (before chunk : List ℕ) (fault : Fault) : Type 0 where
  pub count : ℕ
  pub one : length (lines_made s.encoding before (take count chunk)) ≤ 1
  pub front : Front k r r' n n' (settled_by s before (take count chunk)) fault

abbrev pub no_more : Laid ℕ
no_more = nothing 0

-- both sinks put out what waited: nothing more came
abbrev pub PutsOut : {R N : Type 0} → Result (Unit {0}) Fault → Sinks R N → R → R → N → N → Type 0
PutsOut res k r r' n n' = MatchResult res (λ _. Came k r r' n n' no_more) (λ fault. Front k r r' n n' no_more fault)

abbrev pub TakesPart : {R N : Type 0} → Result ℕ Fault → Sinks R N → Run → Run → R → R → N → N → List ℕ
    → Type 0
TakesPart res k run run' r r' n n' chunk = MatchResult res
    (λ count. TookPart k run run' r r' n n' chunk count)
    (λ fault. (s : PageSettings) (before : List ℕ) → HasTaken (state_of run) s before → PartBroke k r r' n n' s before chunk fault)

abbrev pub TakesChunk : {R N : Type 0} → Result (Unit {0}) Fault → Sinks R N → Run → Run → R → R → N → N
    → List ℕ → Type 0
TakesChunk res k run run' r r' n n' chunk = MatchResult res
    (λ _. Through k run run' r r' n n' chunk)
    (λ fault. (s : PageSettings) (before : List ℕ) → HasTaken (state_of run) s before → BrokeAt k r r' n n' s before chunk fault)

-- what the last line settles, where there was one
abbrev pub last_settled : PageSettings → List ℕ → Laid Edge
last_settled s bytes = settled (settled_page s bytes).edge (line_left s.encoding bytes)

abbrev pub TakesLast : {R N : Type 0} → Result (Unit {0}) Fault → Sinks R N → Run → Run → R → R → N → N
    → Type 0
TakesLast res k run run' r r' n n' = (s : PageSettings) (bytes : List ℕ) → HasTaken (state_of run) s bytes → MatchResult res
    (λ _. Came k r r' n n' (last_settled s bytes) × IsOpenAt run'.page (last_settled s bytes).edge)
    (λ fault. Front k r r' n n' (last_settled s bytes) fault)

-- and then the end
abbrev pub Finishes : {R N : Type 0} → Result (Unit {0}) Fault → Sinks R N → Run → Run → R → R → N → N
    → Type 0
Finishes res k run run' r r' n n' = (s : PageSettings) (bytes : List ℕ) → HasTaken (state_of run) s bytes → MatchResult res
    (λ _. Came k r r' n n' (page_rest s bytes) × IsEndedAt run'.page (whole_page s bytes).edge)
    (λ fault. Front k r r' n n' (page_rest s bytes) fault)
