use Rattle.std.proofs.Common.{◌≡◌, ℕ, List}
use Rattle.page_core_streams.specs.laws.Views.{AreRead}
use Rattle.page_engine_records.specs.machine.NameTexts.{Through}
use Rattle.page_engine_records.proofs.runs.RecordRun.read_all.Given as goal

abbrev pub invariant-loop-self : goal.invariant-loop-self
invariant-loop-self g l =
    let s = g.S.Source in
    (read : List ℕ) × AreRead (s.state l.fn.source) (s.state l.source) l.chunks read × Through l.fn.self l.self read
    × (s.loans l.source ≡ s.loans l.fn.source)

abbrev pub decreases-loop-self : goal.decreases-loop-self
decreases-loop-self g l = l.chunks.calls_left
