use Rattle.std.proofs.Common.{◌≡◌, ◌++◌, ℕ, List, length}
use Rattle.page_engine.specs.laws.Views.{sinks}
use Rattle.page_engine.specs.machine.Steps.{Through}
use Rattle.page_engine.proofs.runs.Run.take_chunk.Given as goal

abbrev pub invariant-loop-rest : goal.invariant-loop-rest
invariant-loop-rest g l =
    let r = g.R.RowSink in
    let n = g.N.NoteSink in
    (done : List ℕ) × (l.chunk ≡ done ++ l.rest)
    × Through (sinks r.gave r.within r.failed n.gave n.within n.failed) l.fn.self l.self l.fn.rows l.rows l.fn.notes l.notes done
    × (r.loans l.rows ≡ r.loans l.fn.rows) × (n.loans l.notes ≡ n.loans l.fn.notes)

abbrev pub decreases-loop-rest : goal.decreases-loop-rest
decreases-loop-rest g l = length l.rest
