use Rattle.std.proofs.Common.{◌≡◌, ◌++◌, ℕ, List, length}
use Rattle.page_engine_records.specs.machine.NameTexts.{Through}
use Rattle.page_engine_records.proofs.runs.RecordRun.take_chunk.Given as goal

abbrev pub invariant-loop-rest : goal.invariant-loop-rest
invariant-loop-rest l = (done : List ℕ) × (l.chunk ≡ done ++ l.rest) × Through l.fn.self l.self done

abbrev pub decreases-loop-rest : goal.decreases-loop-rest
decreases-loop-rest l = length l.rest
