use Rattle.std.proofs.Common.{◌-◌, length}
use Rattle.page_roff_lines.proofs.PointLemmas.{IsReadTo}
use Rattle.page_roff_lines.proofs.open.OpenLine.read_runs.Given as goal

abbrev pub invariant-loop-at : goal.invariant-loop-at
invariant-loop-at l = IsReadTo l.fn.self l.self l.chunk l.at

abbrev pub decreases-loop-at : goal.decreases-loop-at
decreases-loop-at l = length l.chunk - l.at
