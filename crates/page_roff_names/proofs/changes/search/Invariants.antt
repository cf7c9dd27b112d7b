use Rattle.std.proofs.Common.{◌≤◌, ◌-◌, length}
use Rattle.page_roff_names.specs.machine.Changes.{IsBelow, IsAbove}
use Rattle.page_roff_names.proofs.changes.search.Given as goal

abbrev pub invariant-loop-low : goal.invariant-loop-low
invariant-loop-low l = (l.low ≤ l.high) × (l.high ≤ length l.row) × IsBelow l.name l.low l.row × IsAbove l.name l.high l.row

abbrev pub decreases-loop-low : goal.decreases-loop-low
decreases-loop-low l = l.high - l.low
