use Rattle.std.proofs.Common.{◌-◌, ◌≤◌}
use Rattle.page_roff_values.proofs.fronts.common_len.Given as goal

abbrev pub invariant-loop-common : goal.invariant-loop-common
invariant-loop-common l = l.common ≤ l.shorter

abbrev pub decreases-loop-common : goal.decreases-loop-common
decreases-loop-common l = l.shorter - l.common
