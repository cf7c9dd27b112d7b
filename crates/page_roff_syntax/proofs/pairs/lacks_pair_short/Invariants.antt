use Rattle.std.proofs.Common.{◌≡◌, ℕ, ◌≤◌, ◌<◌, ◌+◌, ◌-◌, false, length}
use Rattle.page_roff_syntax.specs.machine.Closed.{pair_at}
use Rattle.page_roff_syntax.proofs.pairs.lacks_pair_short.Given as goal

-- no pair ends before this place
abbrev pub invariant-loop-at : goal.invariant-loop-at
invariant-loop-at l = (1 ≤ l.at) × ((k : ℕ) → k + 1 < l.at → pair_at l.one l.other l.text k ≡ false)

abbrev pub decreases-loop-at : goal.decreases-loop-at
decreases-loop-at l = length l.text - l.at
