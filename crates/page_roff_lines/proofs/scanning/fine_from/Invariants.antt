use Rattle.std.proofs.Common.{◌≡◌, ◌-◌, ◌≤◌, true, length, take}
use Rattle.page_roff_lines.specs.machine.Open.{IsFine, IsFreeTo}
use Rattle.page_roff_lines.proofs.scanning.fine_from.Given as goal

-- the bytes before this place are fine, and may be known to be free
abbrev pub invariant-loop-at : goal.invariant-loop-at
invariant-loop-at l = (l.at ≤ length l.chunk) × IsFine (take l.at l.chunk) × (l.free ≡ true → IsFreeTo l.at l.chunk)

abbrev pub decreases-loop-at : goal.decreases-loop-at
decreases-loop-at l = length l.chunk - l.at
