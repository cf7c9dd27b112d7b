use Rattle.std.proofs.Common.{◌-◌, ◌≤◌, false, length, drop}
use Rattle.page_roff_parts.specs.machine.Verbatim as brackets
use Rattle.page_roff_parts.specs.machine.Verbatim.{IsFront}
use Rattle.page_roff_parts.specs.machine.Known.{AreFronts, IsRun, StayBefore}
use Rattle.page_roff_parts.proofs.known_fronts.write_fronts.Given as goal

abbrev pub invariant-loop-at : goal.invariant-loop-at
invariant-loop-at l =
    (l.at ≤ l.next) × (l.next ≤ l.end) × (l.end ≤ length l.text) × IsRun l.at l.next l.text × IsFront false (l.end - l.next) (drop l.next l.text)
    × AreFronts l.fronts l.before l.text l.at × StayBefore l.before l.fn.fronts l.fronts × brackets.IsKnown l.is_unclosed (drop l.at l.text)

abbrev pub decreases-loop-at : goal.decreases-loop-at
decreases-loop-at l = l.at
