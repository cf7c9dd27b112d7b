use Rattle.std.proofs.Common.{◌-◌, ◌≤◌, length}
use Rattle.page_roff_parts.specs.machine.Verbatim.{IsFront}
use Rattle.page_roff_parts.proofs.fronts.front_len.Given as goal

abbrev pub invariant-loop-place : goal.invariant-loop-place
invariant-loop-place l = IsFront l.copy l.at l.text × (l.at ≤ length l.text) × (l.at ≤ l.fits)

abbrev pub decreases-loop-place : goal.decreases-loop-place
decreases-loop-place l = length l.text - l.at
