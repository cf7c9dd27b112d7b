use Rattle.std.proofs.Common.{◌≡◌, ◌≤◌, ◌++◌, ◌-◌, length, take, drop}
use Rattle.page_roff_parts.specs.Parts.{without_lone}
use Rattle.page_roff_parts.proofs.endings.read_without_lone.Given as goal

abbrev pub invariant-loop-at : goal.invariant-loop-at
invariant-loop-at l = (l.at ≤ length l.text) × (without_lone l.text ≡ take l.at l.text ++ without_lone (drop l.at l.text))

abbrev pub decreases-loop-at : goal.decreases-loop-at
decreases-loop-at l = length l.text - l.at
