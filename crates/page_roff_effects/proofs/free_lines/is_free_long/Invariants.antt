use Rattle.std.proofs.Common.{◌+◌, ◌-◌, ◌≤◌}
use Rattle.page_roff_effects.specs.machine.Acting.{IsFreeFrom}
use Rattle.page_roff_effects.proofs.free_lines.is_free_long.Given as goal

-- nothing begins before this place
abbrev pub invariant-loop-at : goal.invariant-loop-at
invariant-loop-at l = IsFreeFrom 0 l.at l.line × (l.at ≤ l.last + 16)

abbrev pub decreases-loop-at : goal.decreases-loop-at
decreases-loop-at l = l.last + 16 - l.at
