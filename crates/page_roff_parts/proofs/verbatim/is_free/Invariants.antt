use Rattle.std.proofs.Common.{◌≡◌, ℕ, ◌+◌, ◌-◌, ◌<◌, false, length}
use Rattle.page_roff_parts.specs.machine.Verbatim.{may_call_at}
use Rattle.page_roff_parts.proofs.verbatim.is_free.Given as goal

-- no interpolation begins before the byte before this place
abbrev pub invariant-loop-at : goal.invariant-loop-at
invariant-loop-at l = ((k : ℕ) → k + 1 < l.at → may_call_at l.text k ≡ false) × (0 < l.at)

abbrev pub decreases-loop-at : goal.decreases-loop-at
decreases-loop-at l = length l.text - l.at
