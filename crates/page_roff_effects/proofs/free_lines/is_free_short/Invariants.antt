use Rattle.std.proofs.Common.{◌≡◌, ℕ, ◌+◌, ◌-◌, ◌<◌, false, length}
use Rattle.page_core_base.specs.laws.Views.{key_at}
use Rattle.page_roff_effects.proofs.free_lines.is_free_short.Given as goal

-- nothing begins before the byte before this place
abbrev pub invariant-loop-at : goal.invariant-loop-at
invariant-loop-at l = ((k : ℕ) → k + 1 < l.at → key_at l.line k ≡ false) × (0 < l.at)

abbrev pub decreases-loop-at : goal.decreases-loop-at
decreases-loop-at l = length l.line - l.at
