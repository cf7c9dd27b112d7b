use Rattle.std.proofs.Common.{◌≡◌, ◌-◌, vec_capacity, vec_len}
use Rattle.page_roff_parts.proofs.room.fill_up.Given as goal

abbrev pub invariant-loop-number : goal.invariant-loop-number
invariant-loop-number g l = vec_capacity l.numbers ≡ vec_capacity l.fn.numbers

abbrev pub decreases-loop-number : goal.decreases-loop-number
decreases-loop-number g l = l.len - vec_len l.numbers
