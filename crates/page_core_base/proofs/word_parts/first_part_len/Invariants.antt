use Rattle.std.proofs.Common.{length, ◌-◌}
use Rattle.page_core_base.proofs.LatchLemmas.{GoesOn}
use Rattle.page_core_base.proofs.word_parts.first_part_len.Given as goal

abbrev pub invariant-loop-len : goal.invariant-loop-len
invariant-loop-len l = GoesOn l.word l.len l.before

abbrev pub decreases-loop-len : goal.decreases-loop-len
decreases-loop-len l = length l.word - l.len
