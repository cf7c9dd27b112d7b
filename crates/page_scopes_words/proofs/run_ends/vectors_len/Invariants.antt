use Rattle.std.proofs.Common.{◌-◌, ◌+◌, ◌≤◌}
use Rattle.page_scopes_words.specs.machine.Letters.{GoesOn}
use Rattle.page_scopes_words.proofs.run_ends.vectors_len.Given as goal

-- before this place no run ends
abbrev pub invariant-loop-at : goal.invariant-loop-at
invariant-loop-at l = GoesOn l.quoted l.text 0 l.at × (l.at ≤ l.last + 16)

abbrev pub decreases-loop-at : goal.decreases-loop-at
decreases-loop-at l = l.last + 16 - l.at
