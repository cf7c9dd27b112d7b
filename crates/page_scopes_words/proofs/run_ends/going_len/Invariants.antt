use Rattle.std.proofs.Common.{◌-◌, ◌≤◌, length}
use Rattle.page_scopes_words.specs.machine.Letters.{GoesOn}
use Rattle.page_scopes_words.proofs.run_ends.going_len.Given as goal

-- before this place no run ends
abbrev pub invariant-loop-at : goal.invariant-loop-at
invariant-loop-at l = (l.at ≤ length l.text) × GoesOn l.quoted l.text 0 l.at

abbrev pub decreases-loop-at : goal.decreases-loop-at
decreases-loop-at l = length l.text - l.at
