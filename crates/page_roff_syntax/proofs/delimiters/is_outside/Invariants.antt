use Rattle.std.proofs.Common.{◌≡◌, ◌≤◌, not, if◌then◌else◌}
use Rattle.page_roff_syntax.specs.machine.Closed.{is_outside}
use Rattle.page_roff_syntax.proofs.delimiters.is_outside.Given as goal

abbrev pub invariant-loop-place : goal.invariant-loop-place
invariant-loop-place l =
    (l.place ≤ l.at) × (is_outside l.at l.text ≡ (if l.is_even then is_outside l.place l.text else not (is_outside l.place l.text)))

abbrev pub decreases-loop-place : goal.decreases-loop-place
decreases-loop-place l = l.place
