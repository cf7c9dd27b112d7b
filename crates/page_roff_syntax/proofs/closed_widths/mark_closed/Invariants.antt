use Rattle.std.proofs.Common.{◌≡◌, ◌≤◌, length}
use Rattle.page_roff_syntax.specs.machine.Closed.{AreMarked, AreMet}
use Rattle.page_roff_syntax.proofs.closed_widths.mark_closed.Given as goal

abbrev pub invariant-loop-at : goal.invariant-loop-at
invariant-loop-at l =
    (l.at ≤ length l.text) × (length l.marks ≡ length l.fn.marks) × AreMet l.met l.text l.at × AreMarked l.marks l.text l.at

abbrev pub decreases-loop-at : goal.decreases-loop-at
decreases-loop-at l = l.at
