use Rattle.std.proofs.Common.{◌≡◌, ◌≤◌, ◌+◌, ◌-◌, length, drop}
use Rattle.page_roff_syntax.specs.machine.Closed.{AreMarked}
use Rattle.page_roff_heads.specs.Conditions.{expression_len}
use Rattle.page_roff_heads.proofs.expressions.marked_len.Given as goal

abbrev pub invariant-loop-step : goal.invariant-loop-step
invariant-loop-step l = (l.len ≤ length l.text) × (expression_len l.text ≡ l.len + expression_len (drop l.len l.text)) × AreMarked l.marks l.text 0

abbrev pub decreases-loop-step : goal.decreases-loop-step
decreases-loop-step l = length l.text - l.len
