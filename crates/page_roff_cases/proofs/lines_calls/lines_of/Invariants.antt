use Rattle.std.proofs.Common.{◌≡◌, ◌≤◌, false, length}
use Rattle.page_roff_cases.proofs.lines_calls.lines_of.Given as goal

-- no line waits, and the page came as far as this
abbrev pub invariant-chunks : goal.invariant-chunks
invariant-chunks l = (l.cutter.ready ≡ false) × (l.at ≤ length l.page) × (l.cutter.point.line.consumed ≤ l.at)
