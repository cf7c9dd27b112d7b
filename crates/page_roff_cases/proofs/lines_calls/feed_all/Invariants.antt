use Rattle.std.proofs.Common.{◌≡◌, ◌+◌, ◌≤◌, false, length}
use Rattle.page_roff_cases.proofs.lines_calls.feed_all.Given as goal

-- no line waits, and the part before this place came
abbrev pub invariant-parts : goal.invariant-parts
invariant-parts l =
    (l.cutter.ready ≡ false) × (l.at ≤ length l.chunk)
    × (l.cutter.point.line.consumed ≡ l.fn.cutter.point.line.consumed + l.at)
