use Rattle.std.proofs.Common.{◌≡◌, ◌+◌, ◌≤◌, false, length}
use Rattle.page_checks.proofs.lines.Lines.feed_all.Given as goal

-- no line waits, and the part before this place came
abbrev pub invariant-parts : goal.invariant-parts
invariant-parts g l =
    (l.self.cutter.ready ≡ false) × (l.at ≤ length l.bytes)
    × (l.self.cutter.point.line.consumed ≡ l.fn.self.cutter.point.line.consumed + l.at)
