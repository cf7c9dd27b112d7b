use Rattle.std.proofs.Common.{◌≡◌, ◌+◌, ◌≤◌, false, length}
use Rattle.page_surface_checks.proofs.lines.feed_all.Given as goal

-- no line waits, and the part before this place came
abbrev pub invariant-parts : goal.invariant-parts
invariant-parts g l =
    (l.cutter.ready ≡ false) × (l.at ≤ length l.page)
    × (l.cutter.point.line.consumed ≡ l.fn.cutter.point.line.consumed + l.at)
