use Rattle.std.proofs.Common.{◌≡◌, ◌+◌, ◌≤◌, false, length}
use Rattle.page_preview.proofs.feeding.feed.Given as goal

-- no line waits, and the part before this place came
abbrev pub invariant-parts : goal.invariant-parts
invariant-parts l =
    (l.cutter.ready ≡ false) × (l.place ≤ length l.text)
    × (l.cutter.point.line.consumed ≡ l.fn.cutter.point.line.consumed + l.place)
