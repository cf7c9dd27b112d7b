use Rattle.std.proofs.Common.{◌≡◌, ◌-◌, ◌≤◌, ◌++◌, length, take}
use Rattle.page_core_base.specs.Texts.{unpaired}
use Rattle.page_core_base.proofs.quotes.unpaired_front.Given as goal

abbrev pub invariant-loop-front : goal.invariant-loop-front
invariant-loop-front g l =
    (l.front.items ++ take (g.row.ROOM - length l.front.items) (unpaired l.rest) ≡ take g.row.ROOM (unpaired l.text)) × (length l.front.items ≤ g.row.ROOM)

abbrev pub decreases-loop-front : goal.decreases-loop-front
decreases-loop-front g l = length l.rest
