use Rattle.std.proofs.Common.{◌≡◌, ◌-◌, ◌+◌, ◌≤◌, take, true}
use Rattle.page_core_base.specs.laws.Views as cells
use Rattle.page_fill_cells.proofs.printable.groups_printable.Given as goal

abbrev pub invariant-loop-at : goal.invariant-loop-at
invariant-loop-at g l = (cells.is_printable_ascii (take l.at l.bytes) ≡ true) × (l.at ≤ l.last + g.row.GROUP)

abbrev pub decreases-loop-at : goal.decreases-loop-at
decreases-loop-at g l = l.last - l.at
