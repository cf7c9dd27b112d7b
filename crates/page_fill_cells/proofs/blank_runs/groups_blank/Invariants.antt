use Rattle.std.proofs.Common.{◌≡◌, ◌-◌, ◌+◌, ◌≤◌, take, true}
use Rattle.std.specs.List.{list_all}
use Rattle.page_fill_cells.specs.machine.BlankRuns.{is_blank_byte}
use Rattle.page_fill_cells.proofs.blank_runs.groups_blank.Given as goal

abbrev pub invariant-loop-at : goal.invariant-loop-at
invariant-loop-at g l = (list_all is_blank_byte (take l.at l.bytes) ≡ true) × (l.at ≤ l.last + g.row.GROUP)

abbrev pub decreases-loop-at : goal.decreases-loop-at
decreases-loop-at g l = l.last - l.at
