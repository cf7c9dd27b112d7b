use Rattle.std.proofs.Common.{◌≡◌, ◌≤◌, List, length, take}
use Rattle.page_core_base.specs.declared.cells.Font.{Font}
use Rattle.page_core_base.specs.laws.Views.{cells_in}
use Rattle.page_core_base.specs.Rows.{trimmed}
use Rattle.page_core_streams.proofs.ascii_rows.len_before_groups.Given as goal

abbrev pub invariant-loop-len : goal.invariant-loop-len
invariant-loop-len l = (l.len ≤ length l.text)
    × ((fonts : List Font) → length fonts ≡ length l.text → trimmed (cells_in l.text fonts) ≡ trimmed (cells_in (take l.len l.text) fonts))

abbrev pub decreases-loop-len : goal.decreases-loop-len
decreases-loop-len l = l.len
