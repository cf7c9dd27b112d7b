use Rattle.std.proofs.Common.{◌≡◌, ◌≤◌, length, take}
use Rattle.page_core_base.specs.Rows.{trimmed}
use Rattle.page_core_streams.proofs.cells.without_blanks_at_end.Given as goal

abbrev pub invariant-loop-len : goal.invariant-loop-len
invariant-loop-len l = (l.len ≤ length l.cells) × (trimmed l.cells ≡ trimmed (take l.len l.cells))

abbrev pub decreases-loop-len : goal.decreases-loop-len
decreases-loop-len l = l.len
