use Rattle.std.proofs.Common.{◌≡◌, ◌++◌, ◌+◌, ◌*◌, ◌≤◌, take}
use Rattle.std.specs.List.{flat_map}
use Rattle.page_core_streams.specs.Streams.{cell_bytes_of}
use Rattle.page_core_streams.proofs.cells.write_cells.Given as goal

abbrev pub invariant-loop-cell : goal.invariant-loop-cell
invariant-loop-cell l = (take l.end l.bytes ≡ take l.fn.start l.fn.bytes ++ flat_map cell_bytes_of (take l.cell-index l.cells)) × (l.end ≤ l.fn.start + 16 * l.cell-index)
