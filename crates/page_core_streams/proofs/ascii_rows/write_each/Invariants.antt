use Rattle.std.proofs.Common.{◌≡◌, ◌++◌, ◌+◌, ◌*◌, ◌≤◌, take}
use Rattle.std.specs.List.{flat_map}
use Rattle.page_core_base.specs.laws.Views.{cells_in}
use Rattle.page_core_streams.specs.Streams.{cell_bytes_of}
use Rattle.page_core_streams.proofs.ascii_rows.write_each.Given as goal

abbrev pub invariant-loop-i : goal.invariant-loop-i
invariant-loop-i l = (take l.end l.bytes ≡ take l.fn.start l.fn.bytes ++ flat_map cell_bytes_of (cells_in (take l.i l.text) (take l.i l.fonts)))
    × (l.end ≤ l.fn.start + 5 * l.i)
