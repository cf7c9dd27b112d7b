use Rattle.std.proofs.Common.{◌≡◌, ◌&&◌, drop}
use Rattle.page_core_base.specs.laws.Views as cells
use Rattle.page_fill_cells.proofs.printable.are_printable.Given as goal

abbrev pub invariant-loop-byte : goal.invariant-loop-byte
invariant-loop-byte l = cells.is_printable_ascii l.bytes ≡ (l.all && cells.is_printable_ascii (drop l.byte-index l.bytes))
