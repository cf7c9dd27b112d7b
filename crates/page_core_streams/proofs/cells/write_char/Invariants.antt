use Rattle.std.proofs.Common.{◌≡◌, ◌++◌, ◌+◌, take}
use Rattle.page_core_streams.proofs.cells.write_char.Given as goal

abbrev pub invariant-loop-byte : goal.invariant-loop-byte
invariant-loop-byte l = (take l.end l.bytes ≡ take l.fn.start l.fn.bytes ++ take l.byte-index l.byte-items) × (l.end ≡ l.fn.start + l.byte-index)
