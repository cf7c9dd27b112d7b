use Rattle.std.proofs.Common.{◌≡◌, ◌&&◌, drop}
use Rattle.page_core_numbers.specs.machine.Signs.{are_plain}
use Rattle.page_core_numbers.proofs.text_columns.are_plain.Given as goal

abbrev pub invariant-loop-byte : goal.invariant-loop-byte
invariant-loop-byte l = are_plain l.bytes ≡ (l.all && are_plain (drop l.byte-index l.bytes))
