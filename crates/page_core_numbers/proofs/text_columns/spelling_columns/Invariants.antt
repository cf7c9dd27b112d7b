use Rattle.std.proofs.Common.{◌≡◌, ◌≤◌, ◌*◌, take}
use Rattle.page_core_numbers.specs.Columns.{characters_columns}
use Rattle.page_core_numbers.proofs.text_columns.spelling_columns.Given as goal

abbrev pub invariant-loop-byte : goal.invariant-loop-byte
invariant-loop-byte l = (l.sum ≡ characters_columns (take l.byte-index l.byte-items)) × (l.sum ≤ 3 * l.byte-index)
