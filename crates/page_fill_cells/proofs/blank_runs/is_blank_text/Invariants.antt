use Rattle.std.proofs.Common.{◌≡◌, drop}
use Rattle.std.specs.List.{list_all}
use Rattle.page_fill_cells.specs.machine.BlankRuns.{is_blank_byte}
use Rattle.page_fill_cells.proofs.blank_runs.is_blank_text.Given as goal

abbrev pub invariant-loop-byte : goal.invariant-loop-byte
invariant-loop-byte l = list_all is_blank_byte l.bytes ≡ list_all is_blank_byte (drop l.byte-index l.bytes)
