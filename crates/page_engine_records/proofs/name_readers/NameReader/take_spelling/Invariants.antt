use Rattle.std.proofs.Common.{◌≡◌, drop}
use Rattle.page_engine_records.specs.machine.NameTexts.{with_characters}
use Rattle.page_engine_records.proofs.name_readers.NameReader.take_spelling.Given as goal

abbrev pub invariant-loop-byte : goal.invariant-loop-byte
invariant-loop-byte l = with_characters l.self (drop l.byte-index l.byte-items) ≡ with_characters l.fn.self l.byte-items
