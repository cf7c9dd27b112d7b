use Rattle.std.proofs.Common.{◌≡◌, take}
use Rattle.std.specs.List.{list_all}
use Rattle.page_roff_decoding.specs.Decoding.{is_printable}
use Rattle.page_roff_decoding.proofs.choosing.is_printable_ascii.Given as goal

-- whether each byte so far is printable
abbrev pub invariant-loop-byte : goal.invariant-loop-byte
invariant-loop-byte l = l.printable ≡ list_all is_printable (take l.byte-index l.text)
