use Rattle.std.proofs.Common.{◌≡◌, take}
use Rattle.page_core_escapes.specs.Meanings.{hex_number}
use Rattle.page_core_escapes.proofs.meaning.hex_number.Given as goal

abbrev pub invariant-loop-digit : goal.invariant-loop-digit
invariant-loop-digit l = l.number ≡ hex_number (take l.digit-index l.digits)
