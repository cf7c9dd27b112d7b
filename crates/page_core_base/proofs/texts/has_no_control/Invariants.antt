use Rattle.std.proofs.Common.{◌≡◌, drop}
use Rattle.page_core_base.specs.Texts.{has_no_control}
use Rattle.page_core_base.proofs.texts.has_no_control.Given as goal

abbrev pub invariant-loop-byte : goal.invariant-loop-byte
invariant-loop-byte l = has_no_control 0 l.text ≡ has_no_control l.before (drop l.byte-index l.text)
