use Rattle.std.proofs.Common.{◌≡◌, map, string_bytes, take}
use Rattle.mandoc_command.proofs.texts.Texts.copied.Given as goal

abbrev pub invariant-loop-text : goal.invariant-loop-text
invariant-loop-text l = map string_bytes l.texts.items ≡ map (λ text. text.now) (take l.text-index l.names)
