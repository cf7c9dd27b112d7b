use Rattle.std.proofs.Common.{◌≡◌, cond}
use Rattle.std.specs.Prelude.{string_bytes, encode_utf8}
use Rattle.std.specs.List.{flat_map}
use Rattle.mandoc_formats.specs.ShownNames.{is_hidden}
use Rattle.mandoc_formats.proofs.names.shown_name.Given as goal

abbrev pub invariant-loop-c : goal.invariant-loop-c
invariant-loop-c l = string_bytes l.text ≡ flat_map (λ c. encode_utf8 (cond (is_hidden c) 63 c)) l.yielded
