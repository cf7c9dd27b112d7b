use Rattle.std.proofs.Common.{◌≡◌, cond, false}
use Rattle.std.specs.Prelude.{encode_utf8}
use Rattle.std.specs.List.{flat_map}
use Rattle.page_core_streams.specs.laws.Views.{Writes}
use Rattle.mandoc_formats.specs.Formats.{HasFailed}
use Rattle.mandoc_formats.specs.ShownNames.{is_hidden}
use Rattle.mandoc_formats.proofs.names.put_name.Given as goal

abbrev pub invariant-loop-c : goal.invariant-loop-c
invariant-loop-c g l = Writes l.is_written (g.V.Target.contents l.fn.err) (g.V.Target.contents l.err) (flat_map (λ c. encode_utf8 (cond (is_hidden c) 63 c)) l.yielded)
    × (l.is_written ≡ false → HasFailed g.V.Target.counts g.V.Target.failures)
