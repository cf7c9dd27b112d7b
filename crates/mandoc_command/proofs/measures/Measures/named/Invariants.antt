use Rattle.std.proofs.Common.{◌≡◌, length}
use Rattle.std.specs.Str.{IsUtf8}
use Rattle.std.specs.List.{slice_split}
use Rattle.mandoc_command.specs.Measures.{with_parts, measures_of, is_comma}
use Rattle.mandoc_command.proofs.measures.Measures.named.Given as goal

abbrev pub invariant-loop-part : goal.invariant-loop-part
invariant-loop-part l = IsUtf8 l.rest × (with_parts l.measures (slice_split is_comma l.rest) ≡ measures_of l.fn.text)

abbrev pub decreases-loop-part : goal.decreases-loop-part
decreases-loop-part l = length l.rest
