use Rattle.std.proofs.Common.{◌≡◌, ◌+◌, ◌≤◌, length}
use Rattle.page_core_base.specs.Texts.{unpaired}
use Rattle.page_roff_syntax.proofs.values.unpaired_len.Given as goal

abbrev pub invariant-loop-rest : goal.invariant-loop-rest
invariant-loop-rest l =
    (l.len + length (unpaired l.rest) ≡ length (unpaired l.text)) × (l.len + length l.rest ≤ length l.text)

abbrev pub decreases-loop-rest : goal.decreases-loop-rest
decreases-loop-rest l = length l.rest
