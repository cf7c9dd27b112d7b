use Rattle.std.proofs.Common.{◌-◌, length}
use Rattle.page_roff_syntax.proofs.FormLemmas.{IsReadTo}
use Rattle.page_roff_syntax.proofs.comments.uncommented_len.Given as goal

abbrev pub invariant-loop-place : goal.invariant-loop-place
invariant-loop-place l = IsReadTo l.line l.place

abbrev pub decreases-loop-place : goal.decreases-loop-place
decreases-loop-place l = length l.line - l.place
