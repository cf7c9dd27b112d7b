use Rattle.std.proofs.Common.{◌-◌, length}
use Rattle.page_roff_heads.proofs.Ahead.{IsReadTo}
use Rattle.page_roff_heads.proofs.heads.end_place.Given as goal

abbrev pub invariant-loop-place : goal.invariant-loop-place
invariant-loop-place l = IsReadTo l.line l.place

abbrev pub decreases-loop-place : goal.decreases-loop-place
decreases-loop-place l = length l.line - l.place
