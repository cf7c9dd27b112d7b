use Rattle.std.proofs.Common.{◌≡◌, length}
use Rattle.page_engine_index.specs.Matches.{has_match}
use Rattle.page_engine_index.proofs.matches.has_match.Given as goal

abbrev pub invariant-loop-after : goal.invariant-loop-after
invariant-loop-after l = has_match l.word l.names ≡ has_match l.word l.rest

abbrev pub decreases-loop-after : goal.decreases-loop-after
decreases-loop-after l = length l.rest
