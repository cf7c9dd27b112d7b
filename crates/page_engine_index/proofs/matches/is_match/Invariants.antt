use Rattle.std.proofs.Common.{◌≡◌, length}
use Rattle.page_engine_index.specs.Matches.{is_match, matches_in}
use Rattle.page_engine_index.proofs.matches.is_match.Given as goal

abbrev pub invariant-loop-byte : goal.invariant-loop-byte
invariant-loop-byte l = is_match l.word l.name ≡ matches_in l.word l.before l.rest

abbrev pub decreases-loop-byte : goal.decreases-loop-byte
decreases-loop-byte l = length l.rest
