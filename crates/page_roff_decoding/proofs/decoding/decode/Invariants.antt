use Rattle.std.proofs.Common.{◌≤◌, ◌-◌, length, drop}
use Rattle.page_roff_decoding.specs.Decoding.{characters}
use Rattle.page_roff_decoding.proofs.ScanLemmas.{FitsSoFar}
use Rattle.page_roff_decoding.proofs.decoding.decode.Given as goal

-- what fits of the text was decoded as far as this place
abbrev pub invariant-loop-at : goal.invariant-loop-at
invariant-loop-at l = (l.at ≤ length l.text) × FitsSoFar (characters l.encoding l.text) l.decoded (characters l.encoding (drop l.at l.text))

abbrev pub decreases-loop-at : goal.decreases-loop-at
decreases-loop-at l = length l.text - l.at
