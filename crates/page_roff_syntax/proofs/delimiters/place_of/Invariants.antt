use Rattle.std.proofs.Common.{◌≡◌, ◌≤◌, ◌+◌, ◌-◌, length, drop}
use Rattle.page_roff_syntax.specs.Delimiters.{place_of}
use Rattle.page_roff_syntax.proofs.delimiters.place_of.Given as goal

abbrev pub invariant-loop-place : goal.invariant-loop-place
invariant-loop-place l = (l.place ≤ length l.text) × (place_of l.delimiter l.text ≡ l.place + place_of l.delimiter (drop l.place l.text))

abbrev pub decreases-loop-place : goal.decreases-loop-place
decreases-loop-place l = length l.text - l.place
