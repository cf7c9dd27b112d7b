use Rattle.std.proofs.Common.{◌≡◌, ℕ, ◌+◌, ◌-◌, ◌<◌, ◌≤◌, Bool, true, List, length, take}
use Rattle.page_roff_lines.specs.machine.Open.{IsFine, IsFreeTo}
use Rattle.page_roff_lines.proofs.LineAgreement.{stops_from}
use Rattle.page_roff_lines.proofs.scanning.through_vector.Given as goal

-- the bytes before this place are fine, and may be known to be free; what is found are the stops of the lanes that are left
pub record IsAt (xs : List ℕ) (from at left mask : ℕ) (known : Bool) : Type 0 where
  pub room : at + left ≤ length xs
  pub lanes : left ≤ 32
  pub further : from < at + left
  pub text : IsFine (take at xs)
  pub free : known ≡ true → IsFreeTo at xs
  pub stops : mask ≡ stops_from xs at left

abbrev pub invariant-loop-found : goal.invariant-loop-found
invariant-loop-found l = IsAt l.chunk l.fn.from l.at l.left l.found l.free

abbrev pub decreases-loop-found : goal.decreases-loop-found
decreases-loop-found l = length l.chunk - l.at
