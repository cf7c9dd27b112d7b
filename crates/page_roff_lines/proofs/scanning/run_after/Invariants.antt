use Rattle.std.proofs.Common.{◌≡◌, ◌-◌, ◌≤◌, length, take, true}
use Rattle.std.specs.List.{list_all}
use Rattle.page_roff_decoding.specs.Decoding.{is_printable}
use Rattle.page_roff_lines.specs.machine.Open.{IsText}
use Rattle.page_roff_lines.proofs.scanning.run_after.Given as goal

-- the bytes before this place are text
abbrev pub invariant-loop-at : goal.invariant-loop-at
invariant-loop-at l = (l.at ≤ length l.chunk) × IsText (take l.at l.chunk) × (l.printable ≡ true → list_all is_printable (take l.at l.chunk) ≡ true)

abbrev pub decreases-loop-at : goal.decreases-loop-at
decreases-loop-at l = length l.chunk - l.at
