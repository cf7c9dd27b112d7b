use Rattle.std.proofs.Common.{◌+◌, ◌*◌, ◌≤◌, length}
use denote.Text.{Utf8}
use denote.Shadow.{shadow}
use Rattle.page_core_numbers.specs.machine.Signs.{Left}
use Rattle.page_roff_values.proofs.fronts.read_front.Given as goal

-- what is left is text, and its columns are those that are still to come
abbrev pub invariant-loop-rest : goal.invariant-loop-rest
invariant-loop-rest l = shadow (Utf8 l.rest) × Left l.output l.text l.columns l.rest × (l.columns + 1000 * length l.rest ≤ 1000 * length l.text)

abbrev pub decreases-loop-rest : goal.decreases-loop-rest
decreases-loop-rest l = length l.rest
