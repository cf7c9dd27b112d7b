use Rattle.std.proofs.Common.{◌≤◌, ◌+◌, ◌*◌, length}
use denote.Text.{Utf8}
use denote.Shadow.{shadow}
use Rattle.page_core_numbers.specs.machine.Signs.{Left}
use Rattle.page_core_numbers.proofs.text_columns.text_columns.Given as goal

-- what is left is text, and its columns are those that are still to come
abbrev pub invariant-loop-first : goal.invariant-loop-first
invariant-loop-first l = shadow (Utf8 l.rest) × Left l.output l.text l.sum l.rest × (l.sum + 1000 * length l.rest ≤ 1000 * length l.text)

abbrev pub decreases-loop-first : goal.decreases-loop-first
decreases-loop-first l = length l.rest
