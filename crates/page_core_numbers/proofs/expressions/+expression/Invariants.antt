use Rattle.std.proofs.Common.{◌≡◌, ◌≤◌, ◌+◌, ◌-◌, ◌*◌, length, drop, ℤ}
use Rattle.page_core_numbers.specs.Expressions.{Read, expression_within, operand_by}
use Rattle.page_core_numbers.specs.machine.Signs.{expression_view, count_of, Goes, inside_of}
use Rattle.page_core_numbers.proofs.expressions.+expression.Given as goal

abbrev pub decreases-read_expression : goal.decreases-read_expression
decreases-read_expression l = l.room * 3 + 2

abbrev pub decreases-after_operations : goal.decreases-after_operations
decreases-after_operations l = l.room * 3 + 1

abbrev pub decreases-read_operand : goal.decreases-read_operand
decreases-read_operand l = l.room * 3

abbrev pub invariant-after_operations-loop-found : goal.invariant-after_operations-loop-found
invariant-after_operations-loop-found l =
    ((all : Read ℤ) → Goes (operand_by (inside_of l.room l.scale) l.scale) all (expression_view l.initial.read)
    → Goes (operand_by (inside_of l.room l.scale) l.scale) all (expression_view l.read))
    × (count_of l.read.troubles + length l.read.rest.now ≤ count_of l.initial.read.troubles + length l.initial.read.rest.now)

abbrev pub decreases-after_operations-loop-found : goal.decreases-after_operations-loop-found
decreases-after_operations-loop-found l = length l.read.rest.now

abbrev pub invariant-read_expression-loop-around : goal.invariant-read_expression-loop-around
invariant-read_expression-loop-around l =
    (expression_view l.so_far ≡ expression_within l.around l.scale (drop (l.room - l.around) l.text))
    × (count_of l.so_far.troubles + length l.so_far.rest.now ≤ length (drop (l.room - l.around) l.text))
