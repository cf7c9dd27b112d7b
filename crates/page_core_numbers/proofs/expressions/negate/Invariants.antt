use Rattle.std.proofs.Common.{◌≡◌}
use Rattle.page_core_numbers.specs.machine.Signs.{negated_value}
use Rattle.page_core_numbers.proofs.expressions.negate.Given as goal

abbrev pub invariant-loop : goal.invariant-loop
invariant-loop l = l.negated ≡ negated_value l.counter l.value
