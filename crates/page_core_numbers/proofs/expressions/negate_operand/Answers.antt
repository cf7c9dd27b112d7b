use Rattle.std.proofs.Common.{◌∙◌, sym, rules, w32, FitsSigned}
use Rattle.std.proofs.lemmas.Int.{to_z-of_z}
use Rattle.page_core_numbers.proofs.ExpressionLemmas.{negated_times-none, negated_times-some}
use Rattle.page_core_numbers.specs.machine.Signs.{operand_view}
use Rattle.page_core_numbers.proofs.expressions.negate_operand.Goals as goal

pub returns-in-None-clause-value : goal.returns-in-None-clause-value
returns-in-None-clause-value c = sym (negated_times-none c.args.times (operand_view c.args.operand) c.in-None.is)

pub returns-in-Some-clause-value : goal.returns-in-Some-clause-value
returns-in-Some-clause-value c =
    let fits : FitsSigned w32 c.negate.result = search rules in
    let given : FitsSigned w32 c.in-Some.value = search rules in
    negated_times-some c.args.times (operand_view c.args.operand) c.in-Some.value _ c.in-Some.is
    (to_z-of_z w32 c.negate.result fits ∙ (rw (to_z-of_z w32 c.in-Some.value given) at c.negate.ensures))
