use Rattle.page_core_numbers.proofs.ExpressionLemmas.{ten_thousandths-places}
use Rattle.page_core_numbers.proofs.decimals.fraction_value.Goals as goal

pub returns-clause-value : goal.returns-clause-value
returns-clause-value c =
    rw (c.digit_at.ensures.value, c.digit_at-2.ensures.value, c.digit_at-3.ensures.value, c.digit_at-4.ensures.value) (ten_thousandths-places c.args.digits.now)
