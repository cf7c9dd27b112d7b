use Rattle.page_core_numbers.proofs.ExpressionLemmas.{left-none}
use Rattle.page_core_numbers.proofs.text_columns.text_columns.Goals as goal

pub returns-clause-value : goal.returns-clause-value
returns-clause-value c =
    let l = c.loop-first in
    left-none c.args.output c.args.text.now l.sum l.rest.now l.invariant.1 c.in_default.ensures
