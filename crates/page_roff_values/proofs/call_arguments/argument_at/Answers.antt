use Rattle.std.proofs.Common.{◌∙◌, sym}
use Rattle.page_roff_values.proofs.ArgumentLemmas.{no_argument}
use Rattle.page_roff_values.proofs.call_arguments.argument_at.Goals as goal

pub returns : goal.returns
returns c =
    let l = c.loop-first in
    sym (l.invariant ∙ no_argument l.rest.now l.left (sym c.is_empty.ensures ∙ c.loop-first-test.false))
