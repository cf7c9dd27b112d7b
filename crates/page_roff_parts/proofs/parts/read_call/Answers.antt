use Rattle.std.proofs.Common.{ap, ◌∙◌, Some}
use Rattle.page_roff_parts.proofs.FrontLemmas.{argument_view}
use Rattle.page_roff_parts.proofs.parts.read_call.Goals as goal

pub returns-in-36-clause-seen : goal.returns-in-36-clause-seen
returns-in-36-clause-seen c =
    let e = rw c.after-rest.ensures at c.character_len-end.ensures.value in
    ap (λ s. Some s) c.called-in-36.ensures ∙ rw (c.after.ensures, e) (argument_view c.args.copy c.args.text.now c.requires.escape c.requires.some c.in-36.is)
