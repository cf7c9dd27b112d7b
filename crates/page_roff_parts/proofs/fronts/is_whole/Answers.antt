use Rattle.page_roff_parts.proofs.FrontLemmas.{front_whole}
use Rattle.page_roff_parts.proofs.fronts.is_whole.Goals as goal

pub returns-then-text-fits-clause-front : goal.returns-then-text-fits-clause-front
returns-then-text-fits-clause-front c = λ h. front_whole c.args.copy c.args.text.now (c.is_verbatim.ensures h)
