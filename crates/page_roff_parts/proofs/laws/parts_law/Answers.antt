use Rattle.page_roff_parts.proofs.FrontLemmas.{parts_more}
use Rattle.page_roff_parts.proofs.laws.parts_law.Goals as goal

pub returns : goal.returns
returns c = λ copy byte bytes. parts_more copy byte bytes
