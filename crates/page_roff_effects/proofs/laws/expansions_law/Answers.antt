use Rattle.page_roff_effects.proofs.CountLemmas.{spends}
use Rattle.page_roff_effects.proofs.laws.expansions_law.Goals as goal

pub returns : goal.returns
returns c = λ output. spends output
