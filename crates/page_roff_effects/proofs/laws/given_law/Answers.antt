use Rattle.page_roff_effects.proofs.CountLemmas.{is_front}
use Rattle.page_roff_effects.proofs.laws.given_law.Goals as goal

pub returns : goal.returns
returns c = λ output given. is_front output given
