use Rattle.page_roff_blocks.proofs.StepLemmas.{next_fits}
use Rattle.page_roff_blocks.proofs.language_laws.calls_law.Goals as goal

pub returns : goal.returns
returns g c = λ l r q k x. next_fits l r q k x
