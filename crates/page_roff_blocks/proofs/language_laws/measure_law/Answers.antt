use Rattle.page_roff_blocks.proofs.CreditLemmas.{next_falls}
use Rattle.page_roff_blocks.proofs.StepLemmas.{first_falls}
use Rattle.page_roff_blocks.proofs.language_laws.measure_law.Goals as goal

pub returns-clause-falls : goal.returns-clause-falls
returns-clause-falls g c = λ e huge r q h w x. next_falls e huge r q h w x

pub returns-clause-first : goal.returns-clause-first
returns-clause-first g c = λ e r q h x. first_falls e r q h x
