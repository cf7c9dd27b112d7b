use Rattle.page_roff_blocks.proofs.MachineLemmas.{next_law, end_law, page_law}
use Rattle.page_roff_blocks.proofs.language_laws.machine_law.Goals as goal

pub returns-clause-step : goal.returns-clause-step
returns-clause-step g c = λ l r q e. next_law l r q e

pub returns-clause-end : goal.returns-clause-end
returns-clause-end g c = λ l r e. end_law l r e

pub returns-clause-start : goal.returns-clause-start
returns-clause-start g c = λ l line at. page_law l line at
