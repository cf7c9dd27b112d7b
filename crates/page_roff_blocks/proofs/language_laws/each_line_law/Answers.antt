use Rattle.page_roff_blocks.proofs.SpendLemmas.{step_spends, line_spends}
use Rattle.page_roff_blocks.proofs.language_laws.each_line_law.Goals as goal

pub returns-clause-step : goal.returns-clause-step
returns-clause-step g c = λ spent most e p r q u x. step_spends spent most e p r q u x

pub returns-clause-line : goal.returns-clause-line
returns-clause-line g c = λ spent most e p r q u x t. line_spends spent most e p r q u x t
