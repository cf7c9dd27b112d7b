use Rattle.page_roff_blocks.proofs.LedgerLemmas.{page_line_bound}
use Rattle.page_roff_blocks.proofs.language_laws.budget_law.Goals as goal

pub returns : goal.returns
returns g c = λ e line at. page_line_bound e line at
