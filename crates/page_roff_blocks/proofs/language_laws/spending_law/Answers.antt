use Rattle.page_roff_blocks.proofs.SpendLemmas.{page_spends}
use Rattle.page_roff_blocks.proofs.language_laws.spending_law.Goals as goal

pub returns : goal.returns
returns g c = λ spent most e p lines at. page_spends spent most e p lines at
