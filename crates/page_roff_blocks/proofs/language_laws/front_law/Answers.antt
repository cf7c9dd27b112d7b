use Rattle.page_roff_blocks.proofs.MachineLemmas.{rest_front}
use Rattle.page_roff_blocks.proofs.language_laws.front_law.Goals as goal

pub returns : goal.returns
returns g c = λ l front f r. rest_front front l f r
