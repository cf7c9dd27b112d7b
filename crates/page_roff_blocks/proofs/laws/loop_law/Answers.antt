use Rattle.page_roff_blocks.proofs.TieLemmas.{left_cons}
use Rattle.page_roff_blocks.proofs.laws.loop_law.Goals as goal

pub returns : goal.returns
returns c = λ blocks line. left_cons blocks line
