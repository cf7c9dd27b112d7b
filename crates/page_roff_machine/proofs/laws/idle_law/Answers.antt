use Rattle.page_roff_machine.proofs.MachineLemmas.{idle_stands}
use Rattle.page_roff_machine.proofs.laws.idle_law.Goals as goal

pub returns : goal.returns
returns c = λ m e. idle_stands m e
