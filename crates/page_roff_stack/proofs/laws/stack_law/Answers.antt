use Rattle.page_roff_stack.proofs.InputStackLemmas.{next_steps}
use Rattle.page_roff_stack.proofs.laws.stack_law.Goals as goal

pub returns : goal.returns
returns g c = λ l s state. next_steps l s state
