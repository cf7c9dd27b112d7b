use Rattle.page_roff_machine.proofs.MachineLemmas.{ended_sound}
use Rattle.page_roff_machine.proofs.machines.Machine.end.Goals as goal

pub invariant_of-self : goal.invariant_of-self
invariant_of-self g c = ended_sound c.self.inside.runner c.finish.new.self c.finish.ensures.setting c.self.invariant
