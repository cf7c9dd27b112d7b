use Rattle.page_roff_machine.proofs.machines.Machine.advance.Goals as goal

pub returns : goal.returns
returns g c = rw (← c.self.view_is) c.run.ensures.advances
