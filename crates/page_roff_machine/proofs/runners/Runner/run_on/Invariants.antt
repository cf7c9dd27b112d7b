use Rattle.page_roff_machine.specs.machine.Stepping.{machine_of, IsMeasured, Leads}
use Rattle.page_roff_machine.proofs.StepLemmas.{work_of}
use Rattle.page_roff_machine.proofs.runners.Runner.run_on.Given as goal

abbrev pub invariant-loop : goal.invariant-loop
invariant-loop g l =
    IsMeasured l.self × Leads g.O.NoteOut.left (machine_of l.fn.self) l.fn.out (machine_of l.self) l.out

abbrev pub decreases-loop : goal.decreases-loop
decreases-loop g l = work_of l.self
