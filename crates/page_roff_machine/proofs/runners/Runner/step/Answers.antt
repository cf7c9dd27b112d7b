use Rattle.std.proofs.Common.{sym, ◌∙◌}
use Rattle.page_roff_machine.proofs.StepLemmas.{stops}
use Rattle.page_roff_machine.proofs.runners.Runner.step.Goals as goal

pub returns-then-is_idle : goal.returns-then-is_idle
returns-then-is_idle g c = stops g.O.NoteOut.left c.args.self.now c.args.out.now c.requires.setting (sym c.is_idle.ensures ∙ c.if-is_idle.true)
