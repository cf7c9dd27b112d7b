use Rattle.std.proofs.Common.{refl, ap, ◌∙◌, not, ◌&&◌}
use Rattle.page_roff_effects.specs.machine.Acting.{measured}
use Rattle.page_roff_machine.proofs.DoingLemmas.{read_met, passed_nothing}
use Rattle.page_roff_machine.proofs.budgeted_actions.BudgetedActions.read.Goals as goal

pub returns-clause-done : goal.returns-clause-done
returns-clause-done g c =
    read_met g.O.NoteOut.left c.args.self.now c.begin_line.new.self (record { actions = c.read_line.new.self; budget = c.begin_line.new.self.budget })
    c.args.out.now c.begin_line.new.out c.read_line.new.out c.args.is_page c.args.region.now c.args.line.now c.read_line.result c.begin_line.ensures refl
    (rw c.runs-is_run.ensures at c.read_line.ensures)

pub returns-clause-none : goal.returns-clause-none
returns-clause-none g c = λ h.
    c.read_line.ensures.kind
    ∙ passed_nothing (measured c.begin_line.new.self.actions.setting) c.args.region.now c.runs-is_run.result c.args.line.now c.begin_line.new.self.actions.memory
    (c.runs-is_run.ensures ∙ ap (λ is_run. is_run && not c.begin_line.new.self.budget.gave_up) h)
