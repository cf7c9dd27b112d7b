use Rattle.std.proofs.Common.{refl}
use Rattle.page_roff_machine.proofs.DoingLemmas.{keeps}
use Rattle.page_roff_machine.proofs.budgeted_actions.BudgetedActions.keep.Goals as goal

pub returns : goal.returns
returns g c =
    keeps g.O.NoteOut.left c.args.self.now (record { actions = c.collect_line.new.self; budget = c.args.self.now.budget }) c.args.out.now c.collect_line.new.out c.args.text.now refl
    (rw c.gave_up-is_run.ensures at c.collect_line.ensures)
