use Rattle.std.proofs.Common.{refl}
use Rattle.page_roff_machine.proofs.DoingLemmas.{end_met}
use Rattle.page_roff_machine.proofs.budgeted_actions.BudgetedActions.end.Goals as goal

pub returns : goal.returns
returns g c =
    end_met g.O.NoteOut.left c.args.self.now c.begin_line.new.self (record { actions = c.end_region.new.self; budget = c.begin_line.new.self.budget })
    c.args.out.now c.begin_line.new.out c.end_region.new.out c.args.is_page c.args.region.now c.begin_line.ensures refl
    (rw c.runs-is_run.ensures at c.end_region.ensures)
