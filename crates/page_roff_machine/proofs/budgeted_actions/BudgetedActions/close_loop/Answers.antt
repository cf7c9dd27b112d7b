use Rattle.std.proofs.Common.{refl}
use Rattle.page_roff_machine.proofs.DoingLemmas.{loop_closed}
use Rattle.page_roff_machine.proofs.budgeted_actions.BudgetedActions.close_loop.Goals as goal

pub returns-clause-done : goal.returns-clause-done
returns-clause-done g c =
    loop_closed g.O.NoteOut.left c.args.self.now (record { actions = c.close_loop.new.self; budget = c.args.self.now.budget }) c.args.out.now c.close_loop.new.out
    c.args.may_run c.close_loop.result _ refl (rw c.gave_up-is_run.ensures at c.close_loop.ensures.gives) c.close_loop.ensures.repeats
