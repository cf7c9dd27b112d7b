use Rattle.page_roff_machine.proofs.DoingLemmas.{loop_whole, loop_not_met}
use Rattle.page_roff_blocks.specs.laws.Views.{loop_head_view}
use Rattle.page_roff_machine.proofs.budgeted_actions.BudgetedActions.pass_loop.Goals as goal

pub returns-then-open_loop-clause-done : goal.returns-then-open_loop-clause-done
returns-then-open_loop-clause-done g c =
    loop_whole g.O.NoteOut.left c.args.self.now c.open_loop.new.self c.close_loop.new.self c.args.out.now c.open_loop.new.out c.close_loop.new.out c.args.reached c.args.may_run
    (loop_head_view c.args.head.now) c.close_loop.result (rw c.if-open_loop.true at c.open_loop.ensures) c.close_loop.ensures.done

pub returns-else-open_loop-clause-done : goal.returns-else-open_loop-clause-done
returns-else-open_loop-clause-done g c =
    loop_not_met g.O.NoteOut.left c.args.self.now c.open_loop.new.self c.args.out.now c.open_loop.new.out c.args.reached c.args.may_run (loop_head_view c.args.head.now)
    (rw c.if-open_loop.false at c.open_loop.ensures)
