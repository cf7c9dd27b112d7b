use Rattle.std.proofs.Common.{refl}
use Rattle.page_roff_machine.proofs.DoingLemmas.{loop_met, loop_passed}
use Rattle.page_roff_blocks.specs.laws.Views.{loop_head_view}
use Rattle.page_roff_machine.proofs.budgeted_actions.BudgetedActions.open_loop.Goals as goal

pub returns-then-meet : goal.returns-then-meet
returns-then-meet g c =
    loop_met g.O.NoteOut.left c.args.self.now c.meet.new.self (record { actions = c.open_loop.new.self; budget = c.meet.new.self.budget })
    c.args.out.now c.meet.new.out c.open_loop.new.out c.args.reached (loop_head_view c.args.head.now) (rw c.if-meet.true at c.meet.ensures) refl c.open_loop.ensures

pub returns-else-meet : goal.returns-else-meet
returns-else-meet g c =
    loop_passed g.O.NoteOut.left c.args.self.now c.meet.new.self c.args.out.now c.meet.new.out c.args.reached (loop_head_view c.args.head.now)
    (rw c.if-meet.false at c.meet.ensures)
