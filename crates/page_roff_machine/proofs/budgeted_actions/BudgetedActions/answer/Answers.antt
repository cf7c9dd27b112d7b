use Rattle.page_roff_machine.proofs.DoingLemmas.{answer_met, answer_passed}
use Rattle.page_roff_blocks.specs.laws.Views.{branch_view}
use Rattle.page_roff_machine.proofs.budgeted_actions.BudgetedActions.answer.Goals as goal

pub returns-then-meet : goal.returns-then-meet
returns-then-meet g c =
    answer_met g.O.NoteOut.left c.args.self.now c.meet.new.self c.value.new.self c.args.out.now c.meet.new.out c.value.new.out c.args.reached
    (branch_view c.args.branch.now) c.args.bit c.value.result (rw c.if-meet.true at c.meet.ensures) c.value.ensures

pub returns-else-meet : goal.returns-else-meet
returns-else-meet g c =
    answer_passed g.O.NoteOut.left c.args.self.now c.meet.new.self c.args.out.now c.meet.new.out c.args.reached (branch_view c.args.branch.now) c.args.bit
    (rw c.if-meet.false at c.meet.ensures)
