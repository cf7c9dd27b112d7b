use Rattle.std.proofs.Common.{refl}
use Rattle.page_roff_machine.proofs.DoingLemmas.{leaf_met, leaf_passed}
use Rattle.page_roff_machine.proofs.budgeted_actions.BudgetedActions.leaf.Goals as goal

pub returns-then-meet-clause-done : goal.returns-then-meet-clause-done
returns-then-meet-clause-done g c =
    leaf_met g.O.NoteOut.left c.args.self.now c.meet.new.self (record { actions = c.leaf.new.self; budget = c.meet.new.self.budget })
    c.args.out.now c.meet.new.out c.leaf.new.out c.args.reached c.args.may_call c.args.text.now c.leaf.result (rw c.if-meet.true at c.meet.ensures) refl c.leaf.ensures.gives

pub returns-else-meet-clause-done : goal.returns-else-meet-clause-done
returns-else-meet-clause-done g c =
    leaf_passed g.O.NoteOut.left c.args.self.now c.meet.new.self c.args.out.now c.meet.new.out c.args.reached c.args.may_call c.args.text.now
    (rw c.if-meet.false at c.meet.ensures)
