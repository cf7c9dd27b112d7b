use Rattle.page_roff_machine.proofs.DoingLemmas.{meet_passed, meet_first, meet_remainder}
use Rattle.page_roff_machine.proofs.budgeted_actions.BudgetedActions.meet.Goals as goal

pub returns-in-PassedOver : goal.returns-in-PassedOver
returns-in-PassedOver g c = rw c.in-PassedOver.is (meet_passed g.O.NoteOut.left c.args.self.now c.args.out.now)

pub returns-in-First : goal.returns-in-First
returns-in-First g c = rw (c.in-First.is, c.gave_up.ensures) (meet_first g.O.NoteOut.left c.args.self.now c.args.out.now)

pub returns-in-Remainder : goal.returns-in-Remainder
returns-in-Remainder g c =
    rw (c.in-Remainder.is, c.gave_up-in-Remainder.ensures)
    (meet_remainder g.O.NoteOut.left c.args.self.now c.charge.new.self c.args.out.now c.charge.new.out c.charge.ensures)
