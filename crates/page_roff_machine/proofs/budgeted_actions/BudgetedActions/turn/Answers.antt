use Rattle.std.proofs.Common.{refl, sym, ◌∙◌}
use Rattle.page_roff_machine.proofs.DoingLemmas.{turn_given, turn_given_up}
use Rattle.page_roff_machine.proofs.budgeted_actions.BudgetedActions.turn.Goals as goal

pub returns-then-gave_up : goal.returns-then-gave_up
returns-then-gave_up g c =
    turn_given_up g.O.NoteOut.left c.args.self.now c.charge.new.self c.args.out.now c.charge.new.out c.args.condition.now c.charge.ensures (sym c.gave_up.ensures ∙ c.if-gave_up.true)

pub returns-else-gave_up : goal.returns-else-gave_up
returns-else-gave_up g c =
    turn_given g.O.NoteOut.left c.args.self.now c.charge.new.self (record { actions = c.turn.new.self; budget = c.charge.new.self.budget }) c.args.out.now c.charge.new.out c.turn.new.out
    c.args.condition.now c.turn.result c.charge.ensures (sym c.gave_up.ensures ∙ c.if-gave_up.false) refl c.turn.ensures
