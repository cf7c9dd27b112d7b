use Rattle.std.proofs.Common.{refl, sym, ◌∙◌}
use Rattle.page_roff_machine.proofs.DoingLemmas.{charge_beyond, charge_within}
use Rattle.page_roff_machine.proofs.budgeted_actions.BudgetedActions.charge.Goals as goal

pub returns-then-charge : goal.returns-then-charge
returns-then-charge g c =
    charge_beyond g.O.NoteOut.left c.args.self.now (record { actions = c.exhaust.new.self; budget = c.charge.new.self }) c.args.out.now c.exhaust.new.out
    (sym c.charge.ensures.exhausts ∙ c.if-charge.true) c.charge.ensures.budget c.exhaust.ensures

pub returns-else-charge : goal.returns-else-charge
returns-else-charge g c =
    charge_within g.O.NoteOut.left c.args.self.now (record { actions = c.args.self.now.actions; budget = c.charge.new.self }) c.args.out.now
    (sym c.charge.ensures.exhausts ∙ c.if-charge.false) c.charge.ensures.budget refl
