use Rattle.std.proofs.Common.{refl}
use Rattle.page_roff_machine.proofs.DoingLemmas.{value_if, value_if_else, value_else}
use Rattle.page_roff_heads.specs.laws.Views.{condition_view}
use Rattle.page_roff_machine.proofs.budgeted_actions.BudgetedActions.value.Goals as goal

pub returns-in-Else : goal.returns-in-Else
returns-in-Else g c = rw c.in-Else.is (value_else g.O.NoteOut.left c.args.self.now c.args.out.now c.args.bit)

pub returns-in-If : goal.returns-in-If
returns-in-If g c =
    rw c.in-If.is
    (value_if g.O.NoteOut.left c.args.self.now (record { actions = c.test.new.self; budget = c.args.self.now.budget }) c.args.out.now c.test.new.out
    (condition_view c.in-If.condition) c.args.bit c.test.result refl c.test.ensures)

pub returns-in-IfElse : goal.returns-in-IfElse
returns-in-IfElse g c =
    rw c.in-IfElse.is
    (value_if_else g.O.NoteOut.left c.args.self.now (record { actions = c.test-in-IfElse.new.self; budget = c.args.self.now.budget }) c.args.out.now c.test-in-IfElse.new.out
    (condition_view c.in-IfElse.condition) c.args.bit c.test-in-IfElse.result refl c.test-in-IfElse.ensures)
