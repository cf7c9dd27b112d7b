use Rattle.std.proofs.Common.{refl}
use Rattle.page_roff_machine.proofs.DoingLemmas.{finished, not_begun}
use Rattle.page_roff_syntax.specs.laws.Views.{opened_view}
use Rattle.page_roff_machine.proofs.budgeted_actions.BudgetedActions.finish.Goals as goal

pub returns-then-has_begun : goal.returns-then-has_begun
returns-then-has_begun g c =
    rw c.if-has_begun.true
    (finished g.O.NoteOut.left c.args.self.now (record { actions = c.finish.new.self; budget = c.args.self.now.budget }) c.args.out.now c.finish.new.out
    (opened_view c.args.region) c.args.in_loop refl (rw c.gave_up-gave_up.ensures at c.finish.ensures))

pub returns-else-has_begun : goal.returns-else-has_begun
returns-else-has_begun g c =
    rw c.if-has_begun.false (not_begun g.O.NoteOut.left c.args.self.now c.args.out.now (opened_view c.args.region) c.args.in_loop)
