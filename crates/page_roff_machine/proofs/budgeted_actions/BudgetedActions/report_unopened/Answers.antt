use Rattle.std.proofs.Common.{refl, sym, ◌∙◌}
use Rattle.page_roff_machine.proofs.DoingLemmas.{unopened_told, unopened_silent}
use Rattle.page_roff_machine.proofs.budgeted_actions.BudgetedActions.report_unopened.Goals as goal

pub returns-then-not-is_silent : goal.returns-then-not-is_silent
returns-then-not-is_silent g c =
    unopened_told g.O.NoteOut.left c.args.self.now (record { actions = c.report_unopened.new.self; budget = c.args.self.now.budget }) c.args.out.now c.report_unopened.new.out
    c.args.is_page (sym c.is_silent.ensures ∙ c.if-not-is_silent.true) refl c.report_unopened.ensures

pub returns-else-not-is_silent : goal.returns-else-not-is_silent
returns-else-not-is_silent g c =
    unopened_silent g.O.NoteOut.left c.args.self.now c.args.out.now c.args.is_page (sym c.is_silent.ensures ∙ c.if-not-is_silent.false)
