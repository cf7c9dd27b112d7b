use Rattle.std.proofs.Common.{refl}
use Rattle.page_roff_machine.proofs.DoingLemmas.{begin_page, begin_body}
use Rattle.page_roff_machine.proofs.budgeted_actions.BudgetedActions.begin_line.Goals as goal

pub returns-then-is_page : goal.returns-then-is_page
returns-then-is_page g c =
    rw c.if-is_page.true
    (begin_page g.O.NoteOut.left c.args.self.now (record { actions = c.args.self.now.actions; budget = c.begin.new.self }) c.args.out.now c.begin.ensures refl)

pub returns-else-is_page : goal.returns-else-is_page
returns-else-is_page g c =
    rw c.if-is_page.false (begin_body g.O.NoteOut.left c.args.self.now c.charge.new.self c.args.out.now c.charge.new.out c.charge.ensures)
