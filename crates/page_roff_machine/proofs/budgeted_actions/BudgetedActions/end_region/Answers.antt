use Rattle.page_roff_machine.proofs.DoingLemmas.{end_kept, end_outside}
use Rattle.page_roff_machine.proofs.budgeted_actions.BudgetedActions.end_region.Goals as goal

pub returns-then-in_loop : goal.returns-then-in_loop
returns-then-in_loop g c =
    rw c.if-in_loop.true
    (end_kept g.O.NoteOut.left c.args.self.now c.end.new.self c.keep.new.self c.args.out.now c.end.new.out c.keep.new.out c.args.is_page c.args.region.now c.args.line.now c.end.ensures c.keep.ensures)

pub returns-else-in_loop : goal.returns-else-in_loop
returns-else-in_loop g c =
    rw c.if-in_loop.false
    (end_outside g.O.NoteOut.left c.args.self.now c.end.new.self c.args.out.now c.end.new.out c.args.is_page c.args.region.now c.args.line.now c.end.ensures)
