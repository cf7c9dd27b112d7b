use Rattle.page_roff_machine.proofs.DoingLemmas.{read_kept, read_outside}
use Rattle.page_roff_machine.proofs.budgeted_actions.BudgetedActions.read_line.Goals as goal

pub returns-then-in_loop : goal.returns-then-in_loop
returns-then-in_loop g c =
    rw c.if-in_loop.true
    (read_kept g.O.NoteOut.left c.args.self.now c.read-product.new.self c.keep.new.self c.args.out.now c.read-product.new.out c.keep.new.out c.args.is_page c.args.region.now c.args.line.now
    c.read-product.result (c.read-product.ensures.none (c.requires.passed c.if-in_loop.true)) c.read-product.ensures.done c.keep.ensures)

pub returns-else-in_loop : goal.returns-else-in_loop
returns-else-in_loop g c =
    rw c.if-in_loop.false
    (read_outside g.O.NoteOut.left c.args.self.now c.read-product.new.self c.args.out.now c.read-product.new.out c.args.is_page c.args.region.now c.args.line.now c.read-product.result
    c.read-product.ensures.done)
