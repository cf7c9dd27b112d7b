use Rattle.page_roff_machine.proofs.DoingLemmas.{collects_some, collects_none}
use Rattle.page_roff_machine.proofs.budgeted_actions.BudgetedActions.collect.Goals as goal

pub returns-in-Some : goal.returns-in-Some
returns-in-Some g c =
    collects_some g.O.NoteOut.left c.args.self.now c.keep.new.self c.args.out.now c.keep.new.out c.args.open_blocks c.args.line.now c.in-Some.text.now c.in-Some.ensures.value c.keep.ensures

pub returns-in-None : goal.returns-in-None
returns-in-None g c = collects_none g.O.NoteOut.left c.args.self.now c.args.out.now c.args.open_blocks c.args.line.now c.in-None.ensures.value
