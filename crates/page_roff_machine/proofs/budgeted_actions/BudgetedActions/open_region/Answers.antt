use Rattle.std.proofs.Common.{refl}
use Rattle.page_roff_machine.proofs.DoingLemmas.{region_met}
use Rattle.page_roff_syntax.specs.laws.Views.{region_view}
use Rattle.page_roff_machine.proofs.budgeted_actions.BudgetedActions.open_region.Goals as goal

pub returns : goal.returns
returns g c =
    region_met g.O.NoteOut.left c.args.self.now c.meet-is_run.new.self (record { actions = c.open_region.new.self; budget = c.meet-is_run.new.self.budget })
    c.args.out.now c.meet-is_run.new.out c.open_region.new.out c.args.reached (region_view c.args.head.now) c.meet-is_run.result c.meet-is_run.ensures refl c.open_region.ensures
