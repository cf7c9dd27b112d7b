use Rattle.page_engine.proofs.WholeLines.{open_at}
use Rattle.page_engine.proofs.pages.Page.phase.Goals as goal

pub returns-clause-open : goal.returns-clause-open
returns-clause-open c = λ is. open_at c.self.inside.layers c.self.invariant c.self.view_is is
