use Rattle.std.proofs.Common.{◌∙◌}
use Rattle.page_fill.proofs.LetteredPieces.{end-at}
use Rattle.page_fill.proofs.fillers.FillerWith.finish.Goals as goal

pub returns-clause-gets : goal.returns-clause-gets
returns-clause-gets g c = λ e is.
    rw (end-at c.self.inside.is_going c.self.inside.edge e c.if-not-self.false c.self.invariant.0 (c.self.view_is ∙ is)) at c.end-ended.ensures.gets
