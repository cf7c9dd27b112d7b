use Rattle.std.proofs.Common.{sym, refl, ◌∙◌}
use Rattle.page_fill.proofs.LetteredPieces.{pieces-at}
use Rattle.page_fill.proofs.fillers.FillerWith.take_kept.Goals as goal

pub returns-clause-kept : goal.returns-clause-kept
returns-clause-kept g c = λ e pieces is taken are.
    let all = pieces-at c.self.inside.is_going c.self.inside.edge e pieces c.if-not-self.false c.self.invariant.0 (c.self.view_is ∙ is) in
    let kept = c.if-not-take_kept.ensures.kept refl pieces are in
    (c.take_kept.new.self, rw c.if-not-self.false refl, sym all ∙ kept)
