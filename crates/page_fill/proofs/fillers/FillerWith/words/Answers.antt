use Rattle.std.proofs.Common.{◌∙◌}
use Rattle.page_core_base.specs.laws.Views.{lettered_pieces}
use Rattle.page_fill.proofs.LetteredPieces.{pieces-at, pieces-edge}
use Rattle.page_fill.proofs.fillers.FillerWith.words.Goals as goal

pub returns-then-is_err-clause-gets : goal.returns-then-is_err-clause-gets
returns-then-is_err-clause-gets g c = λ e words is are.
    rw (pieces-at c.self.inside.is_going c.self.inside.edge e (lettered_pieces c.args.blanks words) c.if-not-self.false c.self.invariant.0 (c.self.view_is ∙ is))
    at (c.words-taken.ensures.gets words are)

pub returns-else-is_err-clause-gets : goal.returns-else-is_err-clause-gets
returns-else-is_err-clause-gets g c = λ e words is are.
    rw (pieces-at c.self.inside.is_going c.self.inside.edge e (lettered_pieces c.args.blanks words) c.if-not-self.false c.self.invariant.0 (c.self.view_is ∙ is))
    at (c.words-taken.ensures.gets words are)

pub returns-else-is_err-clause-edge : goal.returns-else-is_err-clause-edge
returns-else-is_err-clause-edge g c = λ e words is are.
    pieces-edge c.words-taken.result c.self.inside.is_going c.words-taken.new.self c.self.inside.edge e (lettered_pieces c.args.blanks words) c.if-not-self.false c.self.invariant.0 (c.self.view_is ∙ is)
    (c.words-taken.ensures.edge words are)
