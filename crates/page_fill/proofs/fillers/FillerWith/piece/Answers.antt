use Rattle.std.proofs.Common.{◌∙◌}
use Rattle.page_core_base.specs.laws.Views.{piece_of}
use Rattle.page_fill.proofs.LetteredPieces.{piece-at, piece-kept, edge-at}
use Rattle.page_fill.proofs.fillers.FillerWith.piece.Goals as goal

pub invariant_of-self-else-is_err : goal.invariant_of-self-else-is_err
invariant_of-self-else-is_err g c =
    (λ goes. rw c.piece-result.ensures.edge (piece-kept c.self.inside.edge (piece_of c.args.piece) (c.self.invariant.0 goes)), c.keep.ensures)

pub returns-then-is_err-clause-gets : goal.returns-then-is_err-clause-gets
returns-then-is_err-clause-gets g c = λ e is.
    rw (piece-at c.self.inside.is_going c.self.inside.edge e (piece_of c.args.piece) c.if-not-self.false c.self.invariant.0 (c.self.view_is ∙ is))
    at c.piece-result.ensures.gets

pub returns-else-is_err-clause-gets : goal.returns-else-is_err-clause-gets
returns-else-is_err-clause-gets g c = λ e is.
    rw (piece-at c.self.inside.is_going c.self.inside.edge e (piece_of c.args.piece) c.if-not-self.false c.self.invariant.0 (c.self.view_is ∙ is))
    at c.piece-result.ensures.gets

pub returns-else-is_err-clause-edge : goal.returns-else-is_err-clause-edge
returns-else-is_err-clause-edge g c = λ e is.
    let p = piece_of c.args.piece in
    edge-at c.piece-result.result c.self.inside.is_going c.piece-result.new.self c.self.inside.edge e p c.if-not-self.false c.self.invariant.0 (c.self.view_is ∙ is)
    c.piece-result.ensures.edge
