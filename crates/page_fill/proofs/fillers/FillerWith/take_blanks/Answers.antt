use Rattle.std.proofs.Common.{List, ℕ, replicate, ◌∙◌}
use Rattle.page_core_base.specs.declared.pieces.Piece.{Piece}
use Rattle.page_core_base.specs.declared.pieces.Piece.TheVariants.{Text}
use Rattle.page_fill.proofs.LetteredPieces.{again-at, again-kept, again-edge}
use Rattle.page_fill.proofs.fillers.FillerWith.take_blanks.Goals as goal

pub invariant_of-self-else-is_err : goal.invariant_of-self-else-is_err
invariant_of-self-else-is_err g c =
    let blanks : Piece (List ℕ) = Text (replicate {A = ℕ} c.args.count 32) c.args.font c.args.place in
    (λ goes. rw c.take_blanks-taken.ensures.edge (again-kept c.self.inside.edge c.args.times blanks (c.self.invariant.0 goes)), c.keep.ensures)

pub returns-then-is_err-clause-gets : goal.returns-then-is_err-clause-gets
returns-then-is_err-clause-gets g c = λ e is.
    let blanks : Piece (List ℕ) = Text (replicate {A = ℕ} c.args.count 32) c.args.font c.args.place in
    rw (again-at c.self.inside.is_going c.self.inside.edge e c.args.times blanks c.if-not-self.false c.self.invariant.0 (c.self.view_is ∙ is))
    at c.take_blanks-taken.ensures.gets

pub returns-else-is_err-clause-gets : goal.returns-else-is_err-clause-gets
returns-else-is_err-clause-gets g c = λ e is.
    let blanks : Piece (List ℕ) = Text (replicate {A = ℕ} c.args.count 32) c.args.font c.args.place in
    rw (again-at c.self.inside.is_going c.self.inside.edge e c.args.times blanks c.if-not-self.false c.self.invariant.0 (c.self.view_is ∙ is))
    at c.take_blanks-taken.ensures.gets

pub returns-else-is_err-clause-edge : goal.returns-else-is_err-clause-edge
returns-else-is_err-clause-edge g c = λ e is.
    let blanks : Piece (List ℕ) = Text (replicate {A = ℕ} c.args.count 32) c.args.font c.args.place in
    again-edge c.take_blanks-taken.result c.self.inside.is_going c.take_blanks-taken.new.self c.self.inside.edge e c.args.times blanks c.if-not-self.false c.self.invariant.0 (c.self.view_is ∙ is)
    c.take_blanks-taken.ensures.edge
