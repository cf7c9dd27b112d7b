use Rattle.std.proofs.Common.{◌≡◌, ℕ, replicate}
use Rattle.page_core_base.specs.laws.Views.{CameRowsUpTo}
use Rattle.page_core_base.specs.declared.pieces.Piece.TheVariants.{Text}
use Rattle.page_fill.specs.machine.Fill as fill
use Rattle.page_fill.proofs.edges.FillEdge.blank_texts.Given as goal

abbrev pub invariant-loop-left : goal.invariant-loop-left
invariant-loop-left g l =
    let piece = Text (replicate {A = ℕ} l.count 32) l.font l.place in
    let all = fill.laid l.fn.self (replicate l.times piece) in
    let others = fill.laid l.self (replicate l.left piece) in
    CameRowsUpTo g.O.RowOut.left l.fn.out all others l.out × (others.edge ≡ all.edge)

abbrev pub decreases-loop-left : goal.decreases-loop-left
decreases-loop-left g l = l.left
