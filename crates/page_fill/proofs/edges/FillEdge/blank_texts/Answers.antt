use Rattle.std.proofs.Common.{◌≡◌, ℕ, ◌<◌, ◌≤◌, [], append_assoc, ap, arith, refl, replicate, sym, ◌∙◌}
use Rattle.page_core_base.specs.declared.pieces.Piece.TheVariants.{Text}
use Rattle.page_fill.specs.machine.Fill.{laid}
use Rattle.page_fill.proofs.FilledWords.{texts-parted}
use Rattle.page_fill.proofs.edges.FillEdge.blank_texts.Goals as goal

pub loop-left-preserved : goal.loop-left-preserved
loop-left-preserved g c =
    let l = c.loop-left in
    let some : 0 < c.min-part.result = omega (arith, c.min-part.ensures, c.loop-left-test.true) in
    let within : c.min-part.result ≤ l.left = omega (arith, c.min-part.ensures) in
    let more = texts-parted l.self l.left c.min-part.result c.args.count c.args.font c.args.place some within in
    rw c.blanks.ensures.1 (
      (λ plan rows notes h. c.blanks.ensures.0 plan _ _ (rw (more, append_assoc, append_assoc) at (l.invariant.0 plan rows notes h))),
      sym (ap (λ m. m.edge) more) ∙ l.invariant.1,
    )

pub returns : goal.returns
unfolding laid
returns g c =
    let l = c.loop-left in
    let none : l.left ≡ 0 = omega (arith, c.loop-left-test.false) in
    let done : laid l.self (replicate l.left (Text (replicate {A = ℕ} c.args.count 32) c.args.font c.args.place)) ≡ laid l.self [] = rw none refl in
    ((λ plan rows notes h. rw done at (l.invariant.0 plan rows notes h)), rw done at l.invariant.1)
