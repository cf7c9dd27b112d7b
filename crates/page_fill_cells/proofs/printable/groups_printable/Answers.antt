use Rattle.std.proofs.Common.{refl, sym, ◌∙◌, arith}
use Rattle.page_core_base.specs.laws.Views.{is_printable}
use Rattle.page_fill_cells.proofs.PlaceLemmas.{group-fails, group-more, group-last}
use Rattle.page_fill_cells.proofs.printable.groups_printable.Goals as goal

pub loop-at-init : goal.loop-at-init
loop-at-init g c = (refl, omega arith)

pub returns-then-not-are_printable : goal.returns-then-not-are_printable
returns-then-not-are_printable g c =
    sym (group-fails is_printable c.args.bytes.now c.loop-at.at g.row.GROUP c.loop-at.invariant.0 (sym c.are_printable.ensures ∙ c.if-not-are_printable.true))

pub loop-at-smaller : goal.loop-at-smaller
loop-at-smaller g c = omega (arith, c.requires.some, c.loop-at-test.true)

pub loop-at-preserved : goal.loop-at-preserved
loop-at-preserved g c = (
  group-more is_printable c.args.bytes.now c.loop-at.at g.row.GROUP c.loop-at.invariant.0 (sym c.are_printable.ensures ∙ c.if-not-are_printable.false),
  omega (arith, c.loop-at-test.true),
)

pub returns : goal.returns
returns g c = c.are_printable-2.ensures ∙ group-last is_printable c.args.bytes.now c.loop-at.at _ c.loop-at.invariant.0 (omega (arith, c.loop-at-test.false))
