use Rattle.std.proofs.Common.{refl, sym, ◌∙◌, arith}
use Rattle.page_fill_cells.specs.machine.BlankRuns.{is_blank_byte}
use Rattle.page_fill_cells.proofs.PlaceLemmas.{group-fails, group-more, group-last}
use Rattle.page_fill_cells.proofs.blank_runs.groups_blank.Goals as goal

pub loop-at-init : goal.loop-at-init
loop-at-init g c = (refl, omega arith)

pub returns-then-not-are_blanks : goal.returns-then-not-are_blanks
returns-then-not-are_blanks g c =
    sym (group-fails is_blank_byte c.args.bytes.now c.loop-at.at g.row.GROUP c.loop-at.invariant.0 (sym c.are_blanks.ensures ∙ c.if-not-are_blanks.true))

pub loop-at-smaller : goal.loop-at-smaller
loop-at-smaller g c = omega (arith, c.requires.some, c.loop-at-test.true)

pub loop-at-preserved : goal.loop-at-preserved
loop-at-preserved g c = (
  group-more is_blank_byte c.args.bytes.now c.loop-at.at g.row.GROUP c.loop-at.invariant.0 (sym c.are_blanks.ensures ∙ c.if-not-are_blanks.false),
  omega (arith, c.loop-at-test.true),
)

pub returns : goal.returns
returns g c = c.are_blanks-2.ensures ∙ group-last is_blank_byte c.args.bytes.now c.loop-at.at _ c.loop-at.invariant.0 (omega (arith, c.loop-at-test.false))
