use Rattle.std.proofs.Common.{get_or, arith}
use Rattle.std.proofs.lemmas.Nat.{le_or_l, le_or_r}
use Rattle.page_core_base.specs.declared.cells.Font.TheVariants.{R}
use Rattle.page_core_base.specs.declared.cells.Cell.{Cell}
use Rattle.page_core_streams.proofs.AsciiLemmas.{plain_cell, plain_parts, plain_more, plain_less, joined_few, joined_none}
use Rattle.page_core_streams.proofs.cells.are_plain.Goals as goal

abbrev no_cell : Cell
no_cell = record { c = 0; font = R }

pub loop-cell-preserved : goal.loop-cell-preserved
loop-cell-preserved c =
    let l = c.loop-cell in
    let cells = c.args.cells.now in
    let cell = get_or cells l.cell-index no_cell in
    let bits = c.font_bits-fonts in (
      λ few none.
          let before = l.invariant.0 (omega (arith, le_or_l l.characters cell.c, few)) (omega (arith, le_or_l l.fonts bits.result, none)) in
          let one = plain_cell cell (omega (arith, le_or_r l.characters cell.c, few)) (bits.ensures.zero (omega (arith, le_or_r l.fonts bits.result, none))) in
          plain_more cells l.cell-index no_cell c.loop-cell-test.true before one,
      λ all.
          let less = plain_less cells l.cell-index no_cell c.loop-cell-test.true all in
          let before = l.invariant.1 less.0 in
          let one = plain_parts cell less.1 in
          (joined_few l.characters cell.c before.0 one.0, joined_none l.fonts bits.result before.1 (bits.ensures.roman one.1)),
    )
