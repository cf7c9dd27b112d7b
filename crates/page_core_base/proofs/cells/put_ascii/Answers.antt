use Rattle.std.proofs.Common.{◌+◌, sym, ap, ◌∙◌, ◌++◌, ◌∷◌, [], slice_index_or}
use Rattle.page_core_base.specs.declared.cells.Cell.{Cell}
use Rattle.page_core_base.specs.declared.cells.Font.TheVariants.{R}
use Rattle.page_core_base.proofs.RowLemmas.{cells-more}
use Rattle.page_core_base.proofs.cells.put_ascii.Goals as goal

pub loop-i-preserved : goal.loop-i-preserved
loop-i-preserved c =
    let i = c.loop-i.i in
    let bytes = c.args.bytes.now in
    let fonts = c.args.fonts.now in
    let e = c.push_reserved.ensures in
    let before = c.loop-i.invariant in
    let cell : Cell = record { c = slice_index_or bytes i 0; font = slice_index_or fonts i R } in (
      e.items ∙ (ap (λ cells. cells ++ cell ∷ []) before.0 ∙ sym (cells-more bytes fonts i 0 R c.loop-i-test.true c.requires.0)),
      e.capacity ∙ before.1,
      e.len ∙ ap (λ n. n + 1) before.2,
    )
