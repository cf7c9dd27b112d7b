use Rattle.page_core_base.specs.declared.cells.Font.TheVariants.{R}
use Rattle.page_fill_cells.proofs.PlaceLemmas.{put-letter}
use Rattle.page_fill_cells.proofs.cell_places.put_cells_in.Goals as goal

pub loop-i-preserved : goal.loop-i-preserved
loop-i-preserved c =
    rw (c.loop-i.invariant, c.replace-place.ensures.after)
    (put-letter c.args.places.now c.args.bytes.now c.args.fonts.now c.args.start c.loop-i.i 0 R c.loop-i-test.true c.requires.fonts c.requires.room)
