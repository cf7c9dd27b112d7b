use Rattle.page_fill_cells.proofs.PlaceLemmas.{put-cell}
use Rattle.page_fill_cells.proofs.cell_places.put_cells.Goals as goal

pub loop-i-preserved : goal.loop-i-preserved
loop-i-preserved c =
    rw (c.loop-i.invariant, c.replace-place.ensures.after) (put-cell c.args.places.now c.args.bytes.now c.args.start c.loop-i.i 0 c.args.font c.loop-i-test.true c.requires)
