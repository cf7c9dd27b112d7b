use Rattle.std.proofs.Common.{◌+◌, ◌<◌, length, arith}
use Rattle.page_fill_cells.specs.Cells.{cell_of}
use Rattle.page_fill_cells.proofs.PlaceLemmas.{put-same}
use Rattle.page_fill_cells.proofs.cell_places.put_blanks.Goals as goal

pub loop-i-preserved : goal.loop-i-preserved
loop-i-preserved c =
    let room : c.args.start + c.loop-i.i < length c.args.places.now = omega (arith, c.loop-i-test.true, c.requires) in
    rw (c.loop-i.invariant, c.replace-place.ensures.after) (put-same c.args.places.now c.args.start c.loop-i.i (cell_of c.args.font 32) room)
