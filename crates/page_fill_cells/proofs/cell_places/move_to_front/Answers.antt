use Rattle.std.proofs.Common.{◌≡◌, ◌+◌, ◌<◌, length, take, drop, set, get_or, ap, ◌∙◌, arith}
use Rattle.page_fill_cells.specs.machine.BlankRuns.{put_at}
use Rattle.page_fill_cells.proofs.PlaceLemmas.{put-moved}
use Rattle.page_fill_cells.proofs.cell_places.move_to_front.Goals as goal

pub loop-i-preserved : goal.loop-i-preserved
loop-i-preserved g c =
    let within : c.args.start + c.loop-i.i < length c.args.places.now = omega (arith, c.loop-i-test.true) in
    let old = c.args.places.now in
    let start = c.args.start in
    let i = c.loop-i.i in
    let moved = put_at old 0 (take i (drop start old)) in
    let value = c.index-places-start.result in
    let from : value ≡ get_or moved (start + i) value = c.index-places-start.is ∙ ap (λ l. get_or l (start + i) value) c.loop-i.invariant in
    ap (λ l. set l i value) c.loop-i.invariant ∙ (ap (λ x. set moved i x) from ∙ put-moved old start i value within)
