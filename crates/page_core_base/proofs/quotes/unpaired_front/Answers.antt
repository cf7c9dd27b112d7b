use Rattle.std.proofs.Common.{◌<◌, [], ◌∷◌, length, get_or, arith}
use Rattle.std.proofs.lemmas.Bool.Decides.{nat_tests}
use Rattle.std.proofs.lemmas.List.{length-append, take_rest}
use Rattle.page_core_base.proofs.LatchLemmas.{unpaired_step}
use Rattle.page_core_base.proofs.quotes.unpaired_front.Goals as goal

pub loop-front-preserved : goal.loop-front-preserved
loop-front-preserved g c =
    let l = c.loop-front in
    let some : 0 < length l.rest.now = grind (arith, nat_tests) in
    let room : length l.front.items < g.row.ROOM = grind (arith, nat_tests) in
    let step = rw (take_rest l.rest.now 1) at c.after_byte-rest.ensures.value in
    rw c.push.ensures.items (
      unpaired_step g.row.ROOM l.front.items l.rest.now _ c.after_byte-rest.result.now room some l.invariant.0 step,
      omega (arith, room, length-append l.front.items (get_or l.rest.now 0 0 ∷ [])),
    )
