use Rattle.std.proofs.Common.{◌<◌, ◌≤◌, arith, length}
use Rattle.std.proofs.lemmas.Bool.Decides.{nat_tests}
use Rattle.page_scopes_text.proofs.PartedLemmas.{later_more, no_later}
use Rattle.page_scopes_text.proofs.parts.give_later.Goals as goal

pub loop-rest-preserved : goal.loop-rest-preserved
loop-rest-preserved g c = λ plan rest h.
    let l = c.loop-rest in
    let some : 0 < length l.rest.now = grind (arith, nat_tests) in
    c.give_first-rest.ensures.came plan rest
    (c.give.ensures plan _ (rw (later_more c.args.font c.args.place l.rest.now some) at (l.invariant plan rest h)))

pub returns : goal.returns
returns g c = λ plan rest h.
    let l = c.loop-rest in
    let none : length l.rest.now ≤ 0 = grind (arith, nat_tests) in
    rw (no_later c.args.font c.args.place l.rest.now none) at (l.invariant plan rest h)
