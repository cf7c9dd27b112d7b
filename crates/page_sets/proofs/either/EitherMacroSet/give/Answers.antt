use Rattle.std.proofs.Common.{rules, refl}
use Rattle.page_sets.proofs.either.EitherMacroSet.give.Goals as goal

pub returns : goal.returns
returns g c = λ plan rest h.
    let k = c.give_events.ensures (record { plan = plan; name = _ }) rest (record { same = refl; came = h }) in
    search (rules, k.same, k.came)
