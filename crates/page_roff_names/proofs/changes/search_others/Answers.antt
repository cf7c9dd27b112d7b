use Rattle.std.proofs.Common.{◌≡◌, subst, arith}
use Rattle.page_roff_names.specs.machine.Changes.{FoundAt}
use Rattle.page_roff_names.proofs.Laid.{missing_left, missing_itself}
use Rattle.page_roff_names.proofs.changes.search_others.Goals as goal

pub returns-in-Ok-2-clause-found : goal.returns-in-Ok-2-clause-found
returns-in-Ok-2-clause-found c =
    let same : c.in-Ok.place ≡ c.args.i = omega (arith, c.if-place-i.false) in
    missing_itself _ _ _ c.requires.sorted c.requires.i (subst (FoundAt c.args.name.now c.args.row.now) same c.in-Ok.ensures.found)

pub returns-in-Err-clause-found : goal.returns-in-Err-clause-found
returns-in-Err-clause-found c = missing_left _ _ _ _ _ c.requires.i c.in-Err.ensures.found.0 c.in-Err.ensures.found.1 c.place_without.ensures
