use Rattle.std.proofs.Common.{refl, inl}
use Rattle.mandoc_formats.proofs.Turns.{reported}
use Rattle.mandoc_programs.proofs.searching.search_named.Goals as goal

pub returns-in-None : goal.returns-in-None
returns-in-None g c =
    let r = c.report_unopened in
    let line = r.ensures.line in
    reported _ r.result _ _ _ _ _ _ line (inl (
      rw c.in-None.is at c.find.ensures,
      record { out = refl; err = line.told; status = r.ensures.status; goes_on = r.ensures.goes_on },
    )) r.ensures.status
