use Rattle.std.proofs.Common.{◌∙◌, sym, refl, arith}
use Rattle.std.proofs.lemmas.List.Edits.{length-remove}
use Rattle.page_roff_names.proofs.Laid.{put_miss}
use Rattle.page_roff_names.proofs.Kept.{limits_hit, limits_missed, within}
use Rattle.page_roff_names.proofs.changes.move_to.Goals as goal

pub rename-requires-clause-bytes : goal.rename-requires-clause-bytes
rename-requires-clause-bytes c = let h = within _ _ _ _ (sym c.passed_by_name.ensures ∙ c.in-None.is) in omega (arith, h.bytes_fit)

pub returns-in-Ok : goal.returns-in-Ok
returns-in-Ok c = (limits_hit _ _ _ _ _ c.requires.kept c.requires.place c.in-Ok.ensures.range c.in-Ok.ensures.found, c.move_onto.ensures)

pub returns-in-Some : goal.returns-in-Some
returns-in-Some c = (sym (limits_missed _ _ _ _ c.in-Err.to c.requires.place c.in-Err.ensures.range c.in-Err.ensures.found.0 c.in-Err.ensures.found.1) ∙ sym c.passed_by_name.ensures ∙ c.in-Some.is, refl)

pub returns-in-None : goal.returns-in-None
returns-in-None c =
    let r = length-remove c.args.row.now c.args.i c.requires.place in (
      sym (limits_missed _ _ _ _ c.in-Err.to c.requires.place c.in-Err.ensures.range c.in-Err.ensures.found.0 c.in-Err.ensures.found.1) ∙ sym c.passed_by_name.ensures ∙ c.in-None.is,
      c.rename.ensures ∙ sym (put_miss _ _ _ c.in-Err.to (omega (arith, r, c.in-Err.ensures.range)) c.in-Err.ensures.found.0 c.in-Err.ensures.found.1),
    )
