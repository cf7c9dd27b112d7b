use Rattle.std.proofs.Common.{ℕ, List, refl, ◌∙◌, subst, inl, inr, append-nil}
use Rattle.page_core_base.specs.declared.faults.Fault.TheVariants.{Memory}
use Rattle.mandoc_formats.specs.Formats.{Formatted, HasFailed, IsFound, Tells, fault_line, shown}
use Rattle.mandoc_formats.proofs.Turns.{reported}
use Rattle.mandoc_formats.proofs.formatting.format_file.Goals as goal

pub returns-in-Ok : goal.returns-in-Ok
returns-in-Ok g c =
    let f = c.format_named.ensures in
    let finds = g.R.Finds.finds c.args.rt.now in
    let failed = HasFailed g.V.Target.counts g.V.Target.failures in
    let settings = c.args.settings.now in (
      f.0,
      inr (subst (λ (s : List ℕ). IsFound finds failed (Formatted failed _ settings s) c.args.name.now s f.0) (c.as_str.ensures.value ∙ c.in-Ok.ensures) f.1),
      f.2,
      f.3,
      f.4,
      f.5,
    )

pub returns-in-Err : goal.returns-in-Err
returns-in-Err g c =
    let r = c.report_fault_at in
    let err = g.V.Target.contents in
    let line = subst (λ (n : List ℕ). Tells (HasFailed g.V.Target.counts g.V.Target.failures) (err c.args.err.now) (err r.new.err) (fault_line n Memory)) (append-nil (shown c.args.name.now)) r.ensures.line in
    reported _ r.result _ _ _ _ _ _ line
    (inl (record { out = refl; err = line.told; status = r.ensures.status; goes_on = r.ensures.stops })) r.ensures.status
