use Rattle.std.proofs.Common.{[], Ok, Err, refl, sym, ap, inl, inr}
use Rattle.page_core_base.specs.declared.faults.Fault.TheVariants.{WriteText}
use Rattle.page_core_streams.specs.laws.Views.{Grows-nil}
use Rattle.mandoc_formats.specs.Formats.{HasFailed}
use Rattle.mandoc_programs.specs.Indexes.{entry_by, with}
use Rattle.mandoc_programs.proofs.Parts.{lost_so}
use Rattle.mandoc_programs.proofs.pages.give_record.Goals as goal

pub returns-in-Ok : goal.returns-in-Ok
returns-in-Ok g c err =
    let entry = entry_by c.args.form c.args.file.now c.args.page.now in
    (record { out = entry; err = []; end = with 0 }, record { err = refl; out = inl (refl, refl) }, c.in-Ok.ensures.gives, Grows-nil err, sym (ap Ok c.with.ensures))

pub returns-in-Err : goal.returns-in-Err
returns-in-Err g c err =
    let front = c.in-Err.ensures.gives in
    let failed : HasFailed g.W.Target.counts g.W.Target.failures = record { before = c.args.out.now; after = c.write_in.new.out; rose = c.in-Err.ensures.cause } in (
      record { out = front.done; err = []; end = Err WriteText },
      record { err = refl; out = inr ((front.rest, front.parts), refl, lost_so c.args.form _ failed) },
      front.grows,
      Grows-nil err,
      sym (ap Err c.in-Err.ensures.fault),
    )
