use Rattle.std.proofs.Common.{Err, subst}
use Rattle.std.specs.IoError.{error_kind}
use Rattle.std.specs.declared.io.ErrorKind.{ErrorKind}
use Rattle.mandoc_formats.specs.Formats.{HasFailed}
use Rattle.mandoc_programs.specs.Bearings.{bearing_of_folder}
use Rattle.mandoc_programs.specs.Indexes.{OfUnlisted}
use Rattle.mandoc_programs.proofs.pages.Pages.give_listed.Goals as goal

pub returns-in-Ok : goal.returns-in-Ok
returns-in-Ok g c =
    let h = c.give_sorted.ensures c.args.path.now in (h.0, (_, c.in-Ok.ensures, h.1), h.2, h.3, h.4)

pub returns-in-Err : goal.returns-in-Err
returns-in-Err g c =
    let h = c.report_unlisted.ensures (g.W.Target.contents c.args.out.now) in
    let is = subst (λ (k : ErrorKind). OfUnlisted (HasFailed g.V.Target.counts g.V.Target.failures) c.args.self.now.form c.args.path.now k (bearing_of_folder k) h.0) c.kind.ensures h.1 in
    (h.0, (Err (error_kind c.in-Err.error), c.in-Err.ensures, is), h.2, h.3, h.4)
