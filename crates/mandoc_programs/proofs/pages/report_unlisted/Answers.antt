use Rattle.std.proofs.Common.{ap, Ok, ◌∙◌, subst, sym}
use Rattle.mandoc_formats.specs.Formats.{HasFailed}
use Rattle.mandoc_programs.specs.declared.bearings.Bearing.{Bearing}
use Rattle.mandoc_programs.specs.Indexes.{OfUnlisted, with}
use Rattle.mandoc_formats.specs.Turns.{Does}
use Rattle.mandoc_programs.proofs.Parts.{quiet, unlisted}
use Rattle.mandoc_formats.proofs.Turns.{tells}
use Rattle.mandoc_programs.proofs.pages.report_unlisted.Goals as goal

pub returns-in-NoFault : goal.returns-in-NoFault
returns-in-NoFault g c out =
    let err = g.V.Target.contents c.args.err.now in
    subst (λ (b : Bearing). Does (OfUnlisted (HasFailed g.V.Target.counts g.V.Target.failures) c.args.form c.args.path.now c.args.kind b) (Ok c.with.result) out out err err)
    (sym c.in-NoFault.is ∙ c.bearing_of_folder.ensures) (quiet (with 0) (Ok c.with.result) out err (ap Ok c.with.ensures))

pub returns-in_default : goal.returns-in_default
returns-in_default g c out =
    let a = g.V.Target.contents c.args.err.now in
    let b = g.V.Target.contents c.put_line_at.new.err in
    let line = rw c.unlisted_text.ensures at (tells c.put_line_at.result (HasFailed g.V.Target.counts g.V.Target.failures) a b _ c.put_line_at.ensures.writes c.put_line_at.ensures.failed) in
    subst (λ (k : Bearing). Does (OfUnlisted (HasFailed g.V.Target.counts g.V.Target.failures) c.args.form c.args.path.now c.args.kind k) c.after.result out out a b) c.bearing_of_folder.ensures
    (unlisted _ c.args.form c.args.path.now c.args.kind c.bearing_of_folder.result c.after.result out a b c.in_default.not-NoFault line c.after.ensures)
