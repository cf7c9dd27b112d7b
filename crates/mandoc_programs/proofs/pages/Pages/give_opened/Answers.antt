use Rattle.std.proofs.Common.{Ok, Err, None, ap, ◌∙◌}
use Rattle.std.specs.IoError.{raw_os_error}
use Rattle.mandoc_programs.specs.Bearings.{bearing_of_file}
use Rattle.mandoc_formats.specs.Formats.{HasFailed, shown, unopened_line}
use Rattle.mandoc_programs.specs.Indexes.{after, with}
use Rattle.mandoc_programs.proofs.Parts.{quiet, said}
use Rattle.mandoc_formats.proofs.Turns.{tells}
use Rattle.mandoc_programs.proofs.pages.Pages.give_opened.Goals as goal

pub returns-in-Ok-None : goal.returns-in-Ok-None
returns-in-Ok-None g c =
    let h = quiet (with 0) (Ok c.with.result) (g.W.Target.contents c.args.out.now) (g.V.Target.contents c.args.err.now) (ap Ok c.with.ensures) in
    let sees = rw c.in-Ok-None.field-0-is at c.in-Ok-None.ensures in
    (h.0, (Ok None, sees, h.1), h.2, h.3, h.4)

pub returns-in-Err : goal.returns-in-Err
returns-in-Err g c =
    let number = raw_os_error c.in-Err.error in
    let a = g.V.Target.contents c.args.err.now in
    let b = g.V.Target.contents c.put_line_at.new.err in
    let line = tells c.put_line_at.result (HasFailed g.V.Target.counts g.V.Target.failures) a b (unopened_line (shown c.args.path.now)) c.put_line_at.ensures.writes c.put_line_at.ensures.failed in
    let form = c.args.self.now.form in
    let end = c.after.ensures ∙ ap (after form) (c.bearing_of_file.ensures ∙ ap bearing_of_file c.raw_os_error.ensures) in
    let h = said _ (unopened_line (shown c.args.path.now)) (after form (bearing_of_file number)) c.after.result (g.W.Target.contents c.args.out.now) a b line end in
    (h.0, (Err number, c.in-Err.ensures, h.1), h.2, h.3, h.4)
