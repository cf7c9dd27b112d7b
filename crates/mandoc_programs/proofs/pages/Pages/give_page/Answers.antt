use Rattle.std.proofs.Common.{ℕ, List, Ok, Err, refl, ap, ◌∙◌, subst, append-nil}
use Rattle.mandoc_programs.specs.declared.page_records.Found.TheVariants as found
use Rattle.mandoc_programs.specs.Bearings.{bearing_of_page}
use Rattle.mandoc_formats.specs.Formats.{HasFailed, Tells, fault_line, shown}
use Rattle.mandoc_programs.specs.Indexes.{after, with}
use Rattle.mandoc_programs.proofs.Parts.{quiet, said}
use Rattle.mandoc_programs.proofs.pages.Pages.give_page.Goals as goal

pub returns-in-Ok-Record : goal.returns-in-Ok-Record
returns-in-Ok-Record g c =
    let h = c.give_record.ensures (g.V.Target.contents c.args.err.now) in
    let is = rw c.in-Ok-Record.field-0-is at c.in-Ok-Record.ensures in
    (h.0, (Ok (found.Record c.in-Ok-Record.page), is, h.1), h.2, h.3, h.4)

pub returns-in-Ok-Nothing : goal.returns-in-Ok-Nothing
returns-in-Ok-Nothing g c =
    let h = quiet (with 0) (Ok c.with.result) (g.W.Target.contents c.args.out.now) (g.V.Target.contents c.args.err.now) (ap Ok c.with.ensures) in
    let is = rw c.in-Ok-Nothing.field-0-is at c.in-Ok-Nothing.ensures in
    (h.0, (Ok found.Nothing, is, h.1), h.2, h.3, h.4)

pub returns-in-Ok-Compressed : goal.returns-in-Ok-Compressed
returns-in-Ok-Compressed g c =
    let h = quiet (Ok (record { status = 0; compressed = 1 })) (Ok (record { status = 0; compressed = 1 })) (g.W.Target.contents c.args.out.now) (g.V.Target.contents c.args.err.now) refl in
    let is = rw c.in-Ok-Compressed.field-0-is at c.in-Ok-Compressed.ensures in
    (h.0, (Ok found.Compressed, is, h.1), h.2, h.3, h.4)

pub returns-in-Err : goal.returns-in-Err
returns-in-Err g c =
    let why = c.in-Err.fault in
    let a = g.V.Target.contents c.args.err.now in
    let b = g.V.Target.contents c.report_fault_at.new.err in
    let name = shown c.args.path.now in
    let line = subst (λ (n : List ℕ). Tells (HasFailed g.V.Target.counts g.V.Target.failures) a b (fault_line n why)) (append-nil name) c.report_fault_at.ensures.line in
    let form = c.args.self.now.form in
    let end = c.after.ensures ∙ ap (after form) c.bearing_of_page.ensures in
    let h = said _ (fault_line name why) (after form (bearing_of_page why)) c.after.result (g.W.Target.contents c.args.out.now) a b line end in
    (h.0, (Err why, c.in-Err.ensures, h.1), h.2, h.3, h.4)
