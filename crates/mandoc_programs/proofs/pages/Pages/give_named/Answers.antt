use Rattle.std.proofs.Common.{Ok, Err, true, false, refl, sym, ap, ◌∙◌, inl, inr, subst, ℕ, List}
use Rattle.page_core_base.specs.declared.faults.Fault.TheVariants.{Memory}
use Rattle.page_engine_index.specs.Fields.{is_field}
use Rattle.mandoc_formats.specs.Formats.{HasFailed}
use Rattle.mandoc_programs.specs.Indexes.{IsOpened, lost, with}
use Rattle.mandoc_programs.proofs.Parts.{quiet}
use Rattle.mandoc_formats.proofs.Turns.{at_bool}
use Rattle.mandoc_programs.proofs.pages.Pages.give_named.Goals as goal

pub returns-then-not-is_field : goal.returns-then-not-is_field
returns-then-not-is_field g c =
    let h = quiet (with 0) (Ok c.with.result) (g.W.Target.contents c.args.out.now) (g.V.Target.contents c.args.err.now) (ap Ok c.with.ensures) in
    (h.0, at_bool (is_field c.args.file.now) false _ _ (sym c.is_field.ensures ∙ c.if-not-is_field.true) h.1, h.2, h.3, h.4)

pub returns-in-Ok : goal.returns-in-Ok
returns-in-Ok g c =
    let h = c.give_opened.ensures in
    let path = c.as_str.ensures.value ∙ c.in-Ok.ensures in
    let is = subst (λ (p : List ℕ). IsOpened (g.R.Folders.sees c.args.self.now.files.now) (HasFailed g.V.Target.counts g.V.Target.failures) (lost c.args.self.now.form (HasFailed g.W.Target.counts g.W.Target.failures)) c.args.self.now.form c.args.self.now.dir.now c.args.file.now p h.0) path h.1 in
    (h.0, at_bool (is_field c.args.file.now) true _ _ (sym c.is_field.ensures ∙ c.if-not-is_field.false) (inr is), h.2, h.3, h.4)

pub returns-in-Err : goal.returns-in-Err
returns-in-Err g c =
    let h = quiet (Err Memory) (Err Memory) (g.W.Target.contents c.args.out.now) (g.V.Target.contents c.args.err.now) refl in
    (h.0, at_bool (is_field c.args.file.now) true _ _ (sym c.is_field.ensures ∙ c.if-not-is_field.false) (inl h.1), h.2, h.3, h.4)
