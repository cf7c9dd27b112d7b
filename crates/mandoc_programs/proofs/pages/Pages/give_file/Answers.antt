use Rattle.std.proofs.Common.{ℕ, List, Err, refl, ◌∙◌, inl, inr, subst}
use Rattle.page_core_base.specs.declared.faults.Fault.TheVariants.{Memory}
use Rattle.mandoc_formats.specs.Formats.{HasFailed}
use Rattle.mandoc_programs.specs.Indexes.{IsNamed, lost}
use Rattle.mandoc_programs.proofs.Parts.{quiet}
use Rattle.mandoc_programs.proofs.pages.Pages.give_file.Goals as goal

pub returns-in-Ok : goal.returns-in-Ok
returns-in-Ok g c =
    let h = c.give_named.ensures in
    let is = subst (λ (n : List ℕ). IsNamed (g.R.Folders.sees c.args.self.now.files.now) (HasFailed g.V.Target.counts g.V.Target.failures) (lost c.args.self.now.form (HasFailed g.W.Target.counts g.W.Target.failures)) c.args.self.now.form c.args.self.now.dir.now n h.0)
    (c.as_str.ensures.value ∙ c.in-Ok.ensures) h.1 in
    (h.0, inr is, h.2, h.3, h.4)

pub returns-in-Err : goal.returns-in-Err
returns-in-Err g c =
    let h = quiet (Err Memory) (Err Memory) (g.W.Target.contents c.args.out.now) (g.V.Target.contents c.args.err.now) refl in
    (h.0, inl h.1, h.2, h.3, h.4)
