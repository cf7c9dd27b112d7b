use Rattle.std.proofs.Common.{[], Err, refl, subst, inl, inr}
use Rattle.page_core_base.specs.declared.faults.Fault.TheVariants.{WriteText}
use Rattle.page_core_streams.specs.laws.Views.{Grows-nil, Grows-append}
use Rattle.mandoc_formats.specs.Formats.{HasFailed}
use Rattle.mandoc_programs.specs.declared.pages.Form.{Form}
use Rattle.mandoc_programs.specs.Indexes.{IsAll, IsAnswered, first_line, lost}
use Rattle.mandoc_programs.proofs.indexing.write_index.Goals as goal

pub returns-then-not-put_all-clause-came : goal.returns-then-not-put_all-clause-came
returns-then-not-put_all-clause-came g c = (
  record { out = []; err = []; end = Err WriteText },
  inr (inr (record { out = refl; err = inl refl; ended = refl })),
  inl refl,
  Grows-nil _,
  λ e. absurd (cc),
)

pub returns-clause-came : goal.returns-clause-came
returns-clause-came g c =
    let h = c.give_waiting.ensures.came in
    let line = rw (c.if-not-put_all.false, c.as_bytes.ensures.value) at c.put_all.ensures.writes in (
      h.0,
      inl (subst (λ (f : Form). IsAll (g.R.Folders.sees c.args.pages.now.files.now) (HasFailed g.V.Target.counts g.V.Target.failures) (lost f (HasFailed g.W.Target.counts g.W.Target.failures)) f c.args.pages.now.dir.now h.0) c.requires h.1),
      subst (λ (f : Form). IsAnswered (lost f (HasFailed g.W.Target.counts g.W.Target.failures)) h.0.end c.give_waiting.result) c.requires h.2,
      h.4,
      λ e. Grows-append _ _ _ first_line h.0.out line h.3,
    )
