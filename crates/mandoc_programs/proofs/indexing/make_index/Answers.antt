use Rattle.std.proofs.Common.{[], ◌++◌, refl, subst}
use Rattle.page_core_streams.specs.laws.Views.{Grows-append}
use Rattle.mandoc_formats.specs.Formats.{HasFailed, shown}
use Rattle.mandoc_programs.specs.declared.pages.Form.{Form}
use Rattle.mandoc_programs.specs.declared.pages.Form.TheVariants.{Index}
use Rattle.mandoc_programs.specs.Indexes.{Makes, Reported, puts, tail}
use Rattle.mandoc_programs.proofs.indexing.make_index.Goals as goal

pub returns-clause-came : goal.returns-clause-came
returns-clause-came g c =
    let h = c.put_index-made.ensures in
    let r = c.report_end.ensures.came in
    let dir = c.args.pages.now.dir.now in
    let result = c.put_index-made.result in
    let end : Makes = record { done = c.report_end.result; put = puts Index dir h.0 result } in
    let told = subst (λ (f : Form). Reported (HasFailed g.V.Target.counts g.V.Target.failures) (shown dir ++ tail f) result r.0 c.report_end.result) c.requires r.2 in (
      end,
      (
        record { out = []; err = h.0.err ++ r.0; end = end },
        record { part = h.0; is = h.1; result = result; answered = h.2; out = refl; line = r.0; err = refl; told = told; put = refl },
        tt,
        Grows-append _ _ _ h.0.err r.0 h.3 r.1,
        refl,
      ),
      h.4,
      refl,
    )
