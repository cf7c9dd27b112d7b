use Rattle.std.proofs.Common.{[], ◌++◌, false, refl, subst, inl, inr}
use Rattle.page_core_streams.specs.laws.Views.{Grows-nil, Grows-append}
use Rattle.mandoc_formats.specs.Formats.{HasFailed, shown, unopened_line}
use Rattle.mandoc_programs.specs.declared.pages.Form.{Form}
use Rattle.mandoc_programs.specs.Indexes.{IsAll, IsAnswered, Makes, Reported, lost, tail}
use Rattle.mandoc_formats.proofs.Turns.{done_is, tells}
use Rattle.mandoc_programs.proofs.indexing.print_dir.Goals as goal

pub returns-then-not-is_dir-clause-came : goal.returns-then-not-is_dir-clause-came
returns-then-not-is_dir-clause-came g c =
    let a = g.V.Target.contents c.args.err.now in
    let b = g.V.Target.contents c.put_line_at.new.err in
    let line = tells c.put_line_at.result _ a b (unopened_line (shown c.args.pages.now.dir.now)) c.put_line_at.ensures.writes c.put_line_at.ensures.failed in
    let sees = rw c.if-not-is_dir.true at c.is_dir.ensures in
    let end : Makes = record { done = c.with.result; put = [] } in
    let done = done_is c.with.result 6 false c.with.ensures.status c.with.ensures.goes_on in (
      record { out = []; err = line.part; end = end },
      inl (sees, record { out = refl; err = line.told; end = λ i. record { done = done i; put = [] } }),
      Grows-nil _,
      line.grows,
      refl,
    )

pub returns-clause-came : goal.returns-clause-came
returns-clause-came g c =
    let h = c.give_waiting-given.ensures.came in
    let r = c.report_end.ensures.came in
    let dir = c.args.pages.now.dir.now in
    let sees = rw c.if-not-is_dir.false at c.is_dir.ensures in
    let end : Makes = record { done = c.report_end.result; put = [] } in
    let is = subst (λ (f : Form). IsAll (g.R.Folders.sees c.args.pages.now.files.now) (HasFailed g.V.Target.counts g.V.Target.failures) (lost f (HasFailed g.W.Target.counts g.W.Target.failures)) f dir h.0) c.requires h.1 in
    let told = subst (λ (f : Form). Reported (HasFailed g.V.Target.counts g.V.Target.failures) (shown dir ++ tail f) c.give_waiting-given.result r.0 c.report_end.result) c.requires r.2 in (
      record { out = h.0.out; err = h.0.err ++ r.0; end = end },
      inr (
        sees,
        record {
          part = h.0;
          is = is;
          result = c.give_waiting-given.result;
          answered = subst (λ (f : Form). IsAnswered (lost f (HasFailed g.W.Target.counts g.W.Target.failures)) h.0.end c.give_waiting-given.result) c.requires h.2;
          out = refl;
          line = r.0;
          err = refl;
          told = told;
          put = refl;
        },
      ),
      h.3,
      Grows-append _ _ _ h.0.err r.0 h.4 r.1,
      refl,
    )
