use Rattle.std.proofs.Common.{[], refl, ◌∙◌, take}
use Rattle.std.proofs.lemmas.Result.{err_from_is_err_and}
use Rattle.page_engine.specs.Page.{edge}
use Rattle.page_engine.specs.laws.Views.{sinks}
use Rattle.page_laws.specs.declared.feeding.Numbered.{Numbered}
use Rattle.page_laws.specs.Fed.{lines_given}
use Rattle.page_laws.proofs.ShownLemmas.{none_fed, one_fed, takes_one, part_fed}
use Rattle.page_laws.proofs.feeding.feed_lines.Goals as goal

abbrev no_line : Numbered
no_line = record { number = 0; text = record { ref_ptr = (0, 0); now = [] } }

pub loop-line-init : goal.loop-line-init
loop-line-init g c =
    let r = g.R.RowSink in
    let n = g.N.NoteSink in
    let k = sinks r.gave r.within r.failed n.gave n.within n.failed in
    (λ e o. none_fed k g.met.R.RowSink.laws g.met.N.NoteSink.laws c.line_by_line_law.ensures.settled _ _ e _ o, refl, refl)

pub loop-line-preserved : goal.loop-line-preserved
loop-line-preserved g c =
    let r = g.R.RowSink in
    let n = g.N.NoteSink in
    let k = sinks r.gave r.within r.failed n.gave n.within n.failed in
    let l = c.loop-line in
    let given = c.args.lines.now in
    let t = c.in_ok-feed_line.ensures in (
      λ e o.
          let f = l.invariant.0 e o in
          let free = takes_one c.count_law.ensures.source e _ _ given l.line-index o c.requires.room c.loop-line-test.true f.at in
          let x = t.takes (edge e (lines_given (take l.line-index given))) f.at free in
          one_fed k g.met.R.RowSink.laws g.met.N.NoteSink.laws c.cut_law.ensures.settled _ _ _ _ _ _ e _ _ given l.line-index no_line c.loop-line-test.true o.reached f x.0 x.1,
      t.rows_same ∙ l.invariant.1,
      t.notes_same ∙ l.invariant.2,
    )

pub returns-in_err-feed_line-clause-feeds : goal.returns-in_err-feed_line-clause-feeds
returns-in_err-feed_line-clause-feeds g c =
    let r = g.R.RowSink in
    let n = g.N.NoteSink in
    let k = sinks r.gave r.within r.failed n.gave n.within n.failed in
    let l = c.loop-line in
    let given = c.args.lines.now in
    let p = err_from_is_err_and c.from_residual.result c.from_residual.ensures.1 in
    λ e o.
    let f = l.invariant.0 e o in
    let free = takes_one c.count_law.ensures.source e _ _ given l.line-index o c.requires.room c.loop-line-test.true f.at in
    let x = c.in_err-feed_line.ensures.takes (edge e (lines_given (take l.line-index given))) f.at free in
    rw (p.1, p.2) (part_fed k g.met.R.RowSink.laws g.met.N.NoteSink.laws c.cut_law.ensures.settled _ _ _ _ _ _ e _ given l.line-index no_line _ c.loop-line-test.true o.reached f x.0)
