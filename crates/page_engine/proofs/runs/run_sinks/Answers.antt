use Rattle.std.proofs.Common.{[]}
use Rattle.std.proofs.lemmas.Result.{err_from_is_err_and}
use Rattle.page_engine.specs.laws.Views.{sinks}
use Rattle.page_engine.proofs.WholeRuns.{runs_not_begun}
use Rattle.page_engine.proofs.runs.run_sinks.Goals as goal

pub returns-in_err-run-clause-runs : goal.returns-in_err-run-clause-runs
returns-in_err-run-clause-runs g c =
    let r = g.R.RowSink in
    let n = g.N.NoteSink in
    let k = sinks r.gave r.within r.failed n.gave n.within n.failed in
    let p = err_from_is_err_and c.from_residual.result c.from_residual.ensures.1 in (
      [],
      rw (p.1, p.2) (runs_not_begun k g.met.R.RowSink.laws g.met.N.NoteSink.laws _ _ _ c.args.settings.now _ c.in_err-run.ensures.starts),
    )

pub read_all-requires : goal.read_all-requires
read_all-requires g c = (c.args.settings.now, c.in_ok-run.ensures.starts.1)

pub returns-clause-runs : goal.returns-clause-runs
returns-clause-runs g c =
    let s = c.in_ok-run.ensures.starts in c.read_all.ensures.runs c.args.settings.now s.0 s.1
