use Rattle.std.proofs.lemmas.Result.{err_from_is_err_and}
use Rattle.page_engine.specs.machine.Steps.{last_settled}
use Rattle.page_engine.specs.laws.Views.{sinks}
use Rattle.page_engine.proofs.WholeRuns.{finished, end_broke, last_broke}
use Rattle.page_engine.proofs.runs.Run.finish.Goals as goal

pub returns-in_err-take_last-clause-ends : goal.returns-in_err-take_last-clause-ends
returns-in_err-take_last-clause-ends g c =
    let r = g.R.RowSink in
    let n = g.N.NoteSink in
    let p = err_from_is_err_and c.from_residual.result c.from_residual.ensures.1 in
    rw (p.1, p.2) (λ s bytes h.
    last_broke (sinks r.gave r.within r.failed n.gave n.within n.failed) g.met.R.RowSink.laws g.met.N.NoteSink.laws s bytes _ h.page
    (c.in_err-take_last.ensures.takes s bytes h))

pub returns-in_err-end-clause-ends : goal.returns-in_err-end-clause-ends
returns-in_err-end-clause-ends g c =
    let r = g.R.RowSink in
    let n = g.N.NoteSink in
    let p = err_from_is_err_and c.from_residual-in_err-end.result c.from_residual-in_err-end.ensures.1 in
    rw (p.1, p.2) (λ s bytes h.
    let last = c.in_ok-take_last.ensures.takes s bytes h in
    end_broke (sinks r.gave r.within r.failed n.gave n.within n.failed) g.met.R.RowSink.laws g.met.N.NoteSink.laws s bytes _ h.page
    last.0 (c.in_err-end.ensures.ends (last_settled s bytes).edge last.1).0)

pub returns-clause-ends : goal.returns-clause-ends
returns-clause-ends g c = λ s bytes h.
    let r = g.R.RowSink in
    let n = g.N.NoteSink in
    let last = c.in_ok-take_last.ensures.takes s bytes h in
    finished (sinks r.gave r.within r.failed n.gave n.within n.failed) g.met.R.RowSink.laws g.met.N.NoteSink.laws _ _ s bytes c.put_out.result h.page
    last.0 (c.in_ok-end.ensures.ends (last_settled s bytes).edge last.1) c.put_out.ensures.puts
