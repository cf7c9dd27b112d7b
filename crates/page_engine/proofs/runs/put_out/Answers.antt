use Rattle.page_engine.specs.laws.Views.{sinks}
use Rattle.page_engine.proofs.Through.{both_out, rows_out, rows_broke}
use Rattle.page_engine.proofs.runs.put_out.Goals as goal

pub returns-in-Ok-clause-puts : goal.returns-in-Ok-clause-puts
returns-in-Ok-clause-puts g c =
    let r = g.R.RowSink in
    let n = g.N.NoteSink in
    rows_out (sinks r.gave r.within r.failed n.gave n.within n.failed) g.met.R.RowSink.whole _ _ _ _ c.put_out-of_notes.result
    c.in-Ok.ensures.gives c.in-Ok.ensures.fault c.put_out-of_notes.ensures.gives c.put_out-of_notes.ensures.fault

pub returns-in-Err-clause-puts : goal.returns-in-Err-clause-puts
returns-in-Err-clause-puts g c =
    let r = g.R.RowSink in
    let n = g.N.NoteSink in
    rows_broke (sinks r.gave r.within r.failed n.gave n.within n.failed) g.met.N.NoteSink.whole _ _ _ _ c.in-Err.fault c.put_out-of_notes.result
    c.in-Err.ensures.gives c.in-Err.ensures.fault c.put_out-of_notes.ensures.gives

pub returns-in-Ok-clause-out : goal.returns-in-Ok-clause-out
returns-in-Ok-clause-out g c = both_out c.put_out-of_notes.result _ _ c.in-Ok.ensures.out c.put_out-of_notes.ensures.out
