use Rattle.std.proofs.Common.{rules}
use Rattle.page_fill_rows.proofs.GroupLemmas.{latched}
use Rattle.page_fill_rows.specs.machine.RowPlans.{seen}
use Rattle.page_fill.specs.machine.Fill.{ended}
use Rattle.page_fill.proofs.edges.FillEdge.end.Goals as goal

pub returns : goal.returns
returns g c =
    let r = g.R.RowSink in
    let n = g.N.NoteSink in
    let k = latched (seen r.gave r.within r.failed r.loans) (seen n.gave n.within n.failed n.loans) g.met.R.RowSink.laws g.met.N.NoteSink.laws (ended c.args.self.now)
    c.done.result c.new-latch.ensures.fault c.end_row.ensures.0 c.done.ensures in
    record {
      gets = search (rules, k.rows_loan, k.notes_loan, k.gets);
      sinks = record { faults = search (rules, k.rows_loan, k.notes_loan, k.faults); rows_same = search (rules, k.rows_loan, k.rows_same); notes_same = search (rules, k.notes_loan, k.notes_same) };
    }
