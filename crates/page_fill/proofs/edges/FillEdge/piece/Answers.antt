use Rattle.std.proofs.Common.{rules}
use Rattle.page_fill_rows.proofs.GroupLemmas.{latched}
use Rattle.page_core_base.specs.laws.Views.{piece_of}
use Rattle.page_fill_rows.specs.machine.RowPlans.{seen}
use Rattle.page_fill.specs.machine.Fill.{laid_piece}
use Rattle.page_fill.proofs.edges.FillEdge.piece.Goals as goal

pub returns : goal.returns
returns g c =
    let r = g.R.RowSink in
    let n = g.N.NoteSink in
    let given = laid_piece c.args.self.now (piece_of c.args.piece) in
    let k = latched (seen r.gave r.within r.failed r.loans) (seen n.gave n.within n.failed n.loans) g.met.R.RowSink.laws g.met.N.NoteSink.laws given
    c.done.result c.new-latch.ensures.fault c.take_piece.ensures.0 c.done.ensures in
    record {
      gets = search (rules, k.rows_loan, k.notes_loan, k.gets);
      edge = c.take_piece.ensures.1;
      sinks = record { faults = search (rules, k.rows_loan, k.notes_loan, k.faults); rows_same = search (rules, k.rows_loan, k.rows_same); notes_same = search (rules, k.notes_loan, k.notes_same) };
    }
