use Rattle.std.proofs.Common.{ℕ, replicate, rules}
use Rattle.page_fill_rows.proofs.GroupLemmas.{latched}
use Rattle.page_core_base.specs.declared.pieces.Piece.TheVariants.{Text}
use Rattle.page_fill_rows.specs.machine.RowPlans.{seen}
use Rattle.page_fill.specs.machine.Fill.{laid}
use Rattle.page_fill.proofs.edges.FillEdge.take_blanks.Goals as goal

pub returns : goal.returns
returns g c =
    let r = g.R.RowSink in
    let n = g.N.NoteSink in
    let given = laid c.args.self.now (replicate c.args.times (Text (replicate {A = ℕ} c.args.count 32) c.args.font c.args.place)) in
    let k = latched (seen r.gave r.within r.failed r.loans) (seen n.gave n.within n.failed n.loans) g.met.R.RowSink.laws g.met.N.NoteSink.laws given
    c.done.result c.new-latch.ensures.fault c.blank_texts.ensures.0 c.done.ensures in
    record {
      gets = search (rules, k.rows_loan, k.notes_loan, k.gets);
      edge = c.blank_texts.ensures.1;
      sinks = record { faults = search (rules, k.rows_loan, k.notes_loan, k.faults); rows_same = search (rules, k.rows_loan, k.rows_same); notes_same = search (rules, k.notes_loan, k.notes_same) };
    }
