use Rattle.page_fill_rows.proofs.GroupLemmas.{note_given}
use Rattle.page_fill_rows.proofs.row_latches.RowLatchRowOut.report.Goals as goal

pub returns-then-is_none : goal.returns-then-is_none
returns-then-is_none g c = λ plan more said h.
    let none = rw c.if-is_none.true at c.is_none.ensures in
    let e = c.note.ensures in
    rw c.err-self.ensures.value (note_given g.met.R.RowSink.laws g.met.N.NoteSink.laws g.met.R.RowSink.whole _ c.note.result more _ said none h e.gives e.fault e.same)
