use Rattle.page_fill_rows.proofs.GroupLemmas.{row_given}
use Rattle.page_fill_rows.proofs.row_latches.RowLatchRowOut.give_ascii.Goals as goal

pub returns-then-is_none-clause-rows : goal.returns-then-is_none-clause-rows
returns-then-is_none-clause-rows g c = λ plan more said h.
    let none = rw c.if-is_none.true at c.is_none.ensures in
    let e = c.ascii_row.ensures in
    rw c.err-self.ensures.value (row_given g.met.R.RowSink.laws g.met.N.NoteSink.laws g.met.N.NoteSink.whole _ c.ascii_row.result _ more said none h e.gives e.fault e.same)
