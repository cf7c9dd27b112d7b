use Rattle.std.proofs.Common.{◌≡◌, arith}
use Rattle.page_core_base.specs.laws.Views.{message_of}
use Rattle.page_core_base.specs.Rows.{noted}
use Rattle.page_engine_header.proofs.PrintingLemmas.{row_more, row_full}
use Rattle.page_engine_header.proofs.full_rows.FullRowsPieceOut.report.Goals as goal

pub returns-then-self-gt0 : goal.returns-then-self-gt0
returns-then-self-gt0 g c = λ plan rest h.
    let more = rw (row_more c.args.self.now.room (noted (message_of c.args.note.now)) rest plan.follows c.if-self-gt0.true) at h.came in
    record { same_loan = h.same_loan; came = c.report.ensures plan.plan _ more }

pub returns-else-self-gt0 : goal.returns-else-self-gt0
returns-else-self-gt0 g c = λ plan rest h.
    let none : c.args.self.now.room ≡ 0 = omega (arith, c.if-self-gt0.false) in
    let full = rw (row_full c.args.self.now.room (noted (message_of c.args.note.now)) rest plan.follows none) at h.came in
    record { same_loan = h.same_loan; came = c.report-else-self-gt0.ensures plan.plan _ (c.give.ensures plan.plan _ full) }
