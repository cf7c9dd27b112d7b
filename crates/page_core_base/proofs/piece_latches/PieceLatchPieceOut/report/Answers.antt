use Rattle.page_core_base.specs.laws.Views.{message_of}
use Rattle.page_core_base.proofs.LatchLemmas.{left_given, heard}
use Rattle.page_core_base.proofs.piece_latches.PieceLatchPieceOut.report.Goals as goal

pub returns-then-is_none : goal.returns-then-is_none
returns-then-is_none g c = λ plan rest h.
    let none = rw c.if-is_none.true at c.is_none.ensures in
    let laws = g.met.O.PieceSink in
    let sink = g.O.PieceSink in
    let given = heard sink.took sink.broke laws.messages laws.message_fault _ _ c.note.result (message_of c.args.note.now) c.note.ensures.gives c.note.ensures.fault in
    rw c.err-self.ensures.value (left_given laws.items _ c.note.result _ rest none h given c.note.ensures.same)
