use Rattle.std.proofs.Common.{[], ◌∷◌}
use Rattle.page_core_base.specs.laws.Views.{message_of}
use Rattle.page_core_base.proofs.LatchLemmas.{left_given, note_items, noted_by}
use Rattle.page_core_base.proofs.note_latches.NoteLatchNoteOut.report.Goals as goal

pub returns-then-is_none : goal.returns-then-is_none
returns-then-is_none g c = λ plan rest h.
    let none = rw c.if-is_none.true at c.is_none.ensures in
    let sink = g.N.NoteSink in
    let given = noted_by sink.gave sink.within sink.failed _ _ c.note.result (message_of c.args.note.now ∷ []) c.note.ensures.gives c.note.ensures.fault in
    rw c.err-self.ensures.value (left_given (note_items g.met.N.NoteSink.laws) _ c.note.result _ rest none h given c.note.ensures.same)
