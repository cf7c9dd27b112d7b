use Rattle.page_core_base.specs.laws.Views.{message_of}
use Rattle.page_engine.specs.laws.Views.{ShownGave, ShownWithin, shown-sink, shown-whole, FilterGave, FilterWithin}
use Rattle.page_engine.proofs.Items.{note_passes}
use Rattle.page_engine.proofs.page_sinks.PageSinkNoteSink.note.Goals as goal

pub returns-clause-gives : goal.returns-clause-gives
returns-clause-gives g c =
    let r = g.R.RowSink in
    let n = g.N.NoteSink in
    note_passes (ShownGave r.gave (λ s. s.rows.now) (λ s. s.is_silent)) (ShownWithin r.within (λ s. s.rows.now) (λ s. s.is_silent)) (λ s. r.failed s.rows.now)
    (FilterGave n.gave (λ s. s.notes.now) (λ s. s.least) (λ s. s.worst)) (FilterWithin n.within (λ s. s.notes.now) (λ s. s.least)) (λ s. n.failed s.notes.now)
    (shown-sink r.gave r.within g.met.R.RowSink.laws (λ s. s.rows.now) (λ s. s.is_silent))
    (shown-whole r.gave r.within g.met.R.RowSink.whole (λ s. s.rows.now) (λ s. s.is_silent))
    c.note.result _ _ _ _ (message_of c.args.note.now) c.note.ensures.gives c.note.ensures.fault
