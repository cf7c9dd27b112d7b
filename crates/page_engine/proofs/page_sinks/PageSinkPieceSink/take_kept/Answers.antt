use Rattle.page_engine.specs.laws.Views.{filter-sink, shown-sink}
use Rattle.page_engine.proofs.Items.{kept_pass}
use Rattle.page_engine.proofs.page_sinks.PageSinkPieceSink.take_kept.Goals as goal

pub returns-clause-takes : goal.returns-clause-takes
returns-clause-takes g c = λ pieces are cells.
    let j = shown-sink g.R.RowSink.gave g.R.RowSink.within g.met.R.RowSink.laws (λ s. s.rows.now) (λ s. s.is_silent) in
    let k = filter-sink g.N.NoteSink.gave g.N.NoteSink.within g.met.N.NoteSink.laws (λ s. s.notes.now) (λ s. s.least) (λ s. s.worst) in
    kept_pass j k _ _ _ _ c.args.text.now c.args.font c.take_kept.result c.take_kept.ensures.kept c.take_kept.ensures.same
    c.held_law.ensures.row c.held_law.ensures.word pieces are cells
