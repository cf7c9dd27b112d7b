use Rattle.page_engine.specs.laws.Views.{shown-sink, filter-sink}
use Rattle.page_engine.proofs.Items.{nothing_passes}
use Rattle.page_engine.proofs.page_sinks.PageSinkNoteSink.put_out.Goals as goal

pub returns-clause-gives : goal.returns-clause-gives
returns-clause-gives g c =
    let r = g.R.RowSink in
    let n = g.N.NoteSink in
    nothing_passes (shown-sink r.gave r.within g.met.R.RowSink.laws (λ s. s.rows.now) (λ s. s.is_silent))
    (filter-sink n.gave n.within g.met.N.NoteSink.laws (λ s. s.notes.now) (λ s. s.least) (λ s. s.worst)) _ _ _
