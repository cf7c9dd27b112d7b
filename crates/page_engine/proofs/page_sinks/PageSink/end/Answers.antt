use Rattle.page_engine.proofs.Items.{same_header, ends_after, ends_join, broken_join, broken_after}
use Rattle.page_engine_lines.specs.Edges.{footer_items}
use Rattle.page_engine_lines.specs.machine.Lines.{end_items}
use Rattle.page_fill.specs.machine.Words.{laid_items}
use Rattle.page_fill.specs.Filling.{row_end}
use Rattle.page_fill.specs.laws.Views as fill
use Rattle.page_engine.specs.laws.Views.{filter-sink, shown-sink}
use Rattle.page_engine.specs.machine.PageSinks.{footer_laid}
use Rattle.page_engine.specs.Edges.{last_line}
use Rattle.page_engine.proofs.page_sinks.PageSink.end.Goals as goal

pub returns-in-Err-clause-ends : goal.returns-in-Err-clause-ends
returns-in-Err-clause-ends g c = λ f e d p q r.
    let j = shown-sink g.R.RowSink.gave g.R.RowSink.within g.met.R.RowSink.laws (λ s. s.rows.now) (λ s. s.is_silent) in
    let k = filter-sink g.N.NoteSink.gave g.N.NoteSink.within g.met.N.NoteSink.laws (λ s. s.notes.now) (λ s. s.least) (λ s. s.worst) in
    let x = laid_items e.fill (end_items e.lines (last_line e)) in
    broken_join j k x (footer_laid e x.edge) (rw (p, q, r) at (c.in-Err.ensures.gives.1 f d))

pub returns-in-Err-footer-clause-ends : goal.returns-in-Err-footer-clause-ends
returns-in-Err-footer-clause-ends g c = λ f e d p q r.
    let j = shown-sink g.R.RowSink.gave g.R.RowSink.within g.met.R.RowSink.laws (λ s. s.rows.now) (λ s. s.is_silent) in
    let k = filter-sink g.N.NoteSink.gave g.N.NoteSink.within g.met.N.NoteSink.laws (λ s. s.notes.now) (λ s. s.least) (λ s. s.worst) in
    let x = laid_items e.fill (end_items e.lines (last_line e)) in
    let a = rw (p, q, r) at (c.in_default.ensures.gives.0 f d) in
    let b = rw a.filler at c.blank_rows-blank_rows.ensures in
    let s = same_header c.end.new.self c.args.lines.now e.lines c.in_default.ensures.header q in
    let y = laid_items x.edge (footer_items e.lines (last_line e) (fill.blank_rows_at_end x.edge)) in
    broken_after j k _ _ x (footer_laid e x.edge) a
    (broken_join j k y (row_end y.edge) (rw (s, r, b) at (c.in-Err-footer.ensures.gives.1 x.edge a.filler)))

pub returns-clause-ends : goal.returns-clause-ends
returns-clause-ends g c = λ f e d p q r.
    let j = shown-sink g.R.RowSink.gave g.R.RowSink.within g.met.R.RowSink.laws (λ s. s.rows.now) (λ s. s.is_silent) in
    let k = filter-sink g.N.NoteSink.gave g.N.NoteSink.within g.met.N.NoteSink.laws (λ s. s.notes.now) (λ s. s.least) (λ s. s.worst) in
    let x = laid_items e.fill (end_items e.lines (last_line e)) in
    let a = rw (p, q, r) at (c.in_default.ensures.gives.0 f d) in
    let b = rw a.filler at c.blank_rows-blank_rows.ensures in
    let s = same_header c.end.new.self c.args.lines.now e.lines c.in_default.ensures.header q in
    let y = laid_items x.edge (footer_items e.lines (last_line e) (fill.blank_rows_at_end x.edge)) in
    let z = rw (s, r, b) at (c.in_default-footer.ensures.gives.0 x.edge a.filler) in
    ends_join j k _ _ c.finish.result x (footer_laid e x.edge) a
    (ends_after j k _ _ c.finish.result y (row_end y.edge) z (c.finish.ensures.gets y.edge z.filler) (c.finish.ensures.sinks.faults y.edge z.filler))
