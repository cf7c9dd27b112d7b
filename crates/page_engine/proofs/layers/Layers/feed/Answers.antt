use Rattle.std.proofs.Common.{rules, refl, ap, sym, ◌∙◌}
use Rattle.page_core_base.specs.laws.Views.{Gets, FailsBySink}
use Rattle.page_engine_lines.specs.machine.Lines.{source_items}
use Rattle.page_fill.specs.machine.Words.{laid_items}
use Rattle.page_engine.specs.machine.PageSinks.{settled_text, passed}
use Rattle.page_engine.specs.Page.{is_silent}
use Rattle.page_engine.proofs.WholeLines.{items_fixed, output_kept}
use Rattle.page_engine.proofs.Items.{passes_gets, passes_edge, passes_faults}
use Rattle.page_engine.proofs.layers.Layers.feed.Goals as goal

pub returns-clause-gets : goal.returns-clause-gets
unfolding settled_text
returns-clause-gets g c = λ e h.
    let x = rw h.lines at c.line-result.ensures.gives in
    let y : Gets c.line-result.result g.R.RowSink.gave g.R.RowSink.within g.N.NoteSink.gave g.N.NoteSink.within c.args.rows.now c.line-result.new.out.rows.rows.now
    c.args.notes.now c.line-result.new.out.notes.notes.now (settled_text e c.args.text.now c.args.number) =
    passes_gets g.R.RowSink.gave g.R.RowSink.within (λ s. g.R.RowSink.failed s.rows.now) (λ s. s.rows.now) (λ s. s.is_silent) g.N.NoteSink.gave g.N.NoteSink.within (λ s. g.N.NoteSink.failed s.notes.now)
    (λ s. s.notes.now) (λ s. s.least) (λ s. s.worst) c.line-result.result _ _ _ _ _ _ (λ f. laid_items f (source_items e.lines c.args.number c.args.text.now))
    e (passed e c.args.text.now c.args.number) h.filled (c.is_silent.ensures ∙ ap is_silent h.output) h.levels x in
    search rules

pub returns-clause-faults : goal.returns-clause-faults
returns-clause-faults g c = λ e h.
    let x = rw h.lines at c.line-result.ensures.gives in
    let y : FailsBySink c.line-result.result (g.R.RowSink.failed c.args.rows.now) (g.R.RowSink.failed c.line-result.new.out.rows.rows.now)
    (g.N.NoteSink.failed c.args.notes.now) (g.N.NoteSink.failed c.line-result.new.out.notes.notes.now) =
    passes_faults g.R.RowSink.gave g.R.RowSink.within (λ s. g.R.RowSink.failed s.rows.now) (λ s. s.rows.now) (λ s. s.is_silent) g.N.NoteSink.gave g.N.NoteSink.within (λ s. g.N.NoteSink.failed s.notes.now)
    (λ s. s.notes.now) (λ s. s.least) (λ s. s.worst) c.line-result.result _ _ _ _ _ _ (λ f. laid_items f (source_items e.lines c.args.number c.args.text.now))
    e.fill h.filled x in
    search rules

pub returns-clause-edge : goal.returns-clause-edge
unfolding settled_text
returns-clause-edge g c = λ e h.
    let x = rw h.lines at c.line-result.ensures.gives in
    let y = rw h.lines at c.line-result.ensures.after in
    let items = source_items e.lines c.args.number c.args.text.now in
    passes_edge g.R.RowSink.gave g.R.RowSink.within (λ s. g.R.RowSink.failed s.rows.now) (λ s. s.rows.now) (λ s. s.is_silent) g.N.NoteSink.gave g.N.NoteSink.within (λ s. g.N.NoteSink.failed s.notes.now)
    (λ s. s.notes.now) (λ s. s.least) (λ s. s.worst) c.line-result.result _ _ _ _ _ _ (λ f. laid_items f (source_items e.lines c.args.number c.args.text.now))
    e (passed e c.args.text.now c.args.number) _ _ _ _ h.filled h.levels h.worst_level x y
    (h.output ∙ sym (output_kept (laid_items e.fill items).edge e.fill (items_fixed e.fill items))) h.levels refl
