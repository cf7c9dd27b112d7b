use Rattle.std.proofs.Common.{rules, ℕ, Option, refl, ap, ◌∙◌}
use Rattle.std.specs.Prelude.{unwrap_or}
use Rattle.page_core_base.specs.laws.Views.{Gets, FailsBySink}
use Rattle.page_engine.specs.machine.PageSinks.{ended, end_laid}
use Rattle.page_engine.specs.Page.{is_silent}
use Rattle.page_engine.proofs.Items.{ends_gets, ends_worst, ends_faults}
use Rattle.page_engine.proofs.layers.Layers.end.Goals as goal

pub returns-clause-gets : goal.returns-clause-gets
unfolding ended
returns-clause-gets g c = λ e h.
    let last = c.unwrap_or-last.ensures ∙ ap (λ (o : Option ℕ). unwrap_or o 1) h.last_line in
    let x = c.end-result.ensures.ends e.fill e h.filled refl h.lines last in
    let y : Gets c.end-result.result g.R.RowSink.gave g.R.RowSink.within g.N.NoteSink.gave g.N.NoteSink.within c.args.rows.now c.end-result.new.self.rows.rows.now
    c.args.notes.now c.end-result.new.self.notes.notes.now (ended e) =
    ends_gets g.R.RowSink.gave g.R.RowSink.within (λ s. g.R.RowSink.failed s.rows.now) (λ s. s.rows.now) (λ s. s.is_silent) g.N.NoteSink.gave g.N.NoteSink.within (λ s. g.N.NoteSink.failed s.notes.now)
    (λ s. s.notes.now) (λ s. s.least) (λ s. s.worst) c.end-result.result _ _ _ _ (end_laid e) e e (c.is_silent.ensures ∙ ap is_silent h.output) h.levels x in
    search rules

pub returns-clause-worst : goal.returns-clause-worst
unfolding ended
returns-clause-worst g c = λ e h.
    let last = c.unwrap_or-last.ensures ∙ ap (λ (o : Option ℕ). unwrap_or o 1) h.last_line in
    let x = c.end-result.ensures.ends e.fill e h.filled refl h.lines last in
    ends_worst g.R.RowSink.gave g.R.RowSink.within (λ s. g.R.RowSink.failed s.rows.now) (λ s. s.rows.now) (λ s. s.is_silent) g.N.NoteSink.gave g.N.NoteSink.within (λ s. g.N.NoteSink.failed s.notes.now)
    (λ s. s.notes.now) (λ s. s.least) (λ s. s.worst) c.end-result.result _ _ _ _ (end_laid e) e e h.levels h.worst_level x

pub returns-clause-faults : goal.returns-clause-faults
returns-clause-faults g c = λ e h.
    let last = c.unwrap_or-last.ensures ∙ ap (λ (o : Option ℕ). unwrap_or o 1) h.last_line in
    let x = c.end-result.ensures.ends e.fill e h.filled refl h.lines last in
    let y : FailsBySink c.end-result.result (g.R.RowSink.failed c.args.rows.now) (g.R.RowSink.failed c.end-result.new.self.rows.rows.now)
    (g.N.NoteSink.failed c.args.notes.now) (g.N.NoteSink.failed c.end-result.new.self.notes.notes.now) =
    ends_faults g.R.RowSink.gave g.R.RowSink.within (λ s. g.R.RowSink.failed s.rows.now) (λ s. s.rows.now) (λ s. s.is_silent) g.N.NoteSink.gave g.N.NoteSink.within (λ s. g.N.NoteSink.failed s.notes.now)
    (λ s. s.notes.now) (λ s. s.least) (λ s. s.worst) c.end-result.result _ _ _ _ (end_laid e) x in
    search rules
