use Rattle.std.proofs.Common.{rules}
use Rattle.std.proofs.lemmas.Result.{err_from_is_err_and}
use Rattle.page_core_base.specs.laws.Views.{Gets, FailsBySink}
use Rattle.page_core_base.specs.Rows.{Gave}
use Rattle.page_roff_lines.specs.laws.Cutting.{line_of}
use Rattle.page_engine.specs.machine.PageSinks.{laid_notes, settled_text, settled_line}
use Rattle.page_engine.proofs.Items.{cut_at, cut_gave, cut_within, gets_after, faults_after}
use Rattle.page_engine.proofs.layers.Layers.take_line.Goals as goal

pub returns-in_err-text-clause-gets : goal.returns-in_err-text-clause-gets
returns-in_err-text-clause-gets g c = λ e h.
    let p = err_from_is_err_and c.from_residual.result c.from_residual.ensures.1 in
    let m = line_of c.args.cutter.now.point in
    let y : Gave g.R.RowSink.within g.N.NoteSink.within c.args.rows.now c.args.rows.now c.args.notes.now c.line-line.new.notes.notes.now (settled_line e m) =
    cut_within g.met.R.RowSink.laws g.met.N.NoteSink.laws g.met.R.RowSink.whole c.args.rows.now c.args.self.now.least e m.notes
    (settled_text (laid_notes e m.notes).edge m.text m.number) h.levels c.in_err-text.ensures.gives in
    rw p.1 (search rules)

pub returns-clause-gets : goal.returns-clause-gets
returns-clause-gets g c = λ e h.
    let m = line_of c.args.cutter.now.point in
    let i = cut_at c.line-line.new.notes.worst m.notes h c.in_ok-text.ensures.gives.2 in
    let f : Gets c.feed.result g.R.RowSink.gave g.R.RowSink.within g.N.NoteSink.gave g.N.NoteSink.within c.args.rows.now c.feed.new.rows
    c.line-line.new.notes.notes.now c.feed.new.notes (settled_text (laid_notes e m.notes).edge c.in_ok-text.text.now c.in_ok-text.number) =
    let z = c.feed.ensures.gets (laid_notes e m.notes).edge i in search rules in
    let w = rw (c.in_ok-text.ensures.text, c.in_ok-text.ensures.number) at f in
    gets_after g.met.R.RowSink.laws g.met.N.NoteSink.laws _ _ c.feed.result (laid_notes e m.notes) (settled_text (laid_notes e m.notes).edge m.text m.number)
    (cut_gave g.N.NoteSink.gave g.met.R.RowSink.laws c.args.rows.now c.args.self.now.least e m.notes h.levels c.in_ok-text.ensures.gives.0) w

pub returns-clause-faults : goal.returns-clause-faults
returns-clause-faults g c = λ e h.
    let m = line_of c.args.cutter.now.point in
    let i = cut_at c.line-line.new.notes.worst m.notes h c.in_ok-text.ensures.gives.2 in
    let f : FailsBySink c.feed.result (g.R.RowSink.failed c.args.rows.now) (g.R.RowSink.failed c.feed.new.rows)
    (g.N.NoteSink.failed c.line-line.new.notes.notes.now) (g.N.NoteSink.failed c.feed.new.notes) =
    let z = c.feed.ensures.faults (laid_notes e m.notes).edge i in search rules in
    faults_after c.feed.result _ _ _ _ _ c.in_ok-text.ensures.fault f

pub feed-requires-clause-free : goal.feed-requires-clause-free
feed-requires-clause-free g c = λ is. rw c.in_ok-text.ensures.text (c.is_free-free.ensures is)
