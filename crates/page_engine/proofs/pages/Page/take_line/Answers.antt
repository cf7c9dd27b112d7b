use Rattle.std.proofs.Common.{refl, ap, ◌∙◌}
use Rattle.page_roff_lines.specs.laws.Cutting.{line_of}
use Rattle.page_roff_source.specs.Runs.{counts_of}
use Rattle.page_engine.specs.machine.PageSinks.{settled_line}
use Rattle.page_engine_lines.specs.Edges.{LinesEdge}
use Rattle.page_engine.proofs.WholeLines.{edge_at, open_layers, open_kept, within_is, failed_at, no_cause, line_reached, one_line}
use Rattle.page_engine.proofs.pages.Page.take_line.Goals as goal

pub returns-in-Err-clause-takes : goal.returns-in-Err-clause-takes
returns-in-Err-clause-takes g c = λ e h free.
    let i = open_layers c.self.inside.layers e c.self.invariant c.self.view_is h in
    rw (one_line e (line_of c.args.cutter.now.point) h.reached)
    (record { gave = c.in-Err.ensures.gets e i; cause = c.in-Err.ensures.faults e i }, failed_at c.self.inside.layers e c.self.view_is h c.in_default.ensures.begins.2 refl refl)

pub returns-in-Err-clause-works : goal.returns-in-Err-clause-works
returns-in-Err-clause-works g c = λ e h free w.
    let i = open_layers c.self.inside.layers e c.self.invariant c.self.view_is h in
    no_cause c.in-Err.fault _ _ _ _ w.rows_room w.rows w.notes_room w.notes (c.in-Err.ensures.faults e i)

pub returns-clause-takes : goal.returns-clause-takes
returns-clause-takes g c = λ e h free.
    let i = open_layers c.self.inside.layers e c.self.invariant c.self.view_is h in
    let done = c.in_default-take_line.ensures in
    let f = done.faults e i in
    let at = done.edge e i in
    let line = line_of c.args.cutter.now.point in
    let is = one_line e line h.reached in
    rw is (
      record { gave = done.gets e i; rows_quiet = f.0; notes_quiet = f.1 },
      record {
        reached = line_reached e line h.reached;
        phase = refl;
        edge = edge_at _ _ at;
        worst = at.worst_level;
        counts = c.counts-self-inside.ensures ∙ ap (λ (l : LinesEdge). counts_of l.roff) at.lines;
      },
    )

pub returns-clause-within : goal.returns-clause-within
returns-clause-within g c = λ e h.
    let k = open_kept c.in_default.ensures.begins.0 c.self.invariant in
    let at = c.in_default-take_line.ensures.edge k.0 k.1 in
    let f = (settled_line k.0 (line_of c.args.cutter.now.point)).edge in
    within_is _ f e at h (c.caps_law.ensures f at (line_reached k.0 (line_of c.args.cutter.now.point) k.2))

pub invariant_of-self-2 : goal.invariant_of-self-2
invariant_of-self-2 g c =
    let k = open_kept c.in_default.ensures.begins.0 c.self.invariant in
    ((settled_line k.0 (line_of c.args.cutter.now.point)).edge, c.in_default-take_line.ensures.edge k.0 k.1, line_reached k.0 (line_of c.args.cutter.now.point) k.2, c.counts-self-inside.ensures)
