use Rattle.std.proofs.Common.{◌≡◌, sym, ap₂, ◌∙◌}
use Rattle.page_core_base.specs.laws.Views.{line_view}
use Rattle.page_roff_source.specs.Runs.{RoffEdge}
use Rattle.page_roff_source.specs.machine.RoffLines.{line_given}
use Rattle.page_engine_lines.specs.Bodies.{BodyEdge}
use Rattle.page_engine_lines.specs.Edges.{LinesEdge}
use Rattle.page_engine_lines.specs.machine.Given.{body_after}
use Rattle.page_engine_lines.specs.machine.Lines.{source_items, source_line, trailing_notes}
use Rattle.page_engine_lines.proofs.BodySharedLemmas.{lent_after, lent_items}
use Rattle.page_engine_lines.proofs.page_lines.PageLines.give_line.Goals as goal

pub returns-in-Some-clause-came : goal.returns-in-Some-clause-came
unfolding source_items
returns-in-Some-clause-came g c =
    let body = c.self.inside.body.value in
    let given = line_given c.self.inside.roff.edge (source_line c.args.text.now c.args.number) in
    rw (← c.self.view_is)
    (lent_items g.L.PieceOut.left body given (line_view c.in-Some.taken) (trailing_notes c.args.number c.args.text.now) c.in-Some.ensures.takes.0
    c.report_trailing.ensures (rw c.deref_mut.ensures.value at c.give_finished.ensures.came))

pub returns-in-Some-clause-after : goal.returns-in-Some-clause-after
returns-in-Some-clause-after g c =
    let body = c.self.inside.body.value in
    let given = line_given c.self.inside.roff.edge (source_line c.args.text.now c.args.number) in
    let after : c.give_finished.new.body ≡ body_after body given =
    rw c.deref_mut.ensures.value at c.give_finished.ensures.after ∙ sym (lent_after body given (line_view c.in-Some.taken) c.in-Some.ensures.takes.0) in
    rw (← c.self.view_is) (ap₂ (λ (r : RoffEdge) (b : BodyEdge). let e : LinesEdge = record { roff = r; body = b } in e) c.in-Some.ensures.takes.1 after)
