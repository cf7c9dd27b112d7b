use Rattle.page_roff_source.specs.Runs.{end_notes}
use Rattle.page_engine_lines.specs.laws.Views as bodies
use Rattle.page_engine_lines.specs.machine.Lines.{end_items}
use Rattle.page_engine_lines.proofs.BodySharedLemmas.{items_after_notes}
use Rattle.page_engine_lines.proofs.page_lines.PageLines.give_end.Goals as goal

pub returns-clause-came : goal.returns-clause-came
unfolding end_items
returns-clause-came g c =
    let l = c.self.inside in
    rw (← c.self.view_is)
    (items_after_notes g.L.PieceOut.left (end_notes l.roff.edge) (bodies.end_items l.body.value c.args.number) c.end_into.ensures.came (rw c.deref_mut.ensures.value at c.give_end.ensures.came))
