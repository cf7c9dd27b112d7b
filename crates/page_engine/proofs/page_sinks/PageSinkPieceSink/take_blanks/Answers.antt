use Rattle.page_fill.proofs.LetteredPieces.{items-law}
use Rattle.page_engine.proofs.Items.{items_pass}
use Rattle.page_engine.proofs.page_sinks.PageSinkPieceSink.take_blanks.Goals as goal

pub returns-clause-gives : goal.returns-clause-gives
returns-clause-gives g c =
    items_pass _ _ _ _ _ _ c.take_blanks.result _ _ _ _ _ _ _
    (λ e is. items-law e _ (rw is at c.held_law.ensures.row) (rw is at c.held_law.ensures.word))
    c.take_blanks.ensures.gets c.take_blanks.ensures.edge c.take_blanks.ensures.sinks.faults c.take_blanks.ensures.sinks.closed
