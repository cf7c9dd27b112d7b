use Rattle.page_core_base.specs.laws.Views.{piece_of}
use Rattle.page_core_base.specs.Rows.{shown}
use Rattle.page_engine.proofs.Items.{items_pass, laid_items_one}
use Rattle.page_engine.proofs.page_sinks.PageSinkPieceSink.piece.Goals as goal

pub returns-clause-gives : goal.returns-clause-gives
returns-clause-gives g c =
    items_pass _ _ _ _ _ _ c.piece.result _ _ _ _ _ _ _ (λ e is. laid_items_one e (shown (piece_of c.args.piece)))
    c.piece.ensures.gets c.piece.ensures.edge c.piece.ensures.sinks.faults c.piece.ensures.sinks.closed
