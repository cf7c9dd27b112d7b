use Rattle.page_sets_lines.specs.laws.Events.{event_view}
use Rattle.page_engine_lines.proofs.BodySharedLemmas.{left_more}
use Rattle.page_engine_lines.proofs.bodies.BodyOutEventOut.give.Goals as goal

pub returns : goal.returns
returns g c = λ plan rest h. left_more g.O.PieceOut.left plan _ _ _ _ _ _ (event_view c.args.event) rest c.give_event.ensures h
