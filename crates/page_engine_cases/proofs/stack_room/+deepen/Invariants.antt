use Rattle.page_engine_cases.proofs.stack_room.+deepen.Given as goal

abbrev pub decreases-deepen : goal.decreases-deepen
decreases-deepen l = l.calls
