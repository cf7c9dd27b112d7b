use Rattle.page_test_streams.proofs.scarcity.+grow_stack.Given as goal

abbrev pub decreases-grow_stack : goal.decreases-grow_stack
decreases-grow_stack l = l.parts
