use Rattle.std.proofs.Common.{◌≡◌, length}
use Rattle.page_roff_values.specs.Values.{arguments_in, argument_at}
use Rattle.page_roff_values.proofs.call_arguments.argument_at.Given as goal

abbrev pub invariant-loop-first : goal.invariant-loop-first
invariant-loop-first l = argument_at l.number (arguments_in l.packed) ≡ argument_at l.left (arguments_in l.rest)

abbrev pub decreases-loop-first : goal.decreases-loop-first
decreases-loop-first l = length l.rest
