use Rattle.std.proofs.Common.{length}
use Rattle.page_roff_syntax.specs.Arguments.{arguments}
use Rattle.page_roff_definitions.specs.Definitions.{closings_notes}
use Rattle.page_roff_definitions.proofs.ClosingLemmas.{CameUpTo}
use Rattle.page_roff_definitions.proofs.arguments.report_closings.Given as goal

abbrev pub invariant-loop-argument : goal.invariant-loop-argument
invariant-loop-argument g l =
    CameUpTo g.O.NoteOut.left l.fn.out (closings_notes l.place.line (arguments l.place.column l.rest)) (closings_notes l.place.line l.arguments) l.out

abbrev pub decreases-loop-argument : goal.decreases-loop-argument
decreases-loop-argument g l = length l.arguments
