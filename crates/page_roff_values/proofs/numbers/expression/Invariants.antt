use Rattle.std.proofs.Common.{◌++◌, List, length}
use Rattle.page_core_base.specs.Messages.{Message}
use Rattle.page_roff_values.specs.Answers.{messages_of}
use Rattle.page_roff_values.proofs.numbers.expression.Given as goal

abbrev pub invariant-loop-note : goal.invariant-loop-note
invariant-loop-note g l =
    (plan : g.O.NoteOut.Plan) (more : List Message) → g.O.NoteOut.left plan l.fn.out (messages_of l.fn.place l.text ++ more) → g.O.NoteOut.left plan l.out (l.notes ++ more)

abbrev pub decreases-loop-note : goal.decreases-loop-note
decreases-loop-note g l = length l.notes
