use Rattle.std.proofs.Common.{length, map}
use Rattle.page_core_base.specs.laws.Views.{CameUpTo}
use Rattle.page_core_base.specs.Rows.{noted}
use Rattle.page_scopes_words.specs.Words.{number_notes}
use Rattle.page_scopes_words.proofs.numbers.give_number.Given as goal

abbrev pub invariant-loop-note : goal.invariant-loop-note
invariant-loop-note g l = CameUpTo g.O.PieceOut.left l.fn.out (number_notes l.fn.scale l.fn.place l.text) (map noted l.notes) l.out

abbrev pub decreases-loop-note : goal.decreases-loop-note
decreases-loop-note g l = length l.notes
