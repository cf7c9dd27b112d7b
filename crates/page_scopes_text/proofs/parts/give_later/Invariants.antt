use Rattle.std.proofs.Common.{length}
use Rattle.page_core_base.specs.laws.Views.{CameUpTo}
use Rattle.page_scopes_text.specs.machine.Letters.{later_items}
use Rattle.page_scopes_text.proofs.parts.give_later.Given as goal

abbrev pub invariant-loop-rest : goal.invariant-loop-rest
invariant-loop-rest g l = CameUpTo g.O.PieceOut.left l.fn.out (later_items l.font l.place l.bytes) (later_items l.font l.place l.rest) l.out

abbrev pub decreases-loop-rest : goal.decreases-loop-rest
decreases-loop-rest g l = length l.rest
