use Rattle.std.proofs.Common.{sym, arith}
use Rattle.std.proofs.lemmas.List.{length-take-le, take_all}
use Rattle.page_roff_syntax.proofs.names.front_of.Goals as goal

pub slice_bounds-result-end : goal.slice_bounds-result-end
slice_bounds-result-end c = sym (length-take-le 65 c.args.text.now (omega arith))

pub returns-then-text-le-NAME_ROOM-clause-value : goal.returns-then-text-le-NAME_ROOM-clause-value
returns-then-text-le-NAME_ROOM-clause-value c = sym (take_all 65 c.args.text.now c.if-text-le-NAME_ROOM.true)

pub returns-else-text-le-NAME_ROOM-clause-short : goal.returns-else-text-le-NAME_ROOM-clause-short
returns-else-text-le-NAME_ROOM-clause-short c = omega (arith, length-take-le 65 c.args.text.now (omega arith))
