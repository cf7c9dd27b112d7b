use Rattle.std.proofs.Common.{length, ◌+◌}
use Rattle.page_core_streams.specs.laws.Views.{GrowsUpTo}
use Rattle.page_core_streams.proofs.writing.write_rest.Given as goal

abbrev pub invariant-loop-rest : goal.invariant-loop-rest
invariant-loop-rest g l = GrowsUpTo (g.W.Write.contents l.fn.out) (g.W.Write.contents l.out) l.fn.bytes l.rest

abbrev pub decreases-loop-rest : goal.decreases-loop-rest
decreases-loop-rest g l = length l.rest + l.tries
