use Rattle.std.proofs.Common.{◌≡◌, length}
use Rattle.page_roff_syntax.specs.Arguments.{arguments}
use Rattle.page_roff_definitions.specs.Definitions.{removes}
use Rattle.page_roff_definitions.proofs.definitions.remove_all.Given as goal

abbrev pub invariant-loop-name : goal.invariant-loop-name
invariant-loop-name l = removes (arguments l.column l.rest) l.fn.names ≡ removes l.arguments l.names

abbrev pub decreases-loop-name : goal.decreases-loop-name
decreases-loop-name l = length l.arguments
