use Rattle.std.proofs.Common.{arith}
use Rattle.page_roff_syntax.proofs.ClosedLemmas.{met_grows, met_same}
use Rattle.page_roff_syntax.proofs.closed_widths.meet.Goals as goal

pub returns-then-code-met-clause-met : goal.returns-then-code-met-clause-met
returns-then-code-met-clause-met c = met_same c.args.met.now c.args.code (omega (arith, c.if-code-met.true))

pub returns-then-code-met-clause-grows : goal.returns-then-code-met-clause-grows
returns-then-code-met-clause-grows c = met_grows c.args.met.now c.args.code (omega (arith, c.if-code-met.true))
