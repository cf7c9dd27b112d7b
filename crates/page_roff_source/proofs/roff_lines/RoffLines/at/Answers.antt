use Rattle.std.proofs.Common.{ap, ◌∙◌, arith}
use Rattle.page_roff_stack.specs.machine.Stacks.{Stack}
use Rattle.page_roff_source.specs.laws.Views.{edge_at}
use Rattle.page_roff_source.proofs.RoffLineLemmas.{held_part, resumed_at, resumed_invariant}
use Rattle.page_roff_source.proofs.roff_lines.RoffLines.at.Goals as goal

pub at-requires-clause-skips : goal.at-requires-clause-skips
at-requires-clause-skips c = omega (arith, c.part.invariant.source, c.part.invariant.skipped)

pub at-requires-clause-count : goal.at-requires-clause-count
at-requires-clause-count c = omega (arith, c.part.invariant.source, c.part.invariant.taken)

pub invariant_of-result : goal.invariant_of-result
invariant_of-result c =
    resumed_invariant c.args.output (held_part c.part.inside.standing c.part.inside.remembered c.part.inside.source c.part.inside.taken)
    c.in_ok-machine.machine c.part.invariant c.in_ok-machine.ensures

pub returns-clause-edge : goal.returns-clause-edge
returns-clause-edge c =
    resumed_at c.args.output (held_part c.part.inside.standing c.part.inside.remembered c.part.inside.source c.part.inside.taken)
    c.in_ok-machine.machine c.in_ok-machine.ensures
    ∙ ap (edge_at c.args.output) c.part.view_is

pub returns-clause-running : goal.returns-clause-running
returns-clause-running c = ap (λ (s : Stack). s.texts) c.in_ok-machine.ensures.stack
