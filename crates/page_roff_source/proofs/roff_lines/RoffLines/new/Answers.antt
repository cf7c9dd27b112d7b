use Rattle.std.proofs.Common.{ap}
use Rattle.page_roff_stack.specs.machine.Stacks.{Stack}
use Rattle.page_roff_source.proofs.RoffLineLemmas.{new_at, new_invariant}
use Rattle.page_roff_source.proofs.roff_lines.RoffLines.new.Goals as goal

pub invariant_of-result : goal.invariant_of-result
invariant_of-result c = new_invariant c.args.output c.in_ok-new.field-0 c.in_ok-new.ensures

pub returns-clause-edge : goal.returns-clause-edge
returns-clause-edge c = new_at c.args.output c.in_ok-new.field-0 c.in_ok-new.ensures

pub returns-clause-running : goal.returns-clause-running
returns-clause-running c = ap (λ (s : Stack). s.texts) c.in_ok-new.ensures.stack
