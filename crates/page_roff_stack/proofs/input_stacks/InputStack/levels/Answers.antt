use Rattle.std.proofs.Common.{ap, arith}
use Rattle.page_roff_blocks.specs.Forest.{Levels}
use Rattle.page_roff_stack.proofs.input_stacks.InputStack.levels.Goals as goal

pub returns-clause-room : goal.returns-clause-room
returns-clause-room c =
    let same = ap (λ (l : Levels). l.skipped) c.levels.ensures in
    omega (arith, same, c.self.invariant.top.bounds.skips)
