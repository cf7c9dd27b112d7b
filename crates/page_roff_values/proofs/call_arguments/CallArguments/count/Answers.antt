use Rattle.std.proofs.Common.{arith}
use Rattle.page_roff_values.proofs.ArgumentLemmas.{arguments_len}
use Rattle.page_roff_values.proofs.call_arguments.CallArguments.count.Goals as goal

pub returns-then-self-clause-bound : goal.returns-then-self-clause-bound
returns-then-self-clause-bound c =
    let h = arguments_len c.self.inside.packed.items in
    omega (arith, c.self.invariant.counted, c.self.invariant.short)
