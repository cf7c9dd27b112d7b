use Rattle.page_roff_machine.proofs.MachineLemmas.{resumed_sound}
use Rattle.page_roff_machine.proofs.machines.Machine.at.Goals as goal

pub invariant_of-result : goal.invariant_of-result
invariant_of-result c =
    resumed_sound c.args.output c.args.standing.now c.args.remembered.now c.args.taken
    (record { stack = c.in_ok-stack.stack; doing = record { actions = c.in_ok-actions.actions; budget = c.at-3.result } })
    (record { stack = c.in_ok-stack.ensures; actions = c.in_ok-actions.ensures; budget = c.at-3.ensures }) c.requires.passed
