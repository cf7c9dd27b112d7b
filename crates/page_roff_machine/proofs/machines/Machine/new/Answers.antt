use Rattle.page_roff_machine.proofs.MachineLemmas.{new_sound}
use Rattle.page_roff_machine.proofs.machines.Machine.new.Goals as goal

pub invariant_of-result : goal.invariant_of-result
invariant_of-result c =
    new_sound c.args.output (record { stack = c.in_ok-new.field-0; doing = record { actions = c.in_ok-new-2.field-0; budget = c.new-3.result } })
    c.in_ok-new.ensures c.in_ok-new-2.ensures
