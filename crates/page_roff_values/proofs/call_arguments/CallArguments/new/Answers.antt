use Rattle.page_roff_values.proofs.ArgumentLemmas.{held_none}
use Rattle.page_roff_values.proofs.call_arguments.CallArguments.new.Goals as goal

pub invariant_of-result : goal.invariant_of-result
invariant_of-result c =
    let x = c.in_ok-with_capacity.ensures in
    let y = c.in_ok-with_capacity-2.ensures in
    let z = c.in_ok-with_capacity-3.ensures in
    held_none _ _ _ _ _ _ x.items y.items z.items x.capacity y.capacity z.capacity
