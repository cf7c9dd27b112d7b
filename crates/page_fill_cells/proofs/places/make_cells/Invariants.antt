use Rattle.std.proofs.Common.{◌≡◌, ◌≤◌, ◌-◌}
use Rattle.std.specs.Vec.{vec_len, vec_capacity}
use Rattle.page_core_base.specs.declared.limits.TheConstants.{CELLS}
use Rattle.page_fill_cells.proofs.places.make_cells.Given as goal

abbrev pub decreases-loop-places : goal.decreases-loop-places
decreases-loop-places l = CELLS - vec_len l.places

abbrev pub invariant-loop-places : goal.invariant-loop-places
invariant-loop-places l = (vec_len l.places ≤ CELLS) × (vec_capacity l.places ≡ vec_capacity l.fn.places)
