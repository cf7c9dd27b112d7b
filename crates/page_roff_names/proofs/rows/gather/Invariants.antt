use Rattle.std.proofs.Common.{◌≤◌}
use Rattle.std.specs.Vec.{vec_capacity}
use Rattle.page_roff_names.proofs.Laid.{Copied}
use Rattle.page_roff_names.proofs.rows.gather.Given as goal

abbrev pub invariant-loop-i : goal.invariant-loop-i
invariant-loop-i l = Copied l.fn.spans l.spans l.text l.other.items l.i × (vec_capacity l.fn.other ≤ vec_capacity l.other)
