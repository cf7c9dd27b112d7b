use Rattle.std.proofs.Common.{◌≡◌, ◌≤◌}
use Rattle.page_roff_values.specs.Values as laying
use Rattle.page_roff_values.proofs.endings.character_end.Given as goal

abbrev pub invariant-loop-end : goal.invariant-loop-end
invariant-loop-end l = record {
  same : laying.character_end l.text l.end ≡ laying.character_end l.text l.room;
  within : l.end ≤ l.room;
}

abbrev pub decreases-loop-end : goal.decreases-loop-end
decreases-loop-end l = l.end
