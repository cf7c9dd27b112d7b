use Rattle.std.proofs.Common.{◌≡◌, ℕ, true, ◌+◌, ◌≤◌, ◌++◌, length}
use Rattle.std.specs.Vec.{vec_capacity}
use Rattle.page_core_base.specs.declared.limits.TheConstants.{ARGS, LINE}
use Rattle.page_roff_definitions.specs.Definitions.{closings_notes, packed}
use Rattle.page_roff_definitions.proofs.calls.append_arguments.Given as goal

abbrev pub invariant-loop-argument : goal.invariant-loop-argument
invariant-loop-argument l = record {
  items : l.text.items ++ packed l.arguments ≡ packed l.fn.arguments;
  short : length l.text.items ≤ ARGS;
  closed : l.is_closed ≡ true → (line : ℕ) → closings_notes line l.arguments ≡ closings_notes line l.fn.arguments;
  room : ARGS + LINE + 1 ≤ vec_capacity l.text;
}

abbrev pub decreases-loop-argument : goal.decreases-loop-argument
decreases-loop-argument l = length l.arguments
