use Rattle.page_roff_blocks.specs.machine.Steps.{IsPlaceIn}
use Rattle.page_roff_cases.proofs.roff_calls.parts.show_parts.Given as goal

abbrev pub invariant-parts : goal.invariant-parts
invariant-parts l = IsPlaceIn l.line l.place
