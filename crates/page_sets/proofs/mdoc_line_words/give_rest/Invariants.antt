use Rattle.std.proofs.Common.{length}
use Rattle.page_core_base.specs.laws.Views.{CameUpTo}
use Rattle.page_sets_mdoc_lines.specs.laws.Views.{IsRestOf, rest_view}
use Rattle.page_sets.specs.Mdoc.{rest_events}
use Rattle.page_sets.proofs.mdoc_line_words.give_rest.Given as goal

abbrev pub invariant-loop-rest : goal.invariant-loop-rest
invariant-loop-rest g l = record {
  within : IsRestOf l.text l.rest;
  came : CameUpTo g.O.EventTaker.left l.fn.out (rest_events l.number (rest_view l.text l.fn.rest))
      (rest_events l.number (rest_view l.text l.rest)) l.out;
}

abbrev pub decreases-loop-rest : goal.decreases-loop-rest
decreases-loop-rest g l = length (rest_view l.text l.rest).calls
