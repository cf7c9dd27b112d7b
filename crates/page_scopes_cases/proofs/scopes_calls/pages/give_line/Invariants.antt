use Rattle.std.proofs.Common.{length}
use Rattle.page_core_base.specs.laws.Views.{line_view}
use Rattle.page_scopes_cases.proofs.scopes_calls.pages.give_line.Given as goal

abbrev pub invariant-loop-event : goal.invariant-loop-event
invariant-loop-event g l = g.S.MacroSet.IsPlaceOf l.set (line_view l.line) l.place

abbrev pub decreases-loop-event : goal.decreases-loop-event
decreases-loop-event g l = length (g.S.MacroSet.events_from l.set (line_view l.line) l.place)
