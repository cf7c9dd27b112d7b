use Rattle.std.proofs.Common.{◌≡◌, ◌++◌, length, map}
use Rattle.page_core_base.specs.laws.Views.{line_view}
use Rattle.page_sets_lines.specs.laws.Events.{event_view}
use Rattle.page_scopes_checks.proofs.collected.events_of.Given as goal

abbrev pub invariant-loop-event : goal.invariant-loop-event
invariant-loop-event g l = record {
  place : g.S.MacroSet.IsPlaceOf l.set (line_view l.line) l.place;
  given : map event_view l.events.items ++ g.S.MacroSet.events_from l.set (line_view l.line) l.place
      ≡ g.S.MacroSet.table l.set (line_view l.line);
}

abbrev pub decreases-loop-event : goal.decreases-loop-event
decreases-loop-event g l = length (g.S.MacroSet.events_from l.set (line_view l.line) l.place)
