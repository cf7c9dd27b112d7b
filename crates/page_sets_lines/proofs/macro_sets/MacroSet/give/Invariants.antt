use Rattle.std.proofs.Common.{length}
use Rattle.page_core_base.specs.laws.Views.{line_view, CameUpTo}
use Rattle.page_sets_lines.proofs.macro_sets.MacroSet.give.Given as goal

abbrev pub invariant-loop-event : goal.invariant-loop-event
invariant-loop-event g l = record {
  place : g.Self.MacroSet.IsPlaceOf l.self (line_view l.line) l.place;
  came : CameUpTo g.O.EventOut.left l.fn.out (g.Self.MacroSet.table l.self (line_view l.line))
      (g.Self.MacroSet.events_from l.self (line_view l.line) l.place) l.out;
}

abbrev pub decreases-loop-event : goal.decreases-loop-event
decreases-loop-event g l = length (g.Self.MacroSet.events_from l.self (line_view l.line) l.place)
