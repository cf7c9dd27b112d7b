use Rattle.page_core_base.specs.laws.Views.{line_view}
use Rattle.page_sets_lines.specs.laws.Events.{event_view}
use Rattle.page_sets_lines.proofs.ArgumentLaws.{first_short}
use Rattle.page_sets_lines.proofs.macro_sets.MacroSet.give.Goals as goal

pub give-requires : goal.give-requires
give-requires g c =
    let line = line_view c.args.line in
    let sets = g.Self.MacroSet in
    first_short line.text (sets.events_from c.args.self.now line c.loop-event.place) (event_view c.in-Some.event)
    (sets.events_from c.args.self.now line c.next.new.place) c.requires
    (g.met.Self.MacroSet.slices_from c.args.self.now line c.loop-event.place c.loop-event.invariant.place) c.in-Some.ensures.events
