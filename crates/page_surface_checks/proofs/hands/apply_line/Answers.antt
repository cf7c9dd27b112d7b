use Rattle.page_core_base.specs.laws.Views.{line_view}
use Rattle.page_sets_lines.proofs.ArgumentLaws.{first_fits}
use Rattle.page_sets_lines.specs.laws.Events.{event_view}
use Rattle.page_surface_checks.proofs.hands.apply_line.Goals as goal

-- the first of the events that are left fits, since all texts of a line's events are slices of it
pub apply-requires : goal.apply-requires
apply-requires g c =
    let line = line_view c.args.line in
    let set = c.args.set.now in
    let sets = g.S.MacroSet in
    first_fits line.text (sets.events_from set line c.loop-event.place) (event_view c.in-Some.event) (sets.events_from set line c.next.new.place)
    c.requires (g.met.S.MacroSet.slices_from set line c.loop-event.place c.loop-event.invariant) c.in-Some.ensures.events
