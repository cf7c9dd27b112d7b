use Rattle.page_core_base.specs.laws.Views.{line_view}
use Rattle.page_sets_lines.proofs.ArgumentLaws.{first_fits}
use Rattle.page_sets_lines.specs.laws.Events.{event_view}
use Rattle.page_scopes_checks.proofs.set_tests.give_line.Goals as goal

pub apply-requires : goal.apply-requires
apply-requires g c =
    let line = line_view c.args.line in
    let set = c.args.set.now in
    let sets = g.S.MacroSet in
    first_fits line.text (sets.events_from set line c.loop-event.place) (event_view c.in-Some.event) (sets.events_from set line c.next.new.place)
    c.requires (g.met.S.MacroSet.slices_from set line c.loop-event.place c.loop-event.invariant) c.in-Some.ensures.events
