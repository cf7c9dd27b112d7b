use Rattle.std.proofs.Common.{arith, ap, ◌∙◌, []}
use Rattle.page_core_base.specs.laws.Views.{line_view}
use Rattle.page_sets_lines.specs.laws.Events.{event_view}
use Rattle.page_sets_lines.specs.machine.EventOuts.{nth, kept_view}
use Rattle.page_sets_lines.proofs.ArgumentLaws.{nth_kept, nth_none, nth_some, nth_start, nth_within}
use Rattle.page_sets.specs.Mdoc.{either_events}
use Rattle.page_sets.proofs.either.EitherMacroSet.next.Goals as goal

pub returns-in-Some-clause-place : goal.returns-in-Some-clause-place
returns-in-Some-clause-place c =
    let events = either_events c.args.self.now (line_view c.args.line) in
    let n = c.args.place.now in
    let came = c.give_events.ensures (nth n events) [] (nth_start n events _ _ c.new-nth.ensures) in
    let is = nth_kept n events _ _ c.event.result came c.event.ensures ∙ ap kept_view c.in-Some.is in
    let w = nth_within n events (event_view c.in-Some.event) is in
    omega (arith, w)

pub returns-in-Some-clause-events : goal.returns-in-Some-clause-events
returns-in-Some-clause-events c =
    let events = either_events c.args.self.now (line_view c.args.line) in
    let n = c.args.place.now in
    let came = c.give_events.ensures (nth n events) [] (nth_start n events _ _ c.new-nth.ensures) in
    let is = nth_kept n events _ _ c.event.result came c.event.ensures ∙ ap kept_view c.in-Some.is in
    nth_some n events (event_view c.in-Some.event) is

pub returns-in-None-clause-events : goal.returns-in-None-clause-events
returns-in-None-clause-events c =
    let events = either_events c.args.self.now (line_view c.args.line) in
    let n = c.args.place.now in
    let came = c.give_events.ensures (nth n events) [] (nth_start n events _ _ c.new-nth.ensures) in
    let is = nth_kept n events _ _ c.event.result came c.event.ensures ∙ ap kept_view c.in-None.is in
    let none = nth_none n events is in
    (none, none)
