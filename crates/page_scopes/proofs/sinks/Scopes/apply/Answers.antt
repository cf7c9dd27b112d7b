use Rattle.std.proofs.Common.{rules}
use Rattle.page_core_base.proofs.LatchLemmas.{latched, emits_faults}
use Rattle.page_scopes.specs.laws.Views.{event_items}
use Rattle.page_sets_lines.specs.laws.Events.{event_view}
use Rattle.page_scopes.proofs.sinks.Scopes.apply.Goals as goal

pub returns-clause-gives : goal.returns-clause-gives
returns-clause-gives g c =
    let edge = c.self.inside.scopes in
    let is = rw c.if-self.false at c.self.view_is in
    let items = event_items edge (event_view c.args.event) in
    let k = latched g.met.O.PieceSink.items items c.done-done.result c.new-latch.ensures.fault c.give_event.ensures.came c.done-done.ensures in
    rw (← is) (search (rules, k.0, k.2))

pub returns-clause-same : goal.returns-clause-same
returns-clause-same g c =
    let items = event_items c.self.inside.scopes (event_view c.args.event) in
    let k = latched g.met.O.PieceSink.items items c.done-done.result c.new-latch.ensures.fault c.give_event.ensures.came c.done-done.ensures in
    search (rules, k.0, k.1)

pub returns-clause-faults : goal.returns-clause-faults
returns-clause-faults g c =
    let items = event_items c.self.inside.scopes (event_view c.args.event) in
    let k = latched g.met.O.PieceSink.items items c.done-done.result c.new-latch.ensures.fault c.give_event.ensures.came c.done-done.ensures in
    let laws = g.met.O.PieceSink in
    search (rules, k.0, emits_faults laws.quiet laws.causes _ _ items c.done-done.result k.2)
