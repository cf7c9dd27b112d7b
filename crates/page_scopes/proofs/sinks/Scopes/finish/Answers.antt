use Rattle.std.proofs.Common.{rules}
use Rattle.page_core_base.proofs.LatchLemmas.{latched, emits_faults}
use Rattle.page_scopes.specs.laws.Views.{end_items}
use Rattle.page_scopes.proofs.sinks.Scopes.finish.Goals as goal

pub returns-clause-gives : goal.returns-clause-gives
returns-clause-gives g c =
    let edge = c.self.inside.scopes in
    let is = rw c.if-self.false at c.self.view_is in
    let items = end_items edge c.self.inside.line in
    let k = latched g.met.O.PieceSink.items items c.done.result c.new-latch.ensures.fault c.give_end.ensures.came c.done.ensures in
    rw (← is) (search (rules, k.0, k.2))

pub returns-clause-same : goal.returns-clause-same
returns-clause-same g c =
    let items = end_items c.self.inside.scopes c.self.inside.line in
    let k = latched g.met.O.PieceSink.items items c.done.result c.new-latch.ensures.fault c.give_end.ensures.came c.done.ensures in
    search (rules, k.0, k.1)

pub returns-clause-faults : goal.returns-clause-faults
returns-clause-faults g c =
    let items = end_items c.self.inside.scopes c.self.inside.line in
    let k = latched g.met.O.PieceSink.items items c.done.result c.new-latch.ensures.fault c.give_end.ensures.came c.done.ensures in
    let laws = g.met.O.PieceSink in
    search (rules, k.0, emits_faults laws.quiet laws.causes _ _ items c.done.result k.2)
