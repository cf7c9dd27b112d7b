use Rattle.std.proofs.Common.{◌≤◌, ◌∙◌, sym, append_assoc, arith, vec_capacity}
use Rattle.page_sets_lines.specs.laws.Events.{event_view}
use Rattle.page_scopes_tree.proofs.FitLemmas.{scopes-sound}
use Rattle.page_scopes_tree.proofs.EdgeLemmas.{items_by_two, edge_by_two, scopes_fit}
use Rattle.page_scopes_tree.specs.laws.Views.{comes, does}
use Rattle.page_scopes_tree.specs.machine.Stacks.{framed, scopes_nesting, stack_edge}
use Rattle.page_core_base.specs.declared.limits.TheConstants.{SCOPES}
use Rattle.page_scopes_tree.specs.declared.acts.Act.TheVariants.{Event}
use Rattle.page_scopes_tree.proofs.scope_stacks.ScopeStack.apply.Goals as goal

pub invariant_of-self : goal.invariant_of-self
invariant_of-self g c =
    let i = c.self.inside in
    let room : SCOPES ≤ vec_capacity c.take_act.new.scopes = omega (arith, c.take_act.ensures.kept, c.self.invariant.1) in (
      scopes_fit (framed g.Y.Renderer.tables) i.skips c.take_act.new.skips i.scopes c.take_act.new.scopes c.take_coming.new.state c.take_act.new.state
          (does (Event (event_view c.args.event.now)))
          c.self.invariant.0 c.take_act.ensures.stepped.edge,
      room,
    )

pub returns-clause-came : goal.returns-clause-came
returns-clause-came g c = λ plan rest h.
    let i = c.self.inside in
    let event = event_view c.args.event.now in
    let first = rw c.as_slice.ensures.value at c.take_coming.ensures.edge in
    let two = items_by_two scopes_nesting scopes-sound (framed g.Y.Renderer.tables) c.args.self.now (stack_edge i.skips i.scopes i.state)
    (stack_edge i.skips i.scopes c.take_coming.new.state) (comes event) (does (Event event)) c.self.view_is first in
    c.take_act.ensures.stepped.came plan rest (c.take_coming.ensures.came plan _ (rw (two, append_assoc) at h))

pub returns-clause-edge : goal.returns-clause-edge
returns-clause-edge g c =
    let i = c.self.inside in
    let event = event_view c.args.event.now in
    let first = rw c.as_slice.ensures.value at c.take_coming.ensures.edge in
    c.take_act.ensures.stepped.edge
    ∙ sym (edge_by_two scopes_nesting scopes-sound (framed g.Y.Renderer.tables) c.args.self.now (stack_edge i.skips i.scopes i.state)
    (stack_edge i.skips i.scopes c.take_coming.new.state) (comes event) (does (Event event)) c.self.view_is first)
