use Rattle.std.proofs.Common.{◌∙◌, sym}
use Rattle.page_scopes_tree.proofs.FitLemmas.{scopes-sound}
use Rattle.page_scopes_tree.proofs.EdgeLemmas.{items_by_one, edge_by_one}
use Rattle.page_scopes_tree.specs.laws.Views.{does}
use Rattle.page_scopes_tree.specs.machine.Stacks.{framed, scopes_nesting, stack_edge}
use Rattle.page_scopes_tree.specs.declared.acts.Act.TheVariants.{PageEnd}
use Rattle.page_scopes_tree.proofs.scope_stacks.ScopeStack.finish.Goals as goal

pub returns-clause-came : goal.returns-clause-came
returns-clause-came g c = λ plan rest h.
    let i = c.self.inside in
    let one = items_by_one scopes_nesting scopes-sound (framed g.Y.Renderer.tables) c.args.self.now (stack_edge i.skips i.scopes i.state)
    (does (PageEnd c.args.line)) c.self.view_is in
    c.take_act.ensures.stepped.came plan rest (rw one at h)

pub returns-clause-edge : goal.returns-clause-edge
returns-clause-edge g c =
    let i = c.self.inside in
    c.take_act.ensures.stepped.edge
    ∙ sym (edge_by_one scopes_nesting scopes-sound (framed g.Y.Renderer.tables) c.args.self.now (stack_edge i.skips i.scopes i.state)
    (does (PageEnd c.args.line)) c.self.view_is)
