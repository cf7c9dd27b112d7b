use Rattle.std.proofs.Common.{rules, ◌≡◌}
use Rattle.page_engine.specs.declared.pages.Phase.TheVariants.{Open}
use Rattle.page_engine.proofs.WholeLines.{open_kept, within_held}
use Rattle.page_engine.proofs.pages.Page.edge.Goals as goal

pub returns-clause-within : goal.returns-clause-within
returns-clause-within c =
    let begun : c.self.inside.phase ≡ Open = search rules in
    let k = open_kept begun c.self.invariant in
    within_held c.edge.result k.0 (c.edge.ensures k.0 k.1) (c.caps_law.ensures k.0 k.1 k.2)
