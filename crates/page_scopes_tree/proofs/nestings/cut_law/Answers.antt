use Rattle.page_scopes_tree.proofs.EdgeLemmas.{settled-append, edge-append}
use Rattle.page_scopes_tree.proofs.nestings.cut_law.Goals as goal

pub returns : goal.returns
returns g c = record {
  given = λ nests most sound lays d acts more. settled-append nests sound lays d acts more;
  edge = λ nests most sound lays d acts more. edge-append nests sound lays d acts more;
}
