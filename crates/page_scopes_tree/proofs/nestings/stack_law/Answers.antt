use Rattle.page_scopes_tree.proofs.EdgeLemmas.{edge-fits, edge-run}
use Rattle.page_scopes_tree.proofs.RunLemmas.{settled-run}
use Rattle.page_scopes_tree.proofs.nestings.stack_law.Goals as goal

pub returns : goal.returns
returns g c = record {
  given = λ nests most sound lays d acts. settled-run nests sound lays d acts;
  edge = λ nests most sound lays d acts. edge-run nests sound lays d acts;
  depth = λ nests most sound lays d acts h. edge-fits nests sound lays d acts h;
}
