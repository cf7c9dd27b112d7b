use Rattle.page_scopes_tree.proofs.EdgeLemmas.{tree-part}
use Rattle.page_scopes_tree.proofs.nestings.part_law.Goals as goal

pub returns : goal.returns
returns g c = λ nests most sound m nodes acts. tree-part nests sound m nodes acts
