use Rattle.page_scopes_tree.proofs.EdgeLemmas.{tree-part}
use Rattle.page_scopes_tree.proofs.FitLemmas.{scopes-sound}
use Rattle.page_scopes_tree.specs.machine.Stacks.{scopes_nesting}
use Rattle.page_scopes_tree.proofs.laws.tree_law.Goals as goal

pub returns : goal.returns
returns c = λ skips nodes steps. tree-part scopes_nesting scopes-sound skips nodes steps
