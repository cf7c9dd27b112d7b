use Rattle.std.proofs.Common.{◌≡◌, ◌≤◌, take, vec_capacity}
use Rattle.page_core_base.specs.declared.limits.TheConstants.{SCOPES}
use Rattle.page_scopes_tree.proofs.scope_stacks.copy_scopes.Given as goal

abbrev pub invariant-loop-scope : goal.invariant-loop-scope
invariant-loop-scope g l = (l.copy.items ≡ take l.scope-index l.scopes) × (SCOPES ≤ vec_capacity l.copy)
