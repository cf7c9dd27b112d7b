use Rattle.std.proofs.Common.{◌≤◌, subst}
use Rattle.page_core_base.specs.declared.limits.TheConstants.{SCOPES}
use Rattle.page_scopes.proofs.CapLemmas.{list_fits, lists_fit, targets_fit, text_fits}
use Rattle.page_scopes.proofs.open_scopes.OpenScopes.caps_law.Goals as goal

pub returns : goal.returns
returns c = record {
  targets = targets_fit c.args.self.now.scopes;
  lists = lists_fit c.args.self.now.scopes;
  widths = list_fits c.args.self.now.state.formatting.context.list;
  depth = subst (λ n. n ≤ SCOPES) c.depth.ensures.is c.depth.ensures.within;
  name = text_fits c.args.self.now.state.name;
}
