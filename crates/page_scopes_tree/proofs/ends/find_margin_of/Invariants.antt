use Rattle.std.proofs.Common.{◌≡◌, ◌<◌, drop}
use Rattle.page_scopes_tree.specs.laws.Views.{labels}
use Rattle.page_scopes_tree.specs.Ends.{place_of_margin}
use Rattle.page_scopes_tree.proofs.RunLemmas.{after_outer}
use Rattle.page_scopes_tree.proofs.ends.find_margin_of.Given as goal

abbrev pub invariant-loop-outside : goal.invariant-loop-outside
invariant-loop-outside g l = record {
  found : place_of_margin l.number (labels l.scopes) ≡ after_outer l.outside (place_of_margin l.more (labels (drop l.outside l.scopes)));
  some : 0 < l.more;
}
