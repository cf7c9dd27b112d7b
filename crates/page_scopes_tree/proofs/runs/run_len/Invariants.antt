use Rattle.std.proofs.Common.{◌≡◌, ◌≤◌, ◌+◌, length, reverse, take}
use Rattle.std.specs.List.{prefix_len}
use Rattle.page_scopes_tree.specs.laws.Views.{labels}
use Rattle.page_scopes_tree.specs.machine.Nestings.{run_takes}
use Rattle.page_scopes_tree.proofs.runs.run_len.Given as goal

abbrev pub invariant-loop-outer : goal.invariant-loop-outer
invariant-loop-outer g l = record {
  within : l.outer ≤ length l.scopes;
  count : prefix_len (run_takes l.run) (labels (reverse l.scopes)) + l.outer
      ≡ length l.scopes + prefix_len (run_takes l.run) (labels (reverse (take l.outer l.scopes)));
}

abbrev pub decreases-loop-outer : goal.decreases-loop-outer
decreases-loop-outer g l = l.outer
