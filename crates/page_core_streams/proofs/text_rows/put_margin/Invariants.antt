use Rattle.std.proofs.Common.{◌≡◌, replicate}
use Rattle.page_core_streams.specs.laws.Views.{GrowsUpTo}
use Rattle.page_core_streams.proofs.text_rows.put_margin.Given as goal

abbrev pub invariant-loop-left : goal.invariant-loop-left
invariant-loop-left g l = GrowsUpTo (g.W.Target.contents l.fn.out) (g.W.Target.contents l.out) (replicate l.margin 32) (replicate l.left 32)
    × (g.W.Target.failures l.out ≡ g.W.Target.failures l.fn.out)

abbrev pub decreases-loop-left : goal.decreases-loop-left
decreases-loop-left g l = l.left
