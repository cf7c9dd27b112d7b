use Rattle.std.proofs.Common.{◌≡◌, drop}
use Rattle.std.specs.List.{flat_map}
use Rattle.page_core_streams.specs.laws.Views.{GrowsUpTo}
use Rattle.page_engine_index.specs.Written.{visible, visible_from}
use Rattle.page_engine_index.proofs.visible_rows.put_visible.Given as goal

abbrev pub invariant-loop-part : goal.invariant-loop-part
invariant-loop-part g l = GrowsUpTo (g.W.Target.contents l.fn.out) (g.W.Target.contents l.out) (visible (flat_map (λ part. part.now) l.parts))
    (visible_from l.held (flat_map (λ part. part.now) (drop l.part-index l.parts)))
    × (g.W.Target.failures l.out ≡ g.W.Target.failures l.fn.out)
