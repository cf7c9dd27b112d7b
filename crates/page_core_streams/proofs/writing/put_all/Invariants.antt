use Rattle.std.proofs.Common.{◌≡◌, ◌++◌, drop}
use Rattle.std.specs.List.{flat_map}
use Rattle.page_core_streams.specs.laws.Views.{GrowsUpTo}
use Rattle.page_core_streams.proofs.writing.put_all.Given as goal

abbrev pub invariant-loop-text : goal.invariant-loop-text
invariant-loop-text g l = GrowsUpTo (g.W.Target.contents l.fn.out) (g.W.Target.contents l.out) (flat_map (λ text. text.now) l.texts)
    (l.unsent.items ++ flat_map (λ text. text.now) (drop l.text-index l.texts))
    × (g.W.Target.failures l.out ≡ g.W.Target.failures l.fn.out)
