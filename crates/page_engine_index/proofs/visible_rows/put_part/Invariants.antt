use Rattle.std.proofs.Common.{◌≡◌, ◌++◌, ℕ, List, drop}
use Rattle.page_core_streams.specs.laws.Views.{GrowsUpTo}
use Rattle.page_engine_index.specs.Written.{visible_from}
use Rattle.page_engine_index.proofs.visible_rows.put_part.Given as goal

abbrev pub invariant-loop-byte : goal.invariant-loop-byte
invariant-loop-byte g l =
    ((rest : List ℕ) → GrowsUpTo (g.W.Target.contents l.fn.out) (g.W.Target.contents l.out) (visible_from l.fn.held (l.part ++ rest))
    (visible_from l.held (drop l.byte-index l.part ++ rest)))
    × (g.W.Target.failures l.out ≡ g.W.Target.failures l.fn.out)
