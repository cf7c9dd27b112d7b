use Rattle.std.proofs.Common.{◌≡◌, ◌++◌, ◌≤◌, [], ◌∷◌, take, length}
use Rattle.std.specs.List.{flat_map}
use Rattle.page_core_streams.specs.Streams.{cell_bytes_of, printed}
use Rattle.page_core_streams.specs.laws.Views.{GrowsUpTo}
use Rattle.page_core_streams.proofs.text_rows.put_row.Given as goal

abbrev pub invariant-loop-rest : goal.invariant-loop-rest
invariant-loop-rest g l = (l.end ≤ 384) × GrowsUpTo (g.W.Target.contents l.fn.out) (g.W.Target.contents l.out) (printed l.margin l.cells)
    (take l.end l.bytes ++ (flat_map cell_bytes_of l.rest ++ 10 ∷ []))
    × (g.W.Target.failures l.out ≡ g.W.Target.failures l.fn.out)

abbrev pub decreases-loop-rest : goal.decreases-loop-rest
decreases-loop-rest g l = length l.rest
