use Rattle.std.proofs.Common.{◌≡◌, ℕ, ◌++◌, ◌+◌, ◌*◌, ◌≤◌, ◌-◌, [], ◌∷◌, take, drop, length}
use Rattle.std.specs.List.{flat_map}
use Rattle.page_core_base.specs.laws.Views.{cells_in}
use Rattle.page_core_streams.specs.Streams.{cell_bytes_of, printed}
use Rattle.page_core_streams.specs.laws.Views.{GrowsUpTo}
use Rattle.page_core_streams.proofs.text_rows.put_text.Given as goal

-- whole groups are left
abbrev pub invariant-loop-i : goal.invariant-loop-i
invariant-loop-i g l = ((groups : ℕ) × (length l.text ≡ l.i + 32 * groups)) × (l.end ≤ 416)
    × GrowsUpTo (g.W.Target.contents l.fn.out) (g.W.Target.contents l.out) (printed l.margin (cells_in l.text l.fonts))
    (take l.end l.bytes ++ (flat_map cell_bytes_of (cells_in (drop l.i l.text) (drop l.i l.fonts)) ++ 10 ∷ []))
    × (g.W.Target.failures l.out ≡ g.W.Target.failures l.fn.out)

abbrev pub decreases-loop-i : goal.decreases-loop-i
decreases-loop-i g l = length l.text - l.i
