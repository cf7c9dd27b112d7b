use Rattle.std.proofs.Common.{◌≡◌, take, vec_capacity, vec_len}
use Rattle.page_core_base.specs.laws.Views.{cells_in}
use Rattle.page_core_base.proofs.cells.put_ascii.Given as goal

abbrev pub invariant-loop-i : goal.invariant-loop-i
invariant-loop-i l =
    (l.cells.items ≡ cells_in (take l.i l.bytes) (take l.i l.fonts))
    × (vec_capacity l.cells ≡ vec_capacity l.fn.cells) × (vec_len l.cells ≡ l.i)
