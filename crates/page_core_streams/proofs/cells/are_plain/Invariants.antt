use Rattle.std.proofs.Common.{◌≡◌, ◌<◌, take, true}
use Rattle.std.specs.List.{list_all}
use Rattle.page_core_streams.specs.machine.PlainCells.{is_plain}
use Rattle.page_core_streams.proofs.cells.are_plain.Given as goal

-- what was joined is plain where each of the cells is
abbrev pub invariant-loop-cell : goal.invariant-loop-cell
invariant-loop-cell l = (l.characters < 128 → l.fonts ≡ 0 → list_all is_plain (take l.cell-index l.cells) ≡ true)
    × (list_all is_plain (take l.cell-index l.cells) ≡ true → (l.characters < 128) × (l.fonts ≡ 0))
