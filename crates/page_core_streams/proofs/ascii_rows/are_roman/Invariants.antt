use Rattle.std.proofs.Common.{◌≡◌, take, true}
use Rattle.std.specs.List.{list_all}
use Rattle.page_core_streams.specs.machine.PlainCells.{is_roman}
use Rattle.page_core_streams.proofs.ascii_rows.are_roman.Given as goal

-- what was joined is none where each of the fonts is roman
abbrev pub invariant-loop-font : goal.invariant-loop-font
invariant-loop-font l = (l.bits ≡ 0 → list_all is_roman (take l.font-index l.fonts) ≡ true) × (list_all is_roman (take l.font-index l.fonts) ≡ true → l.bits ≡ 0)
