use Rattle.std.proofs.Common.{◌≡◌, ◌≤◌, ◌+◌, ◌-◌, drop, length, true}
use Rattle.page_core_base.specs.Rows.{Laid}
use Rattle.page_core_base.specs.laws.Views.{LaysOut, is_printable_ascii}
use Rattle.page_core_base.specs.declared.limits.TheConstants.{CELLS}
use Rattle.page_fill.specs.laws.Views.{is_sound}
use Rattle.page_fill.specs.declared.edges.FillEdge.{FillEdge}
use Rattle.page_fill.specs.machine.Items.{LaysUpTo}
use Rattle.page_fill.proofs.edges.FillEdge.put_words.Given as goal

abbrev pub invariant-loop-end : goal.invariant-loop-end
invariant-loop-end g l =
    (is_printable_ascii l.rest ≡ true)
    × (length l.own ≡ length l.rest)
    × (length l.rest ≤ CELLS)
    × (l.end ≤ length l.rest)
    × (length l.self.sheet.cells + (length l.rest - l.end) ≤ CELLS)
    × (is_sound l.self.word ≡ true)
    × ((given : Laid FillEdge) × LaysOut g.O.RowOut.left l.fn.out given l.out l.self
    × LaysUpTo l.fn.self l.blanks l.text l.fonts (drop l.end l.rest) (drop l.end l.own) given)

abbrev pub decreases-loop-end : goal.decreases-loop-end
decreases-loop-end g l = length l.rest - l.end
