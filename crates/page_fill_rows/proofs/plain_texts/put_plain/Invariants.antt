use Rattle.std.proofs.Common.{◌≡◌, length, true}
use Rattle.page_core_base.specs.laws.Views.{CameRowsUpTo}
use Rattle.page_fill_rows.specs.machine.Sheets as sheet
use Rattle.page_fill_rows.specs.OpenRows as shown
use Rattle.page_fill_rows.specs.machine.Plain as plain
use Rattle.page_fill_rows.proofs.plain_texts.put_plain.Given as goal

abbrev pub invariant-loop-rest : goal.invariant-loop-rest
invariant-loop-rest g l =
    CameRowsUpTo g.O.RowOut.left l.fn.out (sheet.letters l.fn.row (shown.cells_of l.font l.bytes) l.place)
    (sheet.letters l.row (shown.cells_of l.font l.rest) l.place) l.out
    × ((sheet.letters l.row (shown.cells_of l.font l.rest) l.place).edge ≡ (sheet.letters l.fn.row (shown.cells_of l.font l.bytes) l.place).edge)
    × (plain.is_printable_ascii l.rest ≡ true)

abbrev pub decreases-loop-rest : goal.decreases-loop-rest
decreases-loop-rest g l = length l.rest
