use Rattle.std.proofs.Common.{◌≡◌, drop}
use Rattle.page_core_base.specs.laws.Views.{CameRowsUpTo}
use Rattle.page_fill_rows.specs.machine.Sheets as sheet
use Rattle.page_fill_rows.specs.OpenRows as shown
use Rattle.page_fill_rows.proofs.plain_texts.put_bytes.Given as goal

abbrev pub invariant-loop-byte : goal.invariant-loop-byte
invariant-loop-byte g l =
    CameRowsUpTo g.O.RowOut.left l.fn.out (sheet.letters l.fn.row (shown.cells_of l.font l.bytes) l.place)
    (sheet.letters l.row (shown.cells_of l.font (drop l.byte-index l.bytes)) l.place) l.out
    × ((sheet.letters l.row (shown.cells_of l.font (drop l.byte-index l.bytes)) l.place).edge ≡ (sheet.letters l.fn.row (shown.cells_of l.font l.bytes) l.place).edge)
