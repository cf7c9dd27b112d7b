use Rattle.std.proofs.Common.{◌≡◌, ◌-◌}
use Rattle.page_core_base.specs.laws.Views.{CameRowsUpTo}
use Rattle.page_fill_rows.specs.machine.Sheets as sheet
use Rattle.page_fill_rows.proofs.open_rows.OpenRow.put_spaces.Given as goal

abbrev pub invariant-loop : goal.invariant-loop
invariant-loop g l =
    CameRowsUpTo g.O.RowOut.left l.fn.out (sheet.spaces l.fn.self l.count l.place) (sheet.spaces l.self (l.count - l.counter) l.place) l.out
    × ((sheet.spaces l.self (l.count - l.counter) l.place).edge ≡ (sheet.spaces l.fn.self l.count l.place).edge)
