use Rattle.std.proofs.Common.{◌≡◌, replicate}
use Rattle.page_core_base.specs.laws.Views.{CameRowsUpTo}
use Rattle.page_fill_rows.specs.OpenRows as shown
use Rattle.page_fill_rows.specs.machine.Sheets as sheet
use Rattle.page_fill_rows.proofs.open_rows.OpenRow.put_blanks.Given as goal

abbrev pub invariant-loop-left : goal.invariant-loop-left
invariant-loop-left g l =
    let all = sheet.letters l.fn.self (replicate l.count (shown.cell_of l.font 32)) l.place in
    let others = sheet.letters l.self (replicate l.left (shown.cell_of l.font 32)) l.place in
    CameRowsUpTo g.O.RowOut.left l.fn.out all others l.out × (others.edge ≡ all.edge)

abbrev pub decreases-loop-left : goal.decreases-loop-left
decreases-loop-left g l = l.left
