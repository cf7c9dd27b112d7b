use Rattle.std.proofs.Common.{◌+◌, ◌≤◌, length, arith, rules}
use Rattle.page_core_base.specs.declared.limits.TheConstants.{CELLS}
use Rattle.page_fill_rows.proofs.WrapLemmas.{sound-blanks}
use Rattle.page_fill_rows.proofs.open_rows.OpenRow.add_blanks.Goals as goal

pub invariant_of-self : goal.invariant_of-self
invariant_of-self c =
    let row = c.self-2.inside in
    let room : length row.row + c.args.count ≤ CELLS = search rules in
    rw c.add_blanks.ensures
    (sound-blanks row.row c.args.count c.args.font row.columns row.gap row.word row.tag_columns _ c.self-2.invariant room (omega arith))
