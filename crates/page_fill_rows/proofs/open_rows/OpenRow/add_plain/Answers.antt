use Rattle.std.proofs.Common.{◌+◌, ◌≤◌, length, arith, rules}
use Rattle.page_fill_rows.proofs.PlainLemmas.{sound-more}
use Rattle.page_fill_rows.proofs.open_rows.OpenRow.add_plain.Goals as goal

pub invariant_of-self : goal.invariant_of-self
invariant_of-self c =
    let room : length c.self-2.inside.row + length c.args.bytes.now ≤ 4096 = search rules in
    rw c.add_plain.ensures
    (sound-more c.self-2.inside.row c.args.bytes.now c.args.font c.self-2.inside.columns c.self-2.inside.gap c.self-2.inside.word c.self-2.inside.tag_columns _ c.self-2.invariant c.requires.plain room (omega arith))
