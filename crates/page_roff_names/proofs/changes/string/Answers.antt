use Rattle.std.proofs.Common.{ap, arith, length}
use Rattle.page_roff_names.proofs.Kept.{short_at}
use Rattle.page_roff_names.proofs.changes.string.Goals as goal

pub returns-in-String-clause-short : goal.returns-in-String-clause-short
returns-in-String-clause-short c =
    let v = short_at c.args.row.now c.in-Some.i c.requires.fit in
    let e = ap length c.value.ensures in
    omega (arith, v, e)
