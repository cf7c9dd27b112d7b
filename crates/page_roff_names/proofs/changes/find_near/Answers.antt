use Rattle.page_roff_names.proofs.Laid.{look_hit}
use Rattle.page_roff_names.proofs.changes.find_near.Goals as goal

pub returns-then-stands_at : goal.returns-then-stands_at
returns-then-stands_at c =
    let there = c.stands_at.ensures c.if-stands_at.true in
    (there.0, look_hit _ _ c.args.place c.requires there.0 there.1)
