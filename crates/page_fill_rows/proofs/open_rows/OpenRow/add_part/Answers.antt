use Rattle.std.proofs.Common.{arith, sym}
use Rattle.page_fill_rows.proofs.PlainLemmas.{sound-more}
use Rattle.page_fill_rows.proofs.open_rows.OpenRow.add_part.Goals as goal

pub invariant_of-self-2 : goal.invariant_of-self-2
invariant_of-self-2 c =
    let added = c.if-not-add_part.ensures in
    rw added.cells
    (sound-more c.self.inside.row c.args.bytes.now c.args.font c.self.inside.columns c.self.inside.gap c.self.inside.word c.self.inside.tag_columns _ c.self.invariant (sym added.answer) (rw (← c.self.view_is) at c.requires.room) (omega (arith, c.min-self-inside.ensures)))
