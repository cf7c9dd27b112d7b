use Rattle.std.proofs.Common.{sym, refl, ◌∙◌}
use Rattle.page_fill.proofs.KeptTextLemmas.{kept-laid}
use Rattle.page_fill.proofs.edges.FillEdge.take_kept.Goals as goal

pub returns-then-has_kept_room-clause-kept : goal.returns-then-has_kept_room-clause-kept
returns-then-has_kept_room-clause-kept c = λ taken pieces are.
    let added = c.add_part.ensures in
    rw (kept-laid c.args.self.now c.args.text.now c.args.font pieces (sym c.has_kept_room.ensures ∙ c.if-has_kept_room.true) (sym added.answer ∙ taken) are, added.part taken) refl
