use Rattle.std.proofs.Common.{sym, ◌∙◌}
use Rattle.page_fill_rows.proofs.PlainLemmas.{letters-fits}
use Rattle.page_fill_rows.proofs.plain_texts.put_part.Goals as goal

pub returns-then-has_room : goal.returns-then-has_room
returns-then-has_room g c =
    rw (letters-fits c.args.row.now c.args.bytes.now c.args.font c.args.place (sym c.is_empty.ensures ∙ c.if-not-is_empty.true) c.requires (sym c.has_room.ensures ∙ c.if-has_room.true))
    ((λ plan rows notes h. h), c.add_plain.ensures)
