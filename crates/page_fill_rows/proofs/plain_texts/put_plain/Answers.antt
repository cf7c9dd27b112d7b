use Rattle.std.proofs.Common.{append_assoc, ap, sym, ◌∙◌}
use Rattle.page_fill_rows.proofs.CharacterLemmas.{parts-more}
use Rattle.page_fill_rows.proofs.PlainLemmas.{parts-plain}
use Rattle.page_fill_rows.proofs.plain_texts.put_plain.Goals as goal

pub put_part-requires : goal.put_part-requires
put_part-requires g c =
    let plain = parts-plain c.part_len.result c.loop-rest.rest.now c.loop-rest.invariant.2 in
    rw c.split_at.ensures.front plain.0

pub loop-rest-preserved : goal.loop-rest-preserved
loop-rest-preserved g c =
    let l = c.loop-rest in
    let more = parts-more l.row l.rest.now c.part_len.result c.args.font c.args.place in
    let plain = parts-plain c.part_len.result l.rest.now l.invariant.2 in
    rw (c.split_at.ensures.back, c.put_part.ensures.1, c.split_at.ensures.front) (
      (λ plan rows notes h. c.put_part.ensures.0 plan _ _ (rw (c.split_at.ensures.front) (rw (more, append_assoc, append_assoc) at (l.invariant.0 plan rows notes h)))),
      sym (ap (λ m. m.edge) more) ∙ l.invariant.1,
      plain.1,
    )
