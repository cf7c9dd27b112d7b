use Rattle.std.proofs.Common.{append_assoc, ap, arith, sym, ◌∙◌}
use Rattle.page_fill_rows.proofs.CharacterLemmas.{bytes-more, bytes-done}
use Rattle.page_fill_rows.proofs.plain_texts.put_bytes.Goals as goal

pub loop-byte-preserved : goal.loop-byte-preserved
loop-byte-preserved g c =
    let l = c.loop-byte in
    let more = bytes-more l.row c.args.bytes.now l.byte-index c.args.font c.args.place 0 c.loop-byte-test.true in
    rw c.put_letter.ensures.1 (
      (λ plan rows notes h. c.put_letter.ensures.0 plan _ _ (rw (more, append_assoc, append_assoc) at (l.invariant.0 plan rows notes h))),
      sym (ap (λ m. m.edge) more) ∙ l.invariant.1,
    )

pub returns : goal.returns
returns g c =
    let l = c.loop-byte in
    let done = bytes-done l.row c.args.bytes.now l.byte-index c.args.font c.args.place (omega arith) in
    ((λ plan rows notes h. rw done at (l.invariant.0 plan rows notes h)), rw done at l.invariant.1)
