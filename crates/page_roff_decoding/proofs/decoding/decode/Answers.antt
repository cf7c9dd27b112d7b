use Rattle.std.proofs.Common.{◌+◌, sym, ◌∙◌, arith}
use Rattle.std.proofs.lemmas.List.{length-drop, drop_all}
use Rattle.page_roff_decoding.specs.Decoding.{characters_after}
use Rattle.page_roff_decoding.proofs.SequenceLemmas.{decode_line-is_line, so_far-text, so_far-front}
use Rattle.page_roff_decoding.proofs.ScanLemmas.{rest_of, so_far-more, so_far-stop, so_far-end}
use Rattle.page_roff_decoding.proofs.decoding.decode.Goals as goal

pub loop-at-preserved-then-at-text : goal.loop-at-preserved-then-at-text
loop-at-preserved-then-at-text c =
    let text = c.args.text.now in
    let at = c.loop-at.at + c.put_text-at.result in
    let so = so_far-front c.args.encoding text c.loop-at.decoded c.put_text-at.new.decoded c.loop-at.at c.put_text-at.result c.of-front.result
    c.put_text-at.ensures.fits c.put_text-at.ensures.text c.put_text-at.ensures.after c.loop-at.invariant.1 c.if-at-text.true c.of-front.ensures.value c.of-front.ensures.later c.of-front.ensures.some in
    let rest = rest_of text at in
    let within = rw rest at c.of-front.ensures.within in
    let fits = rw rest at c.put_front.ensures.fits in
    let after = rw rest at c.put_front.ensures.after in (
      omega (arith, within, length-drop at text, c.width-at.ensures),
      rw (after, c.if-not-put_front.false, c.width-at.ensures) (so_far-more _ _ _ _ (sym fits ∙ c.if-not-put_front.false) so),
    )

pub loop-at-preserved : goal.loop-at-preserved
loop-at-preserved c =
    let text = c.args.text.now in
    let within = rw (rest_of text c.loop-at.at) at c.put_text-at.ensures.within in (
      omega (arith, within, length-drop c.loop-at.at text),
      so_far-text c.args.encoding text c.loop-at.decoded c.put_text-at.new.decoded c.loop-at.at c.put_text-at.result
          c.put_text-at.ensures.fits c.put_text-at.ensures.text c.put_text-at.ensures.after c.loop-at.invariant.1,
    )

pub returns-then-not-put_front : goal.returns-then-not-put_front
returns-then-not-put_front c =
    let text = c.args.text.now in
    let so = so_far-front c.args.encoding text c.loop-at.decoded c.put_text-at.new.decoded c.loop-at.at c.put_text-at.result c.of-front.result
    c.put_text-at.ensures.fits c.put_text-at.ensures.text c.put_text-at.ensures.after c.loop-at.invariant.1 c.if-at-text.true c.of-front.ensures.value c.of-front.ensures.later c.of-front.ensures.some in
    let rest = rest_of text (c.loop-at.at + c.put_text-at.result) in
    let fits = rw rest at c.put_front.ensures.fits in
    let after = rw rest at c.put_front.ensures.after in
    let stop = so_far-stop _ _ _ _ (sym fits ∙ c.if-not-put_front.true) so in
    let done = after ∙ rw c.if-not-put_front.true (sym stop.0) in
    record { after = done; passed = sym stop.1; line = rw done (decode_line-is_line c.args.encoding text (λ i. omega (arith, c.type_inv.text i))) }

pub returns : goal.returns
unfolding characters_after
returns c =
    let end = so_far-end _ _ (rw (drop_all c.loop-at.at c.args.text.now c.loop-at-test.false) at c.loop-at.invariant.1) in
    record { after = sym end.0; passed = sym end.1; line = rw (sym end.0) (decode_line-is_line c.args.encoding c.args.text.now (λ i. omega (arith, c.type_inv.text i))) }
