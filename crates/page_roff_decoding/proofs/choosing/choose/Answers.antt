use Rattle.std.proofs.Common.{refl, sym, ◌∙◌}
use Rattle.page_roff_decoding.proofs.ScanLemmas.{rest_of, choice_of-low, choice_of-high, choice_of-end, eq_true, eq_false}
use Rattle.page_roff_decoding.proofs.choosing.choose.Goals as goal

pub returns-then-sequence_len-eq0 : goal.returns-then-sequence_len-eq0
returns-then-sequence_len-eq0 c =
    let text = c.args.text.now in
    let at = c.loop-at.at in
    let len = rw (rest_of text at) at c.sequence_len.ensures.value in
    sym (c.loop-at.invariant ∙ choice_of-high text at c.loop-at-test.true c.if-text-at-ge128.true
    ∙ rw (← len, eq_true c.sequence_len.result 0 c.if-sequence_len-eq0.true) refl)

pub returns-else-sequence_len-eq0 : goal.returns-else-sequence_len-eq0
returns-else-sequence_len-eq0 c =
    let text = c.args.text.now in
    let at = c.loop-at.at in
    let len = rw (rest_of text at) at c.sequence_len.ensures.value in
    sym (c.loop-at.invariant ∙ choice_of-high text at c.loop-at-test.true c.if-text-at-ge128.true
    ∙ rw (← len, eq_false c.sequence_len.result 0 c.if-sequence_len-eq0.false) refl)

pub loop-at-preserved : goal.loop-at-preserved
loop-at-preserved c = c.loop-at.invariant ∙ choice_of-low c.args.text.now c.loop-at.at c.loop-at-test.true c.if-text-at-ge128.false

pub returns : goal.returns
returns c = sym (c.loop-at.invariant ∙ choice_of-end c.args.text.now c.loop-at.at c.loop-at-test.false)
