use Rattle.std.proofs.Common.{◌+◌, ◌≤◌, length, sym, ◌∙◌, arith}
use Rattle.std.proofs.lemmas.List.{take_rest}
use Rattle.page_core_base.proofs.LatchLemmas.{goes-all, goes-ends, goes-first, goes-more}
use Rattle.page_core_base.proofs.word_parts.first_part_len.Goals as goal

pub loop-len-init : goal.loop-len-init
loop-len-init c = goes-first c.args.word.now

pub returns-then-ends_part-clause-first : goal.returns-then-ends_part-clause-first
returns-then-ends_part-clause-first c =
    goes-ends c.args.word.now c.loop-len.len c.loop-len.before c.loop-len-test.true c.loop-len.invariant
    (rw (take_rest c.args.word.now (c.loop-len.len + 1)) at (sym c.ends_part.ensures ∙ c.if-ends_part.true))

pub loop-len-preserved : goal.loop-len-preserved
loop-len-preserved c =
    goes-more c.args.word.now c.loop-len.len c.loop-len.before c.loop-len-test.true c.loop-len.invariant
    (rw (take_rest c.args.word.now (c.loop-len.len + 1)) at (sym c.ends_part.ensures ∙ c.if-ends_part.false))

pub returns-clause-first : goal.returns-clause-first
returns-clause-first c =
    let end : length c.args.word.now ≤ c.loop-len.len = omega (arith, c.loop-len-test.false) in
    goes-all c.args.word.now c.loop-len.len c.loop-len.before c.requires.some end c.loop-len.invariant
