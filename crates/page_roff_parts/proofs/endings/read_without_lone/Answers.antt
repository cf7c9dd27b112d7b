use Rattle.std.proofs.Common.{arith}
use Rattle.page_roff_parts.proofs.BracketLemmas.{one_more, two_more, lone_end, whole_end}
use Rattle.page_roff_parts.proofs.endings.read_without_lone.Goals as goal

pub loop-at-preserved-then-text-at-eq92 : goal.loop-at-preserved-then-text-at-eq92
loop-at-preserved-then-text-at-eq92 c =
    let i = c.loop-at.invariant in
    (omega arith, two_more c.args.text.now c.loop-at.at i.1 c.loop-at-test.true c.if-text-at-eq92.true)

pub loop-at-preserved : goal.loop-at-preserved
loop-at-preserved c =
    let i = c.loop-at.invariant in
    (omega arith, one_more c.args.text.now c.loop-at.at i.1 c.loop-at-test.true c.if-text-at-eq92.false)

pub returns-then-at-text : goal.returns-then-at-text
returns-then-at-text c =
    let i = c.loop-at.invariant in
    record { value = whole_end c.args.text.now c.loop-at.at i.1 i.0 (omega arith) (λ l. absurd (omega arith)) }

pub returns-then-text-at-eq92-2 : goal.returns-then-text-at-eq92-2
returns-then-text-at-eq92-2 c =
    let i = c.loop-at.invariant in
    record { value = lone_end c.args.text.now c.loop-at.at i.1 (omega arith) (omega arith) c.if-text-at-eq92-2.true }

pub returns-else-text-at-eq92-2 : goal.returns-else-text-at-eq92-2
returns-else-text-at-eq92-2 c =
    let i = c.loop-at.invariant in
    record { value = whole_end c.args.text.now c.loop-at.at i.1 i.0 (omega arith) (λ l. c.if-text-at-eq92-2.false) }
