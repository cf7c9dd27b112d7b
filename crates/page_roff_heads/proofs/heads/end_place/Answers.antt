use Rattle.std.proofs.Common.{◌+◌, ◌∙◌, sym, arith}
use Rattle.std.proofs.lemmas.Bool.Decides.{nat_tests}
use Rattle.std.proofs.lemmas.List.{take_rest}
use Rattle.page_roff_heads.proofs.Ahead.{read_first, read_pair, read_comment, read_all, without_ends}
use Rattle.page_roff_heads.proofs.heads.end_place.Goals as goal

pub loop-place-init : goal.loop-place-init
loop-place-init c = read_first c.args.line.now c.plain_len-place.result c.plain_len-place.ensures.value

pub loop-place-preserved : goal.loop-place-preserved
loop-place-preserved c =
    read_pair c.args.line.now c.loop-place.place c.plain_len-place-in-loop-place.result c.loop-place.invariant c.loop-place-test.true
    (grind (arith, nat_tests)) (sym c.begins_comment.ensures ∙ c.if-begins_comment.false)
    (rw (take_rest c.args.line.now (c.loop-place.place + 2)) at c.plain_len-place-in-loop-place.ensures.value)

pub returns-then-begins_comment-clause-value : goal.returns-then-begins_comment-clause-value
returns-then-begins_comment-clause-value c =
    sym (read_comment c.args.line.now c.loop-place.place c.loop-place.invariant c.loop-place-test.true
    (grind (arith, nat_tests)) (sym c.begins_comment.ensures ∙ c.if-begins_comment.true))

pub returns-clause-value : goal.returns-clause-value
returns-clause-value c = sym (read_all c.args.line.now c.loop-place.place c.loop-place.invariant (omega (arith, c.loop-place-test.false)))

pub returns-then-lacks_pair-clause-value : goal.returns-then-lacks_pair-clause-value
returns-then-lacks_pair-clause-value c = sym (without_ends c.args.line.now (c.lacks_pair.ensures.0 c.if-lacks_pair.true))
