use Rattle.std.proofs.Common.{◌+◌, ◌∙◌, sym, arith}
use Rattle.std.proofs.Math.Seq.{take-length}
use Rattle.std.proofs.lemmas.List.{take_rest}
use Rattle.page_roff_syntax.proofs.FormLemmas.{front_of, read_first, read_comment, read_pair, read_all}
use Rattle.page_roff_syntax.proofs.PairLemmas.{without_pairs}
use Rattle.page_roff_syntax.proofs.comments.uncommented_len.Goals as goal

pub loop-place-init : goal.loop-place-init
loop-place-init c = read_first c.args.line.now c.plain_len-place.result c.plain_len-place.ensures.value

pub returns-then-begins_comment-clause-value : goal.returns-then-begins_comment-clause-value
returns-then-begins_comment-clause-value c =
    front_of c.args.line.now c.loop-place.place
    (read_comment c.args.line.now c.loop-place.place c.loop-place.invariant c.loop-place-test.true (sym c.begins_comment.ensures ∙ c.if-begins_comment.true))

pub loop-place-preserved : goal.loop-place-preserved
loop-place-preserved c =
    read_pair c.args.line.now c.loop-place.place c.plain_len-place-in-loop-place.result c.loop-place.invariant c.loop-place-test.true
    (sym c.begins_comment.ensures ∙ c.if-begins_comment.false) (rw (take_rest c.args.line.now (c.loop-place.place + 2)) at c.plain_len-place-in-loop-place.ensures.value)

pub returns-clause-value : goal.returns-clause-value
returns-clause-value c = front_of c.args.line.now _ (read_all c.args.line.now c.loop-place.place c.loop-place.invariant (omega (arith, c.loop-place-test.false)))

pub returns-then-lacks_pair-clause-value : goal.returns-then-lacks_pair-clause-value
returns-then-lacks_pair-clause-value c =
    let line = c.args.line.now in
    take-length line ∙ sym (without_pairs line (c.lacks_pair.ensures.0 c.if-lacks_pair.true))
