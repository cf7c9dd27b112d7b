use Rattle.std.proofs.Common.{length, chars, arith}
use Rattle.std.proofs.lemmas.Str.{IsUtf8-past_char}
use Rattle.page_engine_header.proofs.PrintingLemmas.{sum-more, sum-room, plain-done, chars-within}
use Rattle.page_engine_header.proofs.printing.plain_columns.Goals as goal

pub overflow_add-sum : goal.overflow_add-sum
overflow_add-sum c =
    let l = c.loop-c in
    let i = l.invariant in
    let n = c.printed_columns-sum.result in
    let room = sum-room l.sum n (length (chars c.args.text.now)) _ _ c.in-Some.c i.1 c.in-Some.ensures.steps.0 c.printed_columns-sum.ensures.bound i.2 in
    let w = chars-within c.args.text.now c.utf8.text in
    omega (arith, room, w, c.requires)

pub loop-c-preserved : goal.loop-c-preserved
loop-c-preserved c =
    let l = c.loop-c in
    let i = l.invariant in
    let n = c.printed_columns-sum.result in
    let parts = c.in-Some.ensures.steps.0 in (
      sum-more c.args.output l.sum n _ _ _ c.in-Some.c _ i.1 parts c.printed_char.ensures.value c.printed_columns-sum.ensures.value i.0,
      IsUtf8-past_char _ _ c.in-Some.c i.1 parts,
      sum-room l.sum n (length (chars c.args.text.now)) _ _ c.in-Some.c i.1 parts c.printed_columns-sum.ensures.bound i.2,
    )

pub returns-clause-value : goal.returns-clause-value
returns-clause-value c =
    let l = c.loop-c in
    let none = plain-done c.args.output _ c.in-None.ensures.steps.0.0 in
    let e = rw none at l.invariant.0 in
    omega (arith, e)

pub returns-clause-bound : goal.returns-clause-bound
returns-clause-bound c =
    let i = c.loop-c.invariant in
    let w = chars-within c.args.text.now c.utf8.text in
    omega (arith, i.2, w)
