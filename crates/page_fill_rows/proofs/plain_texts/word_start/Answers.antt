use Rattle.std.proofs.Common.{sym, ◌∙◌, ◌-◌, arith}
use Rattle.page_fill_rows.proofs.GroupLemmas.{vector-some, vector-none}
use Rattle.page_fill_rows.proofs.plain_texts.word_start.Goals as goal

pub returns-then-start-gt0-clause-value : goal.returns-then-start-gt0-clause-value
returns-then-start-gt0-clause-value c =
    let front = c.saturating_sub-front.result in
    let is = c.saturating_sub-front.ensures in
    let start = c.vector_start-start.ensures.value in
    let some = vector-some c.args.text.now c.args.end front (c.args.end - front) (omega (arith, is)) (omega (arith, is, c.requires)) (omega (arith, is)) (omega (arith, start, c.if-start-gt0.true)) in
    omega (arith, some, start)

pub returns-clause-value : goal.returns-clause-value
returns-clause-value c =
    let front = c.saturating_sub-front.result in
    let is = c.saturating_sub-front.ensures in
    let start = c.vector_start-start.ensures.value in
    let none = vector-none c.args.text.now c.args.end front (c.args.end - front) (omega (arith, is)) (omega (arith, is, c.requires)) (omega (arith, is)) (omega (arith, start, c.if-start-gt0.false)) in
    c.start_by_bytes-2.ensures.value ∙ sym none
