use Rattle.std.proofs.Common.{◌≡◌, ◌+◌, drop, get_or, ap, sym, ◌∙◌, add-zero, arith, length-drop}
use Rattle.std.proofs.lemmas.List.{take_rest, drop-drop, get_or-drop}
use Rattle.page_roff_syntax.specs.Arguments.{bare_len}
use Rattle.page_roff_syntax.proofs.ArgumentLemmas.{bare_pair, bare_none, bare_run, bare_begins, blank_test, letter_test}
use Rattle.page_roff_syntax.proofs.quotes.bare_len.Goals as goal

pub loop-len-preserved-then-text-len-ne92 : goal.loop-len-preserved-then-text-len-ne92
loop-len-preserved-then-text-len-ne92 c =
    let text = c.args.text.now in
    let n = c.loop-len.len in
    let i = c.loop-len.invariant in
    let run = rw (take_rest text n) at c.unescaped_len-len.ensures in
    let k = c.unescaped_len-len.result in
    let d = length-drop n text in
    let all : bare_len (drop n text) ≡ k + bare_len (drop (n + k) text) = rw (drop-drop k n text) at (rw (sym run.value) at (bare_run (drop n text))) in
    let at : get_or (drop n text) 0 0 ≡ get_or text n 0 = get_or-drop n text 0 0 ∙ ap (λ at. get_or text at 0) (add-zero n) in
    let some = rw (sym run.value) at (bare_begins (drop n text) (omega (arith, d, c.loop-len-test.true))
    (λ e. c.if-text-len-ne32.true (sym at ∙ e)) (λ e. c.if-text-len-ne92.true (sym at ∙ e))) in
    (omega (arith, run.within, d), omega (arith, i.1, all))

pub loop-len-preserved-then-len-text : goal.loop-len-preserved-then-len-text
loop-len-preserved-then-len-text c =
    let i = c.loop-len.invariant in
    let w = bare_pair c.args.text.now c.loop-len.len c.if-len-text.true (letter_test _ c.if-text-len-ne32.true) c.if-text-len-ne92.false in
    (omega arith, omega (arith, i.1, w))

pub returns-else-text-len-ne32-clause-value : goal.returns-else-text-len-ne32-clause-value
returns-else-text-len-ne32-clause-value c =
    let i = c.loop-len.invariant in
    let q = bare_none c.args.text.now c.loop-len.len c.loop-len-test.true (blank_test _ c.if-text-len-ne32.false) in
    omega (arith, i.1, q)
