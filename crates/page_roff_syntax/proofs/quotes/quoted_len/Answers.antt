use Rattle.std.proofs.Common.{◌≡◌, ◌≢◌, ◌+◌, drop, get_or, ap, sym, ◌∙◌, add-zero, arith, length-drop}
use Rattle.std.proofs.lemmas.List.{take_rest, drop-drop, get_or-drop}
use Rattle.page_roff_syntax.specs.Arguments.{quoted_len}
use Rattle.page_roff_syntax.proofs.quotes.quoted_len.Goals as goal

pub loop-len-preserved-then-text-len-ne34 : goal.loop-len-preserved-then-text-len-ne34
loop-len-preserved-then-text-len-ne34 c =
    let text = c.args.text.now in
    let n = c.loop-len.len in
    let i = c.loop-len.invariant in
    let run = rw (take_rest text n) at c.unquoted_len-len.ensures in
    let k = c.unquoted_len-len.result in
    let d = length-drop n text in
    let all : quoted_len (drop n text) ≡ k + quoted_len (drop (n + k) text) = rw (drop-drop k n text) at run.value in
    let first : get_or (drop n text) 0 0 ≢ 34 = λ e. c.if-text-len-ne34.true (sym (get_or-drop n text 0 0 ∙ ap (λ at. get_or text at 0) (add-zero n)) ∙ e) in
    let some = run.some (omega (arith, d, c.loop-len-test.true)) first in
    (omega (arith, run.within, d), omega (arith, i.1, all))
