use Rattle.std.proofs.Common.{length-drop, sym, ◌∙◌, arith}
use Rattle.std.proofs.lemmas.List.{take_rest}
use Rattle.page_roff_syntax.proofs.ArgumentLemmas.{read_one, read_none}
use Rattle.page_roff_syntax.proofs.arguments.read_argument.Goals as goal

pub returns-then-is_empty-clause-first : goal.returns-then-is_empty-clause-first
returns-then-is_empty-clause-first c =
    let text = c.args.text.now in
    let b = c.blank_len-blanks.result in
    read_none c.args.column b text _ c.blank_len-blanks.ensures.value (take_rest text b) (sym c.is_empty.ensures ∙ c.if-is_empty.true)

pub returns-clause-first : goal.returns-clause-first
returns-clause-first c =
    let text = c.args.text.now in
    let b = c.blank_len-blanks.result in
    let e = read_one c.args.column b c.first_argument-len.result.1 text _ c.blank_len-blanks.ensures.value (take_rest text b)
    (sym c.is_empty.ensures ∙ c.if-is_empty.false) c.first_argument-len.ensures.len in
    let w = rw (take_rest text b) at c.first_argument-len.ensures.size in
    (omega (arith, w, c.blank_len-blanks.ensures.within, length-drop b text), rw c.first_argument-len.ensures.value e)
