use Rattle.std.proofs.Common.{◌≤◌, length, sym, ◌∙◌, arith}
use Rattle.std.proofs.lemmas.Bool.Decides.{nat_tests}
use Rattle.page_scopes_text.proofs.TextLemmas.{text_none, text_word}
use Rattle.page_scopes_text.specs.Texts.{words_of, last_word}
use Rattle.page_scopes_text.proofs.texts.give_text.Goals as goal

pub returns-then-begins_word-clause-came : goal.returns-then-begins_word-clause-came
returns-then-begins_word-clause-came g c = λ plan rest h.
    let last = last_word c.args.pen.now.column c.args.last (words_of c.args.style.is_quoted c.args.text.now) in
    let parts = (text_word c.args.style c.args.line last c.args.pen.now c.args.text.now (sym c.begins_word.ensures ∙ c.if-begins_word.true)).0 in
    (rw c.new-front.ensures at c.give_others.ensures.came) plan rest (c.give_words-rest.ensures.came _ plan rest (rw parts at h))

pub returns-then-begins_word-clause-pen : goal.returns-then-begins_word-clause-pen
returns-then-begins_word-clause-pen g c =
    c.give_others.ensures.pen ∙ c.give_words-rest.ensures.pen
    ∙ sym (text_word c.args.style c.args.line 0 c.args.pen.now c.args.text.now (sym c.begins_word.ensures ∙ c.if-begins_word.true)).1

pub returns-then-is_empty-clause-came : goal.returns-then-is_empty-clause-came
returns-then-is_empty-clause-came g c = λ plan rest h.
    let none : length c.args.text.now ≤ 0 = grind (arith, nat_tests) in
    c.give_word.ensures.came plan rest (rw (text_none c.args.style c.args.line _ c.args.pen.now c.args.text.now none).0 at h)

pub returns-then-is_empty-clause-pen : goal.returns-then-is_empty-clause-pen
returns-then-is_empty-clause-pen g c =
    let none : length c.args.text.now ≤ 0 = grind (arith, nat_tests) in
    c.give_word.ensures.pen ∙ sym (text_none c.args.style c.args.line 0 c.args.pen.now c.args.text.now none).1

pub returns-else-is_empty-clause-came : goal.returns-else-is_empty-clause-came
returns-else-is_empty-clause-came g c = λ plan rest h.
    (rw c.new-front.ensures at c.give_others-else-is_empty.ensures.came) plan rest ((rw c.new-front.ensures at c.give_leading-rest.ensures.came) plan rest h)

pub returns-else-is_empty-clause-pen : goal.returns-else-is_empty-clause-pen
returns-else-is_empty-clause-pen g c = c.give_others-else-is_empty.ensures.pen ∙ c.give_leading-rest.ensures.pen
