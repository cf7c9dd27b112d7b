use Rattle.page_scopes_text.proofs.KeptTextLemmas.{front_came, front_pen}
use Rattle.page_scopes_text.proofs.lettered_texts.give_lettered_front.Goals as goal

pub returns-clause-came : goal.returns-clause-came
returns-clause-came g c = λ last.
    rw c.rest_after.ensures
    (front_came g.O.PieceOut.left c.args.style c.args.line last c.args.pen.now c.in_ok-fonts.fonts c.args.text.now c.in_ok-fonts.rest.now _ _ _ (c.goes_on.ensures c.if-not-goes_on.false)
    c.requires.word c.takes_words.ensures c.in_ok-fonts.ensures)

pub returns-clause-pen : goal.returns-clause-pen
returns-clause-pen g c =
    rw c.rest_after.ensures
    (front_pen _ c.args.style c.args.pen.now c.in_ok-fonts.fonts c.args.text.now c.in_ok-fonts.rest.now _ _ (c.goes_on.ensures c.if-not-goes_on.false) c.requires.word c.in_ok-fonts.ensures)
