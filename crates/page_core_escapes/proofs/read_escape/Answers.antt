use Rattle.std.proofs.Common.{◌∙◌, sym, ap}
use Rattle.page_core_escapes.specs.Meanings.{read_escape, escape_of}
use Rattle.page_core_escapes.proofs.Contents.{escape_len-some}
use Rattle.page_core_escapes.proofs.read_escape.Goals as goal

pub returns-in-Some-clause-meaning : goal.returns-in-Some-clause-meaning
unfolding escape_of
returns-in-Some-clause-meaning c =
    c.read_meaning.ensures ∙ ap (λ o. (read_escape c.args.pairs c.args.text.now o).0) (sym (sym c.escape_len.ensures.value ∙ c.in-Some.is))

pub returns-in-Some-clause-len : goal.returns-in-Some-clause-len
unfolding escape_of
returns-in-Some-clause-len c = ap (λ o. (read_escape c.args.pairs c.args.text.now o).1) (sym (sym c.escape_len.ensures.value ∙ c.in-Some.is))

pub returns-in-Some-clause-some : goal.returns-in-Some-clause-some
returns-in-Some-clause-some c = escape_len-some c.args.pairs c.args.text.now c.in-Some.len (sym c.escape_len.ensures.value ∙ c.in-Some.is)

pub returns-in-None-clause-meaning : goal.returns-in-None-clause-meaning
unfolding escape_of
returns-in-None-clause-meaning c = ap (λ o. (read_escape c.args.pairs c.args.text.now o).0) (sym (sym c.escape_len.ensures.value ∙ c.in-None.is))

pub returns-in-None-clause-len : goal.returns-in-None-clause-len
unfolding escape_of
returns-in-None-clause-len c = ap (λ o. (read_escape c.args.pairs c.args.text.now o).1) (sym (sym c.escape_len.ensures.value ∙ c.in-None.is))
