use Rattle.std.proofs.Common.{length, ap, sym, ◌∙◌, append_assoc}
use Rattle.page_core_escapes.specs.Tokens.{token_bytes}
use Rattle.page_scopes_text.proofs.TextLemmas.{others_end, others_spaced}
use Rattle.page_scopes_text.proofs.texts.give_spaced.Goals as goal

pub returns-then-begins_word-clause-came : goal.returns-then-begins_word-clause-came
returns-then-begins_word-clause-came g c = λ plan rest h.
    let is = c.len.ensures ∙ ap (λ u. length (token_bytes u)) c.read_token.ensures.value in
    let test = sym c.begins_word.ensures ∙ c.if-begins_word.true in
    let parts = (others_spaced c.args.style c.args.line c.args.front.now c.args.pen.now c.args.text.now _ _ c.len.result c.requires.white is c.split_at.ensures.front c.split_at.ensures.back test).0 in
    (rw (c.has_tab.ensures, c.pass_white.ensures) at c.give_words.ensures.came) c.args.front.now plan rest
    ((rw c.pass_white.ensures at c.give_white.ensures) plan _ (rw (parts, append_assoc) at h))

pub returns-then-begins_word-clause-pen : goal.returns-then-begins_word-clause-pen
returns-then-begins_word-clause-pen g c =
    let is = c.len.ensures ∙ ap (λ u. length (token_bytes u)) c.read_token.ensures.value in
    let test = sym c.begins_word.ensures ∙ c.if-begins_word.true in
    (rw c.pass_white.ensures at c.give_words.ensures.pen)
    ∙ sym (others_spaced c.args.style c.args.line c.args.front.now c.args.pen.now c.args.text.now _ _ c.len.result c.requires.white is c.split_at.ensures.front c.split_at.ensures.back test).1

pub returns-else-begins_word-clause-came : goal.returns-else-begins_word-clause-came
returns-else-begins_word-clause-came g c = λ plan rest h.
    let is = c.len.ensures ∙ ap (λ u. length (token_bytes u)) c.read_token.ensures.value in
    let test = sym c.begins_word.ensures ∙ c.if-begins_word.false in
    let parts = (others_end c.args.style c.args.line c.args.front.now c.args.pen.now c.args.text.now _ _ c.len.result c.requires.white is c.split_at.ensures.front c.split_at.ensures.back test).0 in
    rw c.pass_white.ensures (c.give_last_white.ensures plan _ (rw (parts, append_assoc) at h))

pub returns-else-begins_word-clause-pen : goal.returns-else-begins_word-clause-pen
returns-else-begins_word-clause-pen g c =
    let is = c.len.ensures ∙ ap (λ u. length (token_bytes u)) c.read_token.ensures.value in
    let test = sym c.begins_word.ensures ∙ c.if-begins_word.false in
    rw c.pass_white.ensures
    (sym (others_end c.args.style c.args.line c.args.front.now c.args.pen.now c.args.text.now _ _ c.len.result c.requires.white is c.split_at.ensures.front c.split_at.ensures.back test).1)
