use Rattle.std.proofs.Common.{length, ap, sym, ◌∙◌, refl}
use Rattle.std.proofs.lemmas.List.{take_rest}
use Rattle.page_core_escapes.specs.Tokens.{token_bytes}
use Rattle.page_scopes_text.proofs.PartedLemmas.{no_word}
use Rattle.page_scopes_text.proofs.TextLemmas.{next_word}
use Rattle.page_scopes_text.proofs.texts.gap_column.Goals as goal

pub returns-then-begins_word : goal.returns-then-begins_word
returns-then-begins_word c =
    let is = c.len.ensures ∙ ap (λ u. length (token_bytes u)) c.read_token.ensures.value in
    let word = rw (take_rest c.args.text.now c.len.result, is) at (sym c.begins_word.ensures ∙ c.if-begins_word.true) in
    rw (next_word c.args.quoted _ word) refl

pub returns-else-begins_word : goal.returns-else-begins_word
returns-else-begins_word c =
    let is = c.len.ensures ∙ ap (λ u. length (token_bytes u)) c.read_token.ensures.value in
    let none = rw (take_rest c.args.text.now c.len.result, is) at (sym c.begins_word.ensures ∙ c.if-begins_word.false) in
    rw (no_word c.args.quoted _ none) c.last_word.ensures
