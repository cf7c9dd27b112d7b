use Rattle.std.proofs.Common.{[], ◌∷◌}
use Rattle.page_scopes_text.proofs.PartedLemmas.{quote_lettered}
use Rattle.page_scopes_text.proofs.lettered_words.take_token.Goals as goal

pub returns-in-Quotes-clause-taken : goal.returns-in-Quotes-clause-taken
returns-in-Quotes-clause-taken c = λ ok. (34 ∷ [], rw c.in-Quotes.is (quote_lettered c.in-Quotes.field-0.now), c.add.ensures.added ok)

pub returns-in-Escaped-clause-taken : goal.returns-in-Escaped-clause-taken
returns-in-Escaped-clause-taken c = λ ok. rw c.in-Escaped.is (c.take_escape.ensures.taken ok c.in-Escaped.bytes.now)
