use Rattle.page_scopes_words.proofs.tokens.token_prints.Goals as goal

pub returns-in-Escaped : goal.returns-in-Escaped
returns-in-Escaped c = rw c.in-Escaped.is (c.escape_prints.ensures c.in-Escaped.bytes.now)
