use Rattle.std.proofs.Common.{[], ◌∷◌}
use Rattle.page_scopes_text.proofs.PartedLemmas.{char_lettered}
use Rattle.page_scopes_text.proofs.lettered_words.take_escape.Goals as goal

pub returns-in-Char-clause-taken : goal.returns-in-Char-clause-taken
returns-in-Char-clause-taken c = λ ok bytes.
    let k = c.take_char.ensures in
    (c.in-Char.c ∷ [], rw c.in-Char.is (char_lettered bytes c.in-Char.c (k.letter ok)), k.taken ok)
