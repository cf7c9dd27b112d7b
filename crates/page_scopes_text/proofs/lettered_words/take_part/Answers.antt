use Rattle.std.proofs.Common.{refl}
use Rattle.page_scopes_text.proofs.PartedLemmas.{plain_lettered}
use Rattle.page_scopes_text.proofs.lettered_words.take_part.Goals as goal

pub returns-clause-taken : goal.returns-clause-taken
returns-clause-taken c = λ ok. (c.args.bytes.now, plain_lettered c.args.bytes.now c.requires (c.if-not-is_one_part.ensures refl).1, c.add.ensures.added ok)
