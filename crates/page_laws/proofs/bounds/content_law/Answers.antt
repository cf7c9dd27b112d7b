use Rattle.std.proofs.Common.{◌∷◌}
use Rattle.page_core_escapes.proofs.Contents.{content_len-next}
use Rattle.page_laws.proofs.bounds.content_law.Goals as goal

pub returns-clause-none : goal.returns-clause-none
returns-clause-none c = λ pairs delimiter. content_len-next pairs delimiter _

pub returns-clause-first : goal.returns-clause-first
unfolding Rattle.page_core_escapes.specs.Lengths.escape_len
returns-clause-first c = λ pairs delimiter byte bytes. content_len-next pairs delimiter (byte ∷ bytes)
