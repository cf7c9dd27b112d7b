use Rattle.std.proofs.Common.{refl}
use Rattle.page_core_numbers.proofs.ExpressionLemmas.{limit-front}
use Rattle.page_core_numbers.proofs.troubles.Trouble.note.Goals as goal

pub returns-in-Parentheses : goal.returns-in-Parentheses
returns-in-Parentheses c = rw (c.about-in-Parentheses.ensures, c.in-Parentheses.is, c.as_bytes.ensures.value, c.name.ensures, limit-front (rw c.name.ensures at c.name.utf8)) refl
