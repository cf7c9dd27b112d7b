use Rattle.page_core_numbers.proofs.ExpressionLemmas.{printed-none, printed-character, printed-escape}
use Rattle.page_laws.proofs.bounds.printed_law.Goals as goal

pub returns-clause-none : goal.returns-clause-none
returns-clause-none c = printed-none

pub returns-clause-character : goal.returns-clause-character
returns-clause-character c = printed-character

pub returns-clause-escape : goal.returns-clause-escape
returns-clause-escape c = printed-escape
