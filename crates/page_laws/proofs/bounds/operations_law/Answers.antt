use Rattle.page_laws.proofs.OperationLemmas.{first-is, next-is}
use Rattle.page_laws.proofs.bounds.operations_law.Goals as goal

pub returns-clause-first : goal.returns-clause-first
returns-clause-first c = first-is

pub returns-clause-next : goal.returns-clause-next
returns-clause-next c = next-is
