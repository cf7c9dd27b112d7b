use Rattle.page_laws.proofs.OperationLemmas.{cells-next}
use Rattle.page_laws.proofs.bounds.cells_law.Goals as goal

pub returns : goal.returns
returns c = cells-next
