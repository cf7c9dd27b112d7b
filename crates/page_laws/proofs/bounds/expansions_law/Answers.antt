use Rattle.page_laws.proofs.ShownLemmas.{plain-sum, page-count}
use Rattle.page_laws.proofs.bounds.expansions_law.Goals as goal

pub returns-clause-sum : goal.returns-clause-sum
returns-clause-sum c = plain-sum

pub returns-clause-page : goal.returns-clause-page
returns-clause-page c = page-count
