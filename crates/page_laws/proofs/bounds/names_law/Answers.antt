use Rattle.page_laws.proofs.ShownLemmas.{short-name, long-name}
use Rattle.page_laws.proofs.bounds.names_law.Goals as goal

pub returns-clause-short : goal.returns-clause-short
returns-clause-short c = short-name

pub returns-clause-long : goal.returns-clause-long
returns-clause-long c = long-name
