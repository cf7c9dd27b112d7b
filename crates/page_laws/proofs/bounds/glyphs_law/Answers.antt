use Rattle.page_laws.proofs.ShownLemmas.{same-characters, same-unknown}
use Rattle.page_laws.proofs.bounds.glyphs_law.Goals as goal

pub returns-clause-characters : goal.returns-clause-characters
returns-clause-characters c = same-characters

pub returns-clause-unknown : goal.returns-clause-unknown
returns-clause-unknown c = same-unknown
