use Rattle.page_fill.proofs.WordRunLemmas.{next-fits, next-passes, both-fit, second-passes}
use Rattle.page_fill.proofs.laws.part_law.Goals as goal

pub returns-clause-fits : goal.returns-clause-fits
returns-clause-fits c = next-fits

pub returns-clause-passes : goal.returns-clause-passes
returns-clause-passes c = next-passes

pub returns-clause-whole : goal.returns-clause-whole
returns-clause-whole c = both-fit

pub returns-clause-cut : goal.returns-clause-cut
returns-clause-cut c = second-passes
