use Rattle.page_laws.proofs.OperationLemmas.{flag_reached, all_in_line, all_one_more, all_same}
use Rattle.page_laws.proofs.places.places_law.Goals as goal

pub returns-clause-places : goal.returns-clause-places
returns-clause-places c = all_in_line

pub returns-clause-bound : goal.returns-clause-bound
returns-clause-bound c = all_one_more

pub returns-clause-limit : goal.returns-clause-limit
returns-clause-limit c = all_same

pub returns-clause-last : goal.returns-clause-last
returns-clause-last c = flag_reached
