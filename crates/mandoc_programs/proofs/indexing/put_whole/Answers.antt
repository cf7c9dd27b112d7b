use Rattle.mandoc_programs.proofs.indexing.put_whole.Goals as goal

pub returns-clause-put : goal.returns-clause-put
returns-clause-put g c = rw c.if-put_in_place.false at c.put_in_place.ensures
