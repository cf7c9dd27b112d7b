use Rattle.page_engine_index.proofs.MatchLemmas.{split_none, parted_some}
use Rattle.page_engine_index.proofs.entries.last_field.Goals as goal

pub returns-in-Some : goal.returns-in-Some
returns-in-Some c = parted_some c.args.text.now _ (rw c.in-Some.is at c.memchr.ensures)

pub returns-in-None : goal.returns-in-None
returns-in-None c = split_none 9 c.args.text.now (rw c.in-None.is at c.memchr.ensures)
