use Rattle.page_engine_index.proofs.SearchLemmas.{reads_back}
use Rattle.page_engine_index.proofs.laws.read_back_law.Goals as goal

pub returns : goal.returns
returns c = reads_back
