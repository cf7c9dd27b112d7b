use Rattle.page_engine_index.proofs.SearchLemmas.{match_sound, match_complete}
use Rattle.page_engine_index.proofs.laws.match_law.Goals as goal

pub returns : goal.returns
returns c = record { sound = match_sound; complete = match_complete }
