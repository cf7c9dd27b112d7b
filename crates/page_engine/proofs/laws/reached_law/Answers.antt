use Rattle.page_engine.proofs.WholeLines.{start_reached, reached, lines_edge}
use Rattle.page_engine.proofs.laws.reached_law.Goals as goal

pub returns : goal.returns
returns c = record { start = start_reached; lines = reached; layers_after = lines_edge }
