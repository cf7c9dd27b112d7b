use Rattle.page_engine.proofs.Through.{page_more, page_whole}
use Rattle.page_engine.proofs.laws.pieces_law.Goals as goal

pub returns : goal.returns
returns c = record { piece = page_more; rest = page_whole }
