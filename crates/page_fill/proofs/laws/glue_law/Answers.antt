use Rattle.page_fill.proofs.MarkedPieces.{glued-texts}
use Rattle.page_fill.proofs.laws.glue_law.Goals as goal

pub returns : goal.returns
returns c = glued-texts
