use Rattle.page_engine.proofs.WholeLines.{texts_most}
use Rattle.page_engine.proofs.laws.texts_law.Goals as goal

pub returns : goal.returns
returns c = texts_most
