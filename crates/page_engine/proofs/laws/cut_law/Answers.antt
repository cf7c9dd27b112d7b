use Rattle.page_engine.proofs.WholeLines.{settled-append, page-append}
use Rattle.page_engine.proofs.laws.cut_law.Goals as goal

pub returns : goal.returns
returns c = record { settled = settled-append; page = page-append }
