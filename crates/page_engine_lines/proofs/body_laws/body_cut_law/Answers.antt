use Rattle.page_engine_lines.proofs.StepLemmas.{items-append, after-append}
use Rattle.page_engine_lines.proofs.body_laws.body_cut_law.Goals as goal

pub returns : goal.returns
returns c = record { items = items-append; after = after-append }
