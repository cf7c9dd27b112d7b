use Rattle.page_engine_lines.proofs.TreeLemmas.{lines_items-append, lines_after-append}
use Rattle.page_engine_lines.proofs.laws.cut_law.Goals as goal

pub returns : goal.returns
returns c = record { items = lines_items-append; after = lines_after-append }
