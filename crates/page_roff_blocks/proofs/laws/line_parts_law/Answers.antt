use Rattle.page_roff_blocks.proofs.LinePartLemmas.{line_parts_cons}
use Rattle.page_roff_blocks.proofs.laws.line_parts_law.Goals as goal

pub returns : goal.returns
returns c = λ line. line_parts_cons line
