use Rattle.page_roff_lines.proofs.PointLemmas.{hold-limit}
use Rattle.page_roff_lines.proofs.cutter.held_law.Goals as goal

pub returns : goal.returns
returns c = hold-limit
