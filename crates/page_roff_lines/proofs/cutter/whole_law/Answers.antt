use Rattle.page_roff_lines.proofs.WholeLemmas.{whole-is, made-is, left-is}
use Rattle.page_roff_lines.proofs.cutter.whole_law.Goals as goal

pub returns : goal.returns
returns c = record { whole = whole-is; made = made-is; left = left-is }
