use Rattle.page_roff_lines.proofs.LineAgreement.{lines-one_by_one}
use Rattle.page_roff_lines.proofs.cutter.one_by_one_law.Goals as goal

pub returns : goal.returns
returns c = lines-one_by_one
