use Rattle.page_roff_lines.proofs.PointLemmas.{point_after-append, lines_within-append}
use Rattle.page_roff_lines.proofs.LineAgreement.{lines-cut}
use Rattle.page_roff_lines.proofs.cutter.cut_law.Goals as goal

pub returns : goal.returns
returns c = record { lines = lines-cut; within = lines_within-append; point = point_after-append }
