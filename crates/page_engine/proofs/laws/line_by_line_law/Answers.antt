use Rattle.page_engine.proofs.WholeLines.{by_lines, page_by_lines}
use Rattle.page_engine.proofs.laws.line_by_line_law.Goals as goal

pub returns : goal.returns
returns c = record { settled = by_lines; page = page_by_lines }
