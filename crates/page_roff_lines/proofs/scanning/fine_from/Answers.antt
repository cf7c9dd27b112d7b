use Rattle.std.proofs.Common.{arith}
use Rattle.page_roff_lines.proofs.scanning.fine_from.Goals as goal

pub loop-at-init : goal.loop-at-init
loop-at-init c = (omega arith, c.requires.text, λ _. c.requires.free)
