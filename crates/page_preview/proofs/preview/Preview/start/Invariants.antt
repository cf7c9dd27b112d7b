use Rattle.std.proofs.Common.{vec_len}
use Rattle.page_preview.proofs.preview.Preview.start.Given as goal

-- a mark goes away
abbrev pub decreases-loop-mark : goal.decreases-loop-mark
decreases-loop-mark l = vec_len l.self.marks
