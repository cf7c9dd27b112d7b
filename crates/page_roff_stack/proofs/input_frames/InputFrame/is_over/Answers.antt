use Rattle.std.proofs.Common.{sym, ◌∙◌}
use Rattle.page_roff_stack.proofs.InputFrameLemmas.{lines_here, over_region, over_line}
use Rattle.page_roff_stack.proofs.input_frames.InputFrame.is_over.Goals as goal

pub returns-then-self : goal.returns-then-self
returns-then-self c = λ text h. lines_here c.args.self.now text c.if-self.true h.lines

pub returns-then-is_some : goal.returns-then-is_some
returns-then-is_some c = λ text h.
    over_region c.args.self.now text (sym c.is_some.ensures ∙ c.if-is_some.true) c.if-self.false h.lines

pub returns : goal.returns
returns c = λ text h.
    c.is_at_end.ensures ∙ over_line c.args.self.now text (sym c.is_some.ensures ∙ c.if-is_some.false) c.if-self.false h.lines
