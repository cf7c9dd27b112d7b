use Rattle.std.proofs.Common.{sym, ◌∙◌}
use Rattle.page_roff_stack.proofs.InputFrameLemmas.{not_in_region, not_in_line, begins_here}
use Rattle.page_roff_stack.proofs.input_frames.InputFrame.begins_line.Goals as goal

pub returns-then-is_some : goal.returns-then-is_some
returns-then-is_some c = λ text h. not_in_region c.args.self.now text (sym c.is_some.ensures ∙ c.if-is_some.true)

pub returns-then-not-is_at_end : goal.returns-then-not-is_at_end
returns-then-not-is_at_end c = λ text h. not_in_line c.args.self.now text (sym c.is_at_end.ensures ∙ c.if-not-is_at_end.true)

pub returns : goal.returns
returns c = λ text h.
    begins_here c.args.self.now text (sym c.is_some.ensures ∙ c.if-is_some.false) (sym c.is_at_end.ensures ∙ c.if-not-is_at_end.false) h.lines
