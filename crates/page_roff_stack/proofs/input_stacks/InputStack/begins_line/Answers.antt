use Rattle.std.proofs.Common.{ap, ◌∙◌}
use Rattle.page_roff_stack.specs.machine.InputStacks.{stack_of}
use Rattle.page_roff_stack.specs.machine.Stacks.{next_of, is_line}
use Rattle.page_roff_stack.proofs.InputStackLemmas.{line_next}
use Rattle.page_roff_stack.proofs.input_stacks.InputStack.begins_line.Goals as goal

pub returns : goal.returns
returns c =
    let a = c.self.inside in
    let s = stack_of a in
    c.begins_line.ensures a.text.items c.self.invariant.top ∙ line_next s.top.turning s.top.region s.top.parts s.top.lines s.under ∙ ap (λ s. is_line (next_of s)) c.self.view_is
