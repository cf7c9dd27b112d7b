use Rattle.std.proofs.Common.{ap, sym, ◌∙◌, vec_len}
use Rattle.page_roff_blocks.specs.machine.Languages.{is_some}
use Rattle.page_roff_blocks.specs.machine.Machine.{depth}
use Rattle.page_roff_stack.specs.machine.InputStacks.{stack_of}
use Rattle.page_roff_stack.proofs.InputStackLemmas.{may_call_is, under_len}
use Rattle.page_roff_stack.proofs.input_stacks.InputStack.may_call.Goals as goal

pub returns : goal.returns
returns c =
    let a = c.self.inside in
    rw c.len.ensures (may_call_is (stack_of a).under (vec_len a.callers) (a.callers.ok.0 ∙ sym (under_len a)) ∙ ap (λ s. is_some (depth s.under)) c.self.view_is)
