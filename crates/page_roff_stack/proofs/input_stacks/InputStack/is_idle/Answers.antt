use Rattle.std.proofs.Common.{ap, sym, ◌∙◌, vec_len}
use Rattle.page_roff_stack.specs.machine.InputStacks.{stack_of}
use Rattle.page_roff_stack.specs.machine.Stacks.{next_of, is_nothing}
use Rattle.page_roff_stack.proofs.InputStackLemmas.{none_around, some_around, alone_over, something_around}
use Rattle.page_roff_stack.proofs.input_stacks.InputStack.is_idle.Goals as goal

pub returns-then-is_empty : goal.returns-then-is_empty
returns-then-is_empty c =
    let a = c.self.inside in
    let s = stack_of a in
    let none = none_around a (vec_len a.callers) a.callers.ok.0 (sym c.is_empty.ensures ∙ c.if-is_empty.true) in
    c.is_over.ensures a.text.items c.self.invariant.top ∙ alone_over s.top.turning s.top.region s.top.parts s.top.lines s.under none ∙ ap (λ s. is_nothing (next_of s)) c.self.view_is

pub returns-else-is_empty : goal.returns-else-is_empty
returns-else-is_empty c =
    let a = c.self.inside in
    let s = stack_of a in
    let some = some_around a (vec_len a.callers) a.callers.ok.0 (sym c.is_empty.ensures ∙ c.if-is_empty.false) in
    c.if-is_empty.false ∙ something_around s.top.turning s.top.region s.top.parts s.top.lines s.under some ∙ ap (λ s. is_nothing (next_of s)) c.self.view_is
