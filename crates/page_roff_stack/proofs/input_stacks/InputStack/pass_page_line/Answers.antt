use Rattle.std.proofs.Common.{[], refl, ap, ◌∙◌}
use Rattle.page_roff_stack.specs.declared.input_stacks.InputStack.TheInside.{Inside}
use Rattle.page_roff_stack.specs.machine.Stacks.{page_passed, Stack, next_of, is_nothing}
use Rattle.page_roff_stack.specs.machine.InputStacks.{stack_of}
use Rattle.page_roff_stack.proofs.InputStackLemmas.{callers_none, page_of, line_passed, nothing_there}
use Rattle.page_roff_stack.proofs.input_stacks.InputStack.pass_page_line.Goals as goal

pub invariant_of-self : goal.invariant_of-self
invariant_of-self c =
    let a = c.self.inside in
    let b : Inside = record { text = a.text; top = c.pass_page_line.new.self; callers = a.callers } in
    let s = stack_of a in
    let none = callers_none a (nothing_there s.top.turning s.top.region s.top.parts s.top.lines s.under (ap (λ s. is_nothing (next_of s)) c.self.view_is ∙ c.requires.idle)) in
    let passed = c.pass_page_line.ensures a.text.items (page_of a none c.self.invariant) in
    (line_passed a b none refl refl c.self.invariant passed.0 passed.1).0

pub returns : goal.returns
returns c =
    let a = c.self.inside in
    let b : Inside = record { text = a.text; top = c.pass_page_line.new.self; callers = a.callers } in
    let s = stack_of a in
    let none = callers_none a (nothing_there s.top.turning s.top.region s.top.parts s.top.lines s.under (ap (λ s. is_nothing (next_of s)) c.self.view_is ∙ c.requires.idle)) in
    let passed = c.pass_page_line.ensures a.text.items (page_of a none c.self.invariant) in
    (line_passed a b none refl refl c.self.invariant passed.0 passed.1).1
    ∙ ap (λ s. let t : Stack = record { top = page_passed s.top; under = []; texts = [] } in t) c.self.view_is
