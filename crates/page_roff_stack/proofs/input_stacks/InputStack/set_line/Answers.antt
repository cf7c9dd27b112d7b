use Rattle.std.proofs.Common.{[], ap, ◌∙◌, arith}
use Rattle.page_roff_stack.specs.declared.input_stacks.InputStack.TheInside.{Inside}
use Rattle.page_roff_stack.specs.machine.Stacks.{page_line, Stack, next_of, is_nothing}
use Rattle.page_roff_stack.specs.machine.InputStacks.{stack_of}
use Rattle.page_roff_stack.proofs.InputStackLemmas.{callers_none, line_set, nothing_there}
use Rattle.page_roff_stack.proofs.input_stacks.InputStack.set_line.Goals as goal

pub invariant_of-self : goal.invariant_of-self
invariant_of-self c =
    let a = c.self.inside in
    let b : Inside = record { text = c.set_line.new.text; top = c.set_line.new.self; callers = a.callers } in
    let s = stack_of a in
    let none = callers_none a (nothing_there s.top.turning s.top.region s.top.parts s.top.lines s.under (ap (λ s. is_nothing (next_of s)) c.self.view_is ∙ c.requires.idle)) in
    let set = c.set_line.ensures in
    (line_set a b c.args.line.now none c.self.invariant.calls set.held set.frame set.fits (omega (arith, set.capacity, c.self.invariant.room))).0

pub returns : goal.returns
returns c =
    let a = c.self.inside in
    let b : Inside = record { text = c.set_line.new.text; top = c.set_line.new.self; callers = a.callers } in
    let s = stack_of a in
    let none = callers_none a (nothing_there s.top.turning s.top.region s.top.parts s.top.lines s.under (ap (λ s. is_nothing (next_of s)) c.self.view_is ∙ c.requires.idle)) in
    let set = c.set_line.ensures in
    (line_set a b c.args.line.now none c.self.invariant.calls set.held set.frame set.fits (omega (arith, set.capacity, c.self.invariant.room))).1
    ∙ ap (λ s. let t : Stack = record { top = page_line c.args.line.now s.top; under = []; texts = [] } in t) c.self.view_is
