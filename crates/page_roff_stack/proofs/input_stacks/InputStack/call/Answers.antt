use Rattle.std.proofs.Common.{◌≡◌, ◌++◌, ap, ◌∙◌, arith, length-append}
use Rattle.page_roff_blocks.specs.machine.Languages.{is_some}
use Rattle.page_roff_blocks.specs.machine.Machine.{depth, entered}
use Rattle.page_roff_values.specs.Values.{arguments_in, lines_in}
use Rattle.page_roff_stack.specs.declared.input_stacks.Caller.{Caller}
use Rattle.page_roff_stack.specs.declared.input_stacks.InputStack.TheInside.{Inside}
use Rattle.page_roff_stack.specs.machine.Stacks.{frame_of, call_of}
use Rattle.page_roff_stack.proofs.InputStackLemmas.{may_be_called, call_room, IsCalled, called_stack, called_held}
use Rattle.page_roff_stack.proofs.input_stacks.InputStack.call.Goals as goal

pub enter-callee-requires-clause-room : goal.enter-callee-requires-clause-room
enter-callee-requires-clause-room c =
    let a = c.self.inside in
    let there = may_be_called a (ap (λ s. is_some (depth s.under)) c.self.view_is ∙ c.requires.room) in
    call_room a there c.self.invariant

pub push_reserved-requires : goal.push_reserved-requires
push_reserved-requires c =
    let a = c.self.inside in
    let there = may_be_called a (ap (λ s. is_some (depth s.under)) c.self.view_is ∙ c.requires.room) in
    omega (arith, there, a.callers.ok.0, c.self.invariant.calls)

called : (c : goal.After-push_reserved) →
    let b : Inside = record { text = c.enter-callee.new.text; top = c.replace-source.new.dest; callers = c.push_reserved.new.self } in
    let caller : Caller = record { source = c.replace-source.result; end = c.len-end.result } in
    IsCalled c.self.inside b caller (c.args.body.now ++ c.args.arguments.now)
called c =
    record {
      source = c.replace-source.ensures.value;
      end = c.len-end.ensures ∙ c.self.inside.text.ok.0;
      callers = c.push_reserved.ensures.items;
      text = c.enter-callee.ensures.text;
      short = omega (arith, length-append c.args.body.now c.args.arguments.now, c.requires.body, c.requires.arguments);
      held = rw c.replace-source.ensures.after c.enter-callee.ensures.held;
      room = omega (arith, c.enter-callee.ensures.capacity, c.self.invariant.room);
      calls = omega (arith, c.push_reserved.ensures.capacity, c.self.invariant.calls);
    }

pub invariant_of-self : goal.invariant_of-self
invariant_of-self c =
    let a = c.self.inside in
    let there = may_be_called a (ap (λ s. is_some (depth s.under)) c.self.view_is ∙ c.requires.room) in
    called_held a _ _ _ (called c) there c.self.invariant

pub returns : goal.returns
returns c =
    let frame : frame_of c.replace-source.new.dest c.enter-callee.new.text.items ≡ entered (lines_in c.args.body.now) (arguments_in c.args.arguments.now)
    = rw c.replace-source.ensures.after c.enter-callee.ensures.frame in
    called_stack c.self.inside _ _ c.args.body.now c.args.arguments.now (called c) frame ∙ ap (λ s. call_of c.args.body.now c.args.arguments.now s) c.self.view_is
