use Rattle.std.proofs.Common.{◌≡◌, ◌++◌, drop, ap, ◌∙◌, arith, length-append}
use Rattle.page_roff_syntax.specs.laws.Views.{text_view}
use Rattle.page_roff_blocks.specs.machine.Languages.{body, is_some}
use Rattle.page_roff_blocks.specs.machine.Machine.{depth, looped}
use Rattle.page_roff_values.specs.Values.{lines_in}
use Rattle.page_roff_stack.specs.declared.input_stacks.Caller.{Caller}
use Rattle.page_roff_stack.specs.declared.input_stacks.InputStack.TheInside.{Inside}
use Rattle.page_roff_stack.specs.machine.Stacks.{frame_of, first_text, loop_of, packed_text, unpacked}
use Rattle.page_roff_stack.proofs.InputStackLemmas.{may_be_called, call_room, IsCalled, looped_stack, called_held}
use Rattle.page_roff_stack.proofs.input_stacks.InputStack.repeat.Goals as goal

pub repeat-body-requires-clause-room : goal.repeat-body-requires-clause-room
repeat-body-requires-clause-room c =
    let a = c.self.inside in
    let there = may_be_called a (ap (λ s. is_some (depth s.under)) c.self.view_is ∙ c.requires.room) in
    call_room a there c.self.invariant

pub push_reserved-requires : goal.push_reserved-requires
push_reserved-requires c =
    let a = c.self.inside in
    let there = may_be_called a (ap (λ s. is_some (depth s.under)) c.self.view_is ∙ c.requires.room) in
    omega (arith, there, a.callers.ok.0, c.self.invariant.calls)

called : (c : goal.After-push_reserved) →
    let b : Inside = record { text = c.repeat-body.new.text; top = c.replace-source.new.dest; callers = c.push_reserved.new.self } in
    let caller : Caller = record { source = c.replace-source.result; end = c.len-end.result } in
    IsCalled c.self.inside b caller (c.args.text.now ++ packed_text (text_view c.args.arguments))
called c =
    record {
      source = c.replace-source.ensures.value;
      end = c.len-end.ensures ∙ c.self.inside.text.ok.0;
      callers = c.push_reserved.ensures.items;
      text = c.repeat-body.ensures.text;
      short = omega (arith, length-append c.args.text.now (packed_text (text_view c.args.arguments)), c.requires.text, c.requires.arguments);
      held = rw c.replace-source.ensures.after c.repeat-body.ensures.held;
      room = omega (arith, c.repeat-body.ensures.capacity, c.self.invariant.room);
      calls = omega (arith, c.push_reserved.ensures.capacity, c.self.invariant.calls);
    }

pub invariant_of-self : goal.invariant_of-self
invariant_of-self c =
    let a = c.self.inside in
    let there = may_be_called a (ap (λ s. is_some (depth s.under)) c.self.view_is ∙ c.requires.room) in
    called_held a _ _ _ (called c) there c.self.invariant

pub returns : goal.returns
returns c =
    let lines = lines_in c.args.text.now in
    let packed = text_view c.args.arguments in
    let frame : frame_of c.replace-source.new.dest c.repeat-body.new.text.items ≡ looped (body (unpacked packed)) (first_text lines) (drop 1 lines)
    = rw c.replace-source.ensures.after c.repeat-body.ensures.frame in
    looped_stack c.self.inside _ _ c.args.text.now packed (called c) frame ∙ ap (λ s. loop_of c.args.text.now packed s) c.self.view_is
