use Rattle.std.proofs.Common.{◌≡◌, ◌++◌, length, drop, Some, None, refl, ap, ◌∙◌, append_assoc, arith, length-append}
use Rattle.std.proofs.Math.Seq.{drop-append_seam}
use Rattle.page_roff_stack.specs.declared.input_frames.InputFrame.{InputFrame}
use Rattle.page_roff_stack.specs.declared.source_kinds.SourceKind.TheVariants as sources
use Rattle.page_roff_stack.specs.machine.Stacks.{AreArgumentsIn}
use Rattle.page_roff_stack.proofs.InputStackLemmas.{span, IsNew, new_of, body_set}
use Rattle.page_roff_stack.proofs.input_frames.InputFrame.enter.Goals as goal

pub returns : goal.returns
returns c =
    let before = c.args.text.now.items in
    let text = c.args.body.now in
    let args = c.args.arguments.now in
    let all = c.append-2.new.text.items in
    let a : InputFrame = record {
      kind = sources.Body (Some c.len-end.result);
      line = span 0 0;
      place = c.end.result;
      ahead = None;
      lines = span c.len-start.result c.len-end.result;
      region = None;
      cursor = c.new.result;
      turning = None;
    } in
    let e : all ≡ (before ++ text) ++ args = c.append-2.ensures.items ∙ ap (λ bytes. bytes ++ args) c.append.ensures.items in
    let start : c.len-start.result ≡ length before = c.len-start.ensures ∙ c.args.text.now.ok.0 in
    let end : c.len-end.result ≡ length (before ++ text) = c.len-end.ensures ∙ c.append.new.text.ok.0 ∙ ap length c.append.ensures.items in
    let within : AreArgumentsIn a.kind all = (omega (arith, end, ap length e, length-append (before ++ text) args), omega (arith, end, ap length e, length-append (before ++ text) args, c.requires.arguments)) in
    let new : IsNew a all before text = new_of a all before text args e refl c.end.ensures refl (rw (start, end) refl) within tt in
    let rest = ap (λ bytes. drop (length (before ++ text)) bytes) e ∙ drop-append_seam (before ++ text) args in
    let set = body_set a all before text args new (ap (λ start. sources.Body (Some start)) end) rest refl c.new.ensures refl c.requires.body in
    record {
      held = set.0;
      frame = set.1;
      text = e ∙ append_assoc before text args;
      capacity = omega (arith, c.append.ensures.capacity, c.append-2.ensures.capacity);
    }
