use Rattle.std.proofs.Common.{◌≡◌, ◌++◌, drop, [], length, false, Some, None, refl, ap, ◌∙◌, append_assoc, arith}
use Rattle.page_roff_blocks.specs.machine.Languages.{body, TURNS}
use Rattle.page_roff_syntax.specs.laws.Views.{text_view}
use Rattle.page_roff_values.specs.Values.{lines_in}
use Rattle.page_roff_stack.specs.declared.input_frames.InputFrame.{InputFrame}
use Rattle.page_roff_stack.specs.declared.source_kinds.SourceKind.TheVariants as sources
use Rattle.page_roff_stack.specs.machine.Stacks.{turning_in, first_text, packed_text, unpacked}
use Rattle.page_roff_stack.proofs.InputStackLemmas.{span, IsNew, new_of, unturned, loop_set}
use Rattle.page_roff_stack.proofs.TurnLemmas.{IsLoopCut, loop_condition, loop_lines, loop_turns}
use Rattle.page_roff_stack.proofs.input_frames.InputFrame.repeat.Goals as goal

pub returns : goal.returns
returns c =
    let before = c.args.text.now.items in
    let more = c.args.more.now in
    let packed = text_view c.args.arguments in
    let all = c.append_arguments-arguments.new.text.items in
    let lines = span c.len-start.result c.len.result in
    let first = c.pass_line-condition.result in
    let others = c.pass_line-condition.new.lines in
    let a : InputFrame = record {
      kind = sources.Body c.append_arguments-arguments.result;
      line = span 0 0;
      place = c.end.result;
      ahead = None;
      lines = span 0 0;
      region = None;
      cursor = c.new.result;
      turning = Some (record { condition = first; lines = others; left = TURNS; begun = false });
    } in
    let e : all ≡ (before ++ more) ++ packed_text packed =
    c.append_arguments-arguments.ensures.items ∙ ap (λ bytes. bytes ++ packed_text packed) c.append.ensures.items in
    let cut : IsLoopCut before more (packed_text packed) all lines first others = record {
      text = e;
      start = c.len-start.ensures ∙ c.args.text.now.ok.0;
      end = c.len.ensures ∙ c.append.new.text.ok.0 ∙ ap length c.append.ensures.items;
      short = c.requires.text;
      first_is = rw c.deref.ensures.value at c.pass_line-condition.ensures.first;
      others_are = rw c.deref.ensures.value at c.pass_line-condition.ensures.rest;
      first_within = rw c.deref.ensures.value at c.pass_line-condition.ensures.spans.0;
      others_within = rw c.deref.ensures.value at c.pass_line-condition.ensures.spans.1;
      cut = c.pass_line-condition.ensures.cut;
    } in
    let turns = loop_turns before more (packed_text packed) all lines first others cut c.append_arguments-arguments.result TURNS in
    let new : IsNew a all [] [] = new_of a all [] [] all refl refl c.end.ensures refl refl c.append_arguments-arguments.ensures.within turns in
    let condition = loop_condition before more (packed_text packed) all lines first others cut in
    let body_lines = loop_lines before more (packed_text packed) all lines first others cut in
    let turning : turning_in a.turning all ≡ Some (unturned (first_text (lines_in more)) (drop 1 (lines_in more))) = rw (condition, body_lines) refl in
    let set = loop_set a all (first_text (lines_in more)) (drop 1 (lines_in more)) (unpacked packed) new (ap body c.append_arguments-arguments.ensures.arguments) tt refl c.new.ensures turning in
    record {
      held = set.0;
      frame = set.1;
      text = e ∙ append_assoc before more (packed_text packed);
      capacity = omega (arith, c.append.ensures.capacity, c.append_arguments-arguments.ensures.capacity);
    }
