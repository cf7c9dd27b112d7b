use Rattle.page_roff_stack.proofs.InputFrameLemmas.{IsPassed, skipped_view, skipped_held}
use Rattle.page_roff_stack.proofs.input_frames.InputFrame.pass_region_line.Goals as goal

pub returns : goal.returns
returns c =
    let a = c.args.self.now in
    let passed : IsPassed a c.args.text.now c.pass_line-line.result c.pass_line-line.new.lines = record {
      first = c.pass_line-line.ensures.first;
      rest = c.pass_line-line.ensures.rest;
      line_within = c.pass_line-line.ensures.spans.0;
      lines_within = c.pass_line-line.ensures.spans.1;
    } in
    record {
      held = skipped_held a c.args.text.now c.pass_line-line.result c.end-self.result c.pass_line-line.new.lines c.begin_line.new.self passed c.end-self.ensures c.begin_line.ensures c.requires;
      frame = skipped_view a c.args.text.now c.pass_line-line.result c.end-self.result c.pass_line-line.new.lines c.begin_line.new.self passed c.end-self.ensures c.begin_line.ensures;
    }

pub pass_line-line-requires-clause-lines : goal.pass_line-line-requires-clause-lines
pass_line-line-requires-clause-lines c = c.requires.only
