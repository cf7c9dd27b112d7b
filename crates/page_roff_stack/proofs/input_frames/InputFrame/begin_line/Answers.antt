use Rattle.std.proofs.Common.{◌≡◌, true}
use Rattle.page_roff_stack.specs.machine.Stacks.{begins_line, span_text, frame_of}
use Rattle.page_roff_stack.proofs.InputFrameLemmas.{IsPassed, IsStart, begun_view, begun_held}
use Rattle.page_roff_stack.proofs.input_frames.InputFrame.begin_line.Goals as goal

pub returns : goal.returns
returns c =
    let a = c.args.self.now in
    let passed : IsPassed a c.args.text.now c.pass_line-self.result c.pass_line-self.new.lines = record {
      first = c.pass_line-self.ensures.first;
      rest = c.pass_line-self.ensures.rest;
      line_within = c.pass_line-self.ensures.spans.0;
      lines_within = c.pass_line-self.ensures.spans.1;
    } in
    let there : begins_line (frame_of a c.args.text.now) ≡ true = c.requires.line in
    let line = c.pass_line-self.result in
    let text = c.of.ensures in
    let start : IsStart (span_text line c.args.text.now) c.start-self.result = record {
      parts = rw text at c.start-self.ensures.parts;
      within = rw text at c.start-self.ensures.within;
    } in
    record {
      held = begun_held a c.args.text.now line c.start-self.result c.pass_line-self.new.lines c.begin_line.new.self passed there start c.begin_line.ensures c.requires.held;
      frame = begun_view a c.args.text.now line c.start-self.result c.pass_line-self.new.lines c.begin_line.new.self passed there start c.begin_line.ensures;
    }

pub pass_line-self-requires-clause-lines : goal.pass_line-self-requires-clause-lines
pass_line-self-requires-clause-lines c = c.requires.held.only
