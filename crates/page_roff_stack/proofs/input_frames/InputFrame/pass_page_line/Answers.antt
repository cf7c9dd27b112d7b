use Rattle.std.proofs.Common.{◌<◌, ◌^◌, [], None, refl, ap, ◌∙◌, arith}
use Rattle.page_roff_blocks.specs.laws.Views.{BlockCursor, after_part}
use Rattle.page_roff_blocks.specs.machine.Languages.{page}
use Rattle.page_roff_stack.specs.declared.input_frames.InputFrame.{InputFrame}
use Rattle.page_roff_stack.proofs.InputStackLemmas.{span, frame, page_none, place_set}
use Rattle.page_roff_stack.proofs.input_frames.InputFrame.pass_page_line.Goals as goal

pub returns : goal.returns
unfolding after_part
returns c = λ text k.
    let old = c.args.self.now in
    let a : InputFrame = record {
      kind = old.kind;
      line = span 0 0;
      place = c.end-self.result;
      ahead = None;
      lines = span 0 0;
      region = old.region;
      cursor = c.pass.new.self;
      turning = None;
    } in
    let same = ap (λ (s : BlockCursor). s.levels.skipped) c.pass.ensures in
    let skips : a.cursor.levels.skipped < 2 ^ 62 = omega (arith, same, c.requires) in
    let set = place_set a text (page_none old.kind text k) refl c.end-self.ensures refl refl refl skips in
    (set.0, set.1 ∙ ap (λ cursor. frame page old.region cursor [] None) c.pass.ensures)
