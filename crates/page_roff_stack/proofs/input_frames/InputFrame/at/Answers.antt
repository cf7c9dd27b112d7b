use Rattle.std.proofs.Common.{◌<◌, ◌^◌, [], None, refl, ap, ◌∙◌, arith}
use Rattle.page_roff_blocks.specs.laws.Views.{BlockCursor, at_line}
use Rattle.page_roff_stack.specs.declared.input_frames.InputFrame.{InputFrame}
use Rattle.page_roff_stack.specs.declared.source_kinds.SourceKind.TheVariants as sources
use Rattle.page_roff_stack.proofs.InputStackLemmas.{span, place_set}
use Rattle.page_roff_stack.proofs.input_frames.InputFrame.at.Goals as goal

pub returns : goal.returns
unfolding at_line
returns c =
    let a : InputFrame = record {
      kind = sources.Page;
      line = span 0 0;
      place = c.end.result;
      ahead = None;
      lines = span 0 0;
      region = c.region.result;
      cursor = c.at.result;
      turning = None;
    } in
    let cursor = c.at.ensures ∙ ap at_line c.levels.ensures in
    let same = ap (λ (s : BlockCursor). s.levels.skipped) cursor in
    let skips : a.cursor.levels.skipped < 2 ^ 62 = omega (arith, same, c.requires) in
    let set = place_set a [] refl refl c.end.ensures refl refl refl skips in
    record { held = set.0; frame = set.1 ∙ rw (c.region.ensures, cursor) refl }
