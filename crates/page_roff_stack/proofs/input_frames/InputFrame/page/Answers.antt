use Rattle.std.proofs.Common.{None, refl}
use Rattle.page_roff_stack.specs.declared.input_frames.InputFrame.{InputFrame}
use Rattle.page_roff_stack.specs.declared.source_kinds.SourceKind.TheVariants as sources
use Rattle.page_roff_stack.proofs.InputStackLemmas.{span, empty_set}
use Rattle.page_roff_stack.proofs.input_frames.InputFrame.page.Goals as goal

pub returns : goal.returns
returns c =
    let a : InputFrame = record {
      kind = sources.Page;
      line = span 0 0;
      place = c.end.result;
      ahead = None;
      lines = span 0 0;
      region = None;
      cursor = c.new.result;
      turning = None;
    } in
    let set = empty_set a refl refl c.end.ensures refl refl refl c.new.ensures refl in
    record { held = set.0; frame = set.1 }
