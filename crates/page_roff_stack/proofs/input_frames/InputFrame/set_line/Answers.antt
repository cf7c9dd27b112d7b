use Rattle.std.proofs.Common.{◌≡◌, ◌<◌, ◌^◌, ◌++◌, [], ◌∷◌, None, length, refl, ap, sym, ◌∙◌, arith, append-nil, length-append}
use Rattle.page_roff_blocks.specs.laws.Views.{at_line}
use Rattle.page_roff_blocks.specs.machine.Languages.{page}
use Rattle.page_roff_stack.specs.declared.input_frames.InputFrame.{InputFrame}
use Rattle.page_roff_stack.proofs.InputStackLemmas.{span, frame, IsNew, new_of, page_set, page_none}
use Rattle.page_roff_stack.proofs.input_frames.InputFrame.set_line.Goals as goal

pub returns : goal.returns
unfolding at_line
returns c =
    let line = c.args.line.now in
    let all = c.push_reserved.new.self.items in
    let old = c.args.self.now in
    let a : InputFrame = record {
      kind = old.kind;
      line = span 0 0;
      place = c.end-self.result;
      ahead = None;
      lines = span 0 c.len.result;
      region = old.region;
      cursor = c.begin_line.new.self;
      turning = None;
    } in
    let e : all ≡ line ++ (10 ∷ []) =
    c.push_reserved.ensures.items ∙ ap (λ bytes. bytes ++ (10 ∷ [])) (c.append.ensures.items ∙ ap (λ bytes. bytes ++ line) c.clear.ensures.items) in
    let none = page_none old.kind c.args.text.now.items c.requires.page in
    let lines : a.lines ≡ span 0 (length (line ++ (10 ∷ []))) = ap (λ end. span 0 end) (c.len.ensures ∙ c.push_reserved.new.self.ok.0 ∙ ap length e) in
    let new : IsNew a all [] (line ++ (10 ∷ [])) =
    new_of a all [] (line ++ (10 ∷ [])) [] (e ∙ sym (append-nil (line ++ (10 ∷ [])))) refl c.end-self.ensures refl lines (rw none tt) tt in
    let same = ap (λ cursor. cursor.levels.skipped) c.begin_line.ensures in
    let skips : a.cursor.levels.skipped < 2 ^ 62 = omega (arith, same, c.requires.skips) in
    let set = page_set a all line c.requires.line new none refl skips in
    record {
      held = set.0;
      frame = set.1 ∙ ap (λ cursor. frame page old.region cursor (line ∷ []) None) c.begin_line.ensures;
      fits = omega (arith, ap length e, length-append line (10 ∷ []), c.requires.line.bounded);
      capacity = omega (arith, c.clear.ensures.capacity, c.append.ensures.capacity, c.push_reserved.ensures.capacity);
    }
