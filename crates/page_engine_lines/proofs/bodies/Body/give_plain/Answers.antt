use Rattle.std.proofs.Common.{◌∙◌, append_assoc, sym}
use Rattle.page_engine_lines.proofs.BodySharedLemmas.{two_after, two_items}
use Rattle.page_engine_lines.specs.laws.Views.{plain_event}
use Rattle.page_sets_lines.specs.Lines.{fills, line_end}
use Rattle.page_engine_lines.proofs.bodies.Body.give_plain.Goals as goal

pub returns : goal.returns
returns g c =
    let line = c.args.line in
    let b = c.args.self.now in
    let own = plain_event line.line line.text.now c.args.plain in
    let end = line_end line.line (fills c.args.plain) in
    let last = rw (c.fills.ensures, c.give_generated.ensures.after) at c.give_line_end.ensures.after in
    record {
      came = λ plan rest h.
          let came = rw (c.fills.ensures, c.give_generated.ensures.after) at (c.give_line_end.ensures.came plan rest) in
          came (c.give_generated.ensures.came plan _ (rw (two_items b own end, append_assoc) at h));
      after = last ∙ sym (two_after b own end);
    }
