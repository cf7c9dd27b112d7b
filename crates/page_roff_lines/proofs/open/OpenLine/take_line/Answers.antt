use Rattle.std.proofs.Common.{◌≡◌, take, get_or, refl, ◌∙◌, arith}
use Rattle.page_roff_lines.specs.laws.Views.{newline}
use Rattle.page_roff_lines.specs.machine.Open.{open_after}
use Rattle.page_roff_lines.proofs.PointLemmas.{byte-lines, byte-open_after}
use Rattle.page_roff_lines.proofs.open.OpenLine.take_line.Goals as goal

pub returns-clause-after : goal.returns-clause-after
returns-clause-after c = λ some.
    let xs = c.args.chunk.now in
    let n = c.fine_len-len.result.0 in
    let o = c.args.self.now in
    let ends : get_or xs n 0 ≡ newline = c.if-chunk-len-ne-NEWLINE.false in
    byte-open_after o (open_after o (take n xs)) c.put_line.new.self xs n (omega arith) refl (rw ends c.put_line.ensures.next)

pub returns-clause-lines : goal.returns-clause-lines
returns-clause-lines c = λ some.
    let xs = c.args.chunk.now in
    let n = c.fine_len-len.result.0 in
    let o = c.args.self.now in
    let ends : get_or xs n 0 ≡ newline = c.if-chunk-len-ne-NEWLINE.false in
    let is = c.is_before_text.ensures c.if-not-is_before_text.false in
    let none = (c.fine_len-len.ensures.text.text o is.1).none in
    byte-lines o (open_after o (take n xs)) c.put_line.new.self xs n (omega arith) refl (rw ends c.put_line.ensures.next) none
    ∙ rw c.put_line.ensures.whole refl
