use Rattle.std.proofs.Common.{◌≡◌, ◌≤◌, length, sym, ap, ◌∙◌, arith}
use Rattle.page_roff_decoding.specs.Decoding.{line_limit}
use Rattle.page_roff_decoding.specs.laws.Views.{line_limit_is}
use Rattle.page_roff_lines.specs.machine.Open.{kept_of}
use Rattle.page_roff_lines.specs.Lines.{decode_line}
use Rattle.page_roff_lines.specs.laws.Cutting.{Cutting, line_of}
use Rattle.page_roff_lines.proofs.ReadLemmas.{decode_line-plain}
use Rattle.page_roff_lines.proofs.cutter.Cutter.is_free.Goals as goal

pub returns : goal.returns
returns c = λ is.
    let point = c.args.self.now.point in
    let line = c.self.inside.line in
    let limit = line_limit_is in
    let free = c.is_free.ensures in
    let short : length line.text.bytes ≤ line_limit = omega (arith, limit, free.bound) in
    let text : (line_of point).text ≡ line.text.bytes =
    ap (λ (v : Cutting). (decode_line point.encoding (kept_of v.point.line)).text) (sym c.self.view_is)
    ∙ (decode_line-plain point.encoding (kept_of line) (free.printable is) short).0 in
    rw text (free.free is)
