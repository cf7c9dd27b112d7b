use Rattle.std.proofs.Common.{◌≡◌, ◌+◌, length, take, ap, ◌∙◌, arith}
use Rattle.std.proofs.lemmas.List.{length-take-le}
use Rattle.page_roff_lines.proofs.PointLemmas.{open_after-consumed}
use Rattle.page_roff_lines.proofs.open.OpenLine.read.Goals as goal

pub returns-then-len-gt0-clause-consumed : goal.returns-then-len-gt0-clause-consumed
returns-then-len-gt0-clause-consumed c =
    let xs = c.args.chunk.now in
    let n = c.take_line-len.result in
    let consumed : c.take_line-len.new.self.consumed ≡ c.args.self.now.consumed + length (take n xs) =
    ap (λ o. o.consumed) (c.take_line-len.ensures.after c.if-len-gt0.true) ∙ open_after-consumed c.args.self.now (take n xs) in
    omega (arith, consumed, length-take-le n xs c.take_line-len.ensures.within)
