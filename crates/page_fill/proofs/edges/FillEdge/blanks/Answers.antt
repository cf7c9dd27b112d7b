use Rattle.std.proofs.Common.{◌≡◌, ◌==◌, false, append_assoc, ap, arith}
use Rattle.std.proofs.lemmas.Bool.Decides.{nat_tests}
use Rattle.page_fill.specs.machine.Fill.{on_sheet}
use Rattle.page_fill.proofs.FilledWords.{blanks-some}
use Rattle.page_fill.proofs.edges.FillEdge.blanks.Goals as goal

pub returns : goal.returns
returns g c =
    let o = c.open_word.ensures in
    let p = c.put_blanks.ensures in
    let some : (c.args.count == 0) ≡ false = grind (arith, nat_tests) in
    rw (blanks-some c.args.self.now c.args.count c.args.font c.args.place some, ← o.1)
    ((λ plan rows notes h. p.0 plan _ _ (o.0 plan _ _ (rw (append_assoc, append_assoc) at h))), ap (on_sheet c.open_word.new.self) p.1)
