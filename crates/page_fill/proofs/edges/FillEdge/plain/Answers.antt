use Rattle.std.proofs.Common.{append_assoc, sym, ap, ◌∙◌}
use Rattle.page_fill.specs.machine.Fill.{on_sheet}
use Rattle.page_fill.proofs.FilledWords.{text-plain}
use Rattle.page_fill.proofs.edges.FillEdge.plain.Goals as goal

pub returns : goal.returns
returns g c =
    let o = c.open_word.ensures in
    let p = c.put_plain.ensures in
    rw (text-plain c.args.self.now c.args.bytes.now c.args.font c.args.place c.requires (sym c.is_empty.ensures ∙ c.if-is_empty.false), ← o.1)
    ((λ plan rows notes h. p.0 plan _ _ (o.0 plan _ _ (rw (append_assoc, append_assoc) at h))), ap (on_sheet c.open_word.new.self) p.1)
