use Rattle.std.proofs.Common.{append_assoc, sym, ap, ◌∙◌, refl}
use Rattle.page_fill.specs.machine.Fill.{on_sheet}
use Rattle.page_fill.proofs.MarkedPieces.{text-none, text-some}
use Rattle.page_fill.proofs.edges.FillEdge.text.Goals as goal

pub returns-then-is_empty : goal.returns-then-is_empty
returns-then-is_empty g c =
    rw (text-none c.args.self.now c.args.text.now c.args.font c.args.place c.utf8.text (sym c.is_empty.ensures ∙ c.if-is_empty.true))
    ((λ plan rows notes h. h), refl)

pub returns : goal.returns
returns g c =
    let o = c.open_word.ensures in
    let p = c.put_characters.ensures in
    rw (text-some c.args.self.now c.args.text.now c.args.font c.args.place c.utf8.text (sym c.is_empty.ensures ∙ c.if-is_empty.false), ← o.1)
    ((λ plan rows notes h. p.0 plan _ _ (o.0 plan _ _ (rw (append_assoc, append_assoc) at h))), ap (on_sheet c.open_word.new.self) p.1)
