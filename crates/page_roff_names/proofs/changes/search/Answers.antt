use Rattle.std.proofs.Common.{◌∙◌, sym, ap, arith}
use Rattle.page_roff_names.specs.Names.{by_bytes}
use Rattle.page_roff_names.proofs.Laid.{above_from, below_to}
use Rattle.page_roff_names.proofs.changes.search.Goals as goal

pub loop-low-preserved-in-Less : goal.loop-low-preserved-in-Less
loop-low-preserved-in-Less c =
    let v = c.loop-low.invariant in
    let e = ap (by_bytes c.args.name.now) (sym c.name.ensures) ∙ sym c.order.ensures ∙ c.in-Less.is in
    (omega arith, omega (arith, v.0, v.1, c.loop-low-test.true), v.2, above_from _ _ _ c.requires e)

pub loop-low-preserved : goal.loop-low-preserved
loop-low-preserved c =
    let v = c.loop-low.invariant in
    let e = ap (by_bytes c.args.name.now) (sym c.name.ensures) ∙ sym c.order.ensures ∙ c.in-Greater.is in
    (omega (arith, v.0, v.1, c.loop-low-test.true), v.1, below_to _ _ _ c.requires (omega (arith, v.0, v.1, c.loop-low-test.true)) e, v.3)
