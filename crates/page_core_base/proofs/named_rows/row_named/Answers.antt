use Rattle.std.proofs.Common.{sym, ◌∙◌}
use Rattle.page_core_base.proofs.RowLemmas.{row_found, row_passed}
use Rattle.page_core_base.proofs.named_rows.row_named.Goals as goal

pub returns-then-eq : goal.returns-then-eq
returns-then-eq g c =
    sym (c.loop-row.invariant ∙ row_found _ _ _ c.row-item.result c.row-item.is c.loop-row-test.true (sym c.eq.ensures ∙ c.if-eq.true))

pub loop-row-preserved : goal.loop-row-preserved
loop-row-preserved g c =
    c.loop-row.invariant ∙ row_passed _ _ _ c.row-item.result c.row-item.is c.loop-row-test.true (sym c.eq.ensures ∙ c.if-eq.false)
