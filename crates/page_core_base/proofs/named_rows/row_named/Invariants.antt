use Rattle.std.proofs.Common.{◌≡◌, drop}
use Rattle.page_core_base.specs.Messages.{row_in}
use Rattle.page_core_base.proofs.RowLemmas.{seen}
use Rattle.page_core_base.proofs.named_rows.row_named.Given as goal

abbrev pub invariant-loop-row : goal.invariant-loop-row
invariant-loop-row g l = row_in (seen l.rows) l.name ≡ row_in (seen (drop l.row-index l.rows)) l.name
