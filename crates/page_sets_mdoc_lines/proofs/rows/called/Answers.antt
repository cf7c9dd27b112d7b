use Rattle.std.proofs.Common.{◌∙◌, refl, sym}
use Rattle.page_sets_mdoc_lines.proofs.WordSpanLemmas.{no_row}
use Rattle.page_sets_mdoc_lines.proofs.rows.called.Goals as goal

pub returns-then-not-has_name_len : goal.returns-then-not-has_name_len
returns-then-not-has_name_len c = rw (no_row c.args.name.now (sym c.has_name_len.ensures ∙ c.if-not-has_name_len.true)) refl
