use Rattle.std.proofs.Common.{sym, ◌∙◌}
use Rattle.page_engine_index.proofs.VisibleLemmas.{plain_row}
use Rattle.page_engine_index.proofs.visible_rows.put_row.Goals as goal

pub returns-clause-writes : goal.returns-clause-writes
returns-clause-writes g c = rw (plain_row c.args.parts.now (sym c.are_special.ensures ∙ c.if-are_special.false)) c.put_all.ensures.writes
