use Rattle.std.proofs.Common.{refl}
use Rattle.page_core_tables.specs.Glyphs.{table, first_spelling}
use Rattle.page_core_tables.specs.machine.Rows.{keys_rise, rows_are_spelled, is_spelled, spellings_have_rows}
use Rattle.page_core_tables.proofs.rows.by_code.Goals as goal

-- each fact is a test of the whole table, which computes
pub returns-clause-rising : goal.returns-clause-rising
unfolding keys_rise
returns-clause-rising c = refl

pub returns-clause-spelled : goal.returns-clause-spelled
unfolding table first_spelling rows_are_spelled
returns-clause-spelled c = refl

pub returns-clause-complete : goal.returns-clause-complete
unfolding table is_spelled spellings_have_rows
returns-clause-complete c = refl
