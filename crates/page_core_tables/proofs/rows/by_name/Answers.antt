use Rattle.std.proofs.Common.{refl}
use Rattle.page_core_tables.specs.Glyphs.{table}
use Rattle.page_core_tables.specs.machine.Rows.{keys_rise}
use Rattle.page_core_tables.proofs.rows.by_name.Goals as goal

pub returns-clause-rows : goal.returns-clause-rows
unfolding table
returns-clause-rows c = refl

-- a test of the whole table, which computes
pub returns-clause-rising : goal.returns-clause-rising
unfolding keys_rise
returns-clause-rising c = refl
