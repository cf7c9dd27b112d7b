use Rattle.std.proofs.Common.{refl}
use Rattle.page_core_tables.specs.machine.Rows.{are_characters_from}
use Rattle.page_core_tables.proofs.rows.characters.Goals as goal

-- a test of the whole table, which computes
pub returns-clause-in_order : goal.returns-clause-in_order
unfolding are_characters_from
returns-clause-in_order c = refl
