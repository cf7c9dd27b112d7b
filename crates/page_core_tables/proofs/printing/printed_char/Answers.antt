use Rattle.page_core_tables.proofs.Tables.{by_spelling_of-short}
use Rattle.page_core_tables.proofs.printing.printed_char.Goals as goal

pub returns-in_default-clause-short : goal.returns-in_default-clause-short
returns-in_default-clause-short c = rw c.by_spelling.ensures (by_spelling_of-short c.args.c c.spelling.result.now c.spelling.ensures)
