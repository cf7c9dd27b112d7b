use Rattle.page_core_tables.specs.laws.Views.{symbol_of}
use Rattle.page_core_tables.proofs.Tables.{by_spelling_of_glyph-short}
use Rattle.page_core_tables.proofs.printing.printed_glyph.Goals as goal

pub returns-in-Some-clause-short : goal.returns-in-Some-clause-short
returns-in-Some-clause-short c = rw c.by_spelling.ensures (by_spelling_of_glyph-short c.args.name.now (symbol_of c.in-Some.found) c.in-Some.ensures)
