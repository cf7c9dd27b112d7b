use Rattle.std.proofs.Common.{Some, None, option_map, sym, ap, ◌∙◌}
use Rattle.page_core_tables.specs.laws.Views.{entries, symbol_of}
use Rattle.page_core_tables.proofs.Tables.{first_spelling-row}
use Rattle.page_core_tables.proofs.listed_spelling.Goals as goal

pub returns-in-Some : goal.returns-in-Some
returns-in-Some c =
    first_spelling-row (entries c.by_code.result.now) c.args.c (Some c.in-Some.found) c.by_code.ensures.spelled c.by_code.ensures.complete
    (ap (option_map symbol_of) (sym c.in-Some.is) ∙ c.find.ensures)

pub returns-in-None : goal.returns-in-None
returns-in-None c =
    first_spelling-row (entries c.by_code.result.now) c.args.c None c.by_code.ensures.spelled c.by_code.ensures.complete
    (ap (option_map symbol_of) (sym c.in-None.is) ∙ c.find.ensures)
