use Rattle.std.proofs.Common.{◌≡◌, ◌∙◌, sym, arith}
use Rattle.page_core_tables.specs.Glyphs.{spelling_of, first_spelling, table}
use Rattle.page_core_tables.proofs.Tables.{spelling_of-ascii, spelling_of-below, spelling_of-above}
use Rattle.page_core_tables.proofs.spelling.Goals as goal
use Rattle.page_core_tables.proofs.spelling.Goals.{in_default-via-then-c-lt32, in_default-via-else-c-lt32+else-c-lt127}

pub returns-in-32-to-126 : goal.returns-in-32-to-126
returns-in-32-to-126 c = c.ascii.ensures ∙ sym (spelling_of-ascii c.args.c (omega arith) (omega arith))

pub returns-in_default : goal.returns-in_default
returns-in_default c =
    let by_table : spelling_of c.args.c ≡ first_spelling c.args.c table = elim c.in_default.branch [ in_default-via-then-c-lt32 w ↦ spelling_of-below c.args.c (omega arith) | in_default-via-else-c-lt32+else-c-lt127 w ↦ spelling_of-above c.args.c (omega arith) ] in
    c.listed_spelling.ensures ∙ sym by_table
