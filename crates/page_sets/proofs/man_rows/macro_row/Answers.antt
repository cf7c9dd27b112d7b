use Rattle.std.proofs.Common.{◌≡◌, refl, ap, map, ◌∙◌}
use Rattle.page_core_base.proofs.RowLemmas.{joined, row_of_rows, seen}
use Rattle.page_core_base.specs.Messages.{row_in}
use Rattle.page_sets.specs.declared.man_rows.TheConstants.{MACROS}
use Rattle.page_sets.specs.Man.{table, macro_row}
use Rattle.page_sets.proofs.man_rows.macro_row.Goals as goal

-- the rows of the program, list after list, are those of the table
same_rows : joined (map (λ rows. map (λ row. (row.0.now, row.1)) rows.now) MACROS) ≡ table
same_rows = refl

-- the lists are tested whole: each name is in the list of its letter
pub returns : goal.returns
unfolding macro_row
returns c =
    c.row_named.ensures
    ∙ ap (λ rows. row_in (seen rows) c.args.name.now) c.list_for.ensures
    ∙ search (row_of_rows, same_rows)
