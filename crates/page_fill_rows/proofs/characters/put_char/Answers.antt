use Rattle.page_fill_cells.specs.Cells.{cell_of}
use Rattle.page_fill_rows.proofs.CharacterLemmas.{letters-one}
use Rattle.page_fill_rows.proofs.characters.put_char.Goals as goal

pub returns : goal.returns
returns g c = rw (letters-one c.args.row.now (cell_of c.args.font c.args.c) c.args.place) c.put_letter.ensures
