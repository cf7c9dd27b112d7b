use Rattle.page_roff_source.proofs.CountLemmas.{given-by_line, done-by_line}
use Rattle.page_roff_source.proofs.laws.forest_law.Goals as goal

pub returns : goal.returns
returns c = record {
  given = λ e lines. given-by_line e lines;
  edge = λ e lines h. done-by_line e lines h;
}
