use Rattle.page_roff_source.proofs.CountLemmas.{given-append, done-append}
use Rattle.page_roff_source.proofs.laws.cut_law.Goals as goal

pub returns : goal.returns
returns c = record {
  given = λ e above below. given-append e above below;
  edge = λ e above below. done-append e above below;
}
