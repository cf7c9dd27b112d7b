use Rattle.page_sets_mdoc_lines.proofs.WordSpanLemmas.{all_closing, one_less}
use Rattle.page_sets_mdoc_lines.proofs.laws.front_law.Goals as goal

pub returns : goal.returns
returns c = record { all = all_closing; less = one_less }
