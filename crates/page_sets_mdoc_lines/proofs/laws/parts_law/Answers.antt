use Rattle.page_sets_mdoc_lines.proofs.WordSpanLemmas.{words_taken, rest_goes_on, whole}
use Rattle.page_sets_mdoc_lines.proofs.laws.parts_law.Goals as goal

pub returns : goal.returns
returns c = record { words = words_taken; rest = rest_goes_on; whole = whole }
