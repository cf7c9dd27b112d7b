use Rattle.page_sets_mdoc_lines.proofs.WordSpanLemmas.{few_arguments_after}
use Rattle.page_sets_mdoc_lines.proofs.laws.few_law.Goals as goal

pub returns : goal.returns
returns c = record { few = few_arguments_after }
