use Rattle.page_roff_values.proofs.LineLemmas.{value_within}
use Rattle.page_roff_values.proofs.laws.is_bounded.Goals as goal

pub returns : goal.returns
returns c = value_within
