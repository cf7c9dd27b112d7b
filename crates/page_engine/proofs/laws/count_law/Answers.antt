use Rattle.page_engine.proofs.Items.{source_more, taken_more, expansions_more, each_line, counts_end}
use Rattle.page_engine.proofs.laws.count_law.Goals as goal

pub returns : goal.returns
returns c = record { source = source_more; taken = taken_more; expansions = expansions_more; each = each_line; end = counts_end }
