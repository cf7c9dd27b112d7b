use Rattle.page_roff_source.proofs.CountLemmas.{one_taken, one_given_bound, one_expansions, each_bound, lines_bound, lines_expansions}
use Rattle.page_roff_source.proofs.laws.count_law.Goals as goal

pub returns : goal.returns
returns c = record {
  taken = one_taken;
  given = one_given_bound;
  expansions = one_expansions;
  lines = lines_bound;
  lines_expansions = lines_expansions;
  each = each_bound;
}
