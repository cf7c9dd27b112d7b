use Rattle.page_engine_lines.proofs.TreeLemmas.{given_tree_items, given_tree_after, one_items, one_after, ending_is, end_items_after}
use Rattle.page_engine_lines.proofs.laws.tree_law.Goals as goal

pub returns : goal.returns
returns c = record {
  items = given_tree_items;
  after = given_tree_after;
  line_items = one_items;
  line_after = one_after;
  ending = ending_is;
  end = end_items_after;
}
