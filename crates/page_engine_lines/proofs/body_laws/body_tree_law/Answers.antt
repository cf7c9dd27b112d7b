use Rattle.page_engine_lines.proofs.StepLemmas.{message_items, message_after, events_tree_items, events_tree_after, end_tree}
use Rattle.page_engine_lines.proofs.body_laws.body_tree_law.Goals as goal

pub returns : goal.returns
returns c = record {
  items = events_tree_items;
  after = events_tree_after;
  message = λ b m. (message_items b m, message_after b m);
  end = end_tree;
}
