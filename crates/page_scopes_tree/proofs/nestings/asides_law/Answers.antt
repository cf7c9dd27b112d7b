use Rattle.page_scopes_tree.proofs.EdgeLemmas.{sound_with, act_items, act_step, aside_items, aside_step}
use Rattle.page_scopes_tree.proofs.nestings.asides_law.Goals as goal

pub returns : goal.returns
returns g c = record {
  sound = λ nests most k. sound_with nests most k;
  act_items = λ nests lays sides own d a. act_items nests lays sides own d a;
  act_step = λ nests lays sides own d a. act_step nests lays sides own d a;
  aside_items = λ nests lays sides own d y. aside_items nests lays sides own d y;
  aside_step = λ nests lays sides own d y. aside_step nests lays sides own d y;
}
