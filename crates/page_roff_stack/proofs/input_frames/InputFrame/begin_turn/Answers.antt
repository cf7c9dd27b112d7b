use Rattle.page_roff_stack.proofs.TurnLemmas.{begun_view, begun_held}
use Rattle.page_roff_stack.proofs.input_frames.InputFrame.begin_turn.Goals as goal

pub returns-in-Some : goal.returns-in-Some
returns-in-Some c = λ text h. (
  begun_held c.args.self.now text c.in-Some.turns c.begin.result c.end-self.result c.new-self.result c.end-self.ensures c.new-self.ensures c.in-Some.is c.begin.ensures h,
  begun_view c.args.self.now text c.in-Some.turns c.begin.result c.end-self.result c.new-self.result c.end-self.ensures c.new-self.ensures c.in-Some.is c.begin.ensures,
)
