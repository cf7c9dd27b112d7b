use Rattle.page_roff_stack.proofs.InputFrameLemmas.{ahead_held}
use Rattle.page_roff_stack.proofs.input_frames.InputFrame.read_part.Goals as goal

pub returns-clause-held : goal.returns-clause-held
returns-clause-held c =
    ahead_held c.args.self.now c.args.text.now c.of.result.now c.read_ahead.result.1 c.of.ensures c.read_ahead.ensures.after c.requires
