use Rattle.page_roff_stack.proofs.InputFrameLemmas.{closed_held}
use Rattle.page_roff_stack.proofs.input_frames.InputFrame.open_region.Goals as goal

pub returns-clause-held : goal.returns-clause-held
returns-clause-held c =
    closed_held c.args.self.now c.args.text.now c.end-self.result c.region_of-self.result c.begin_line.new.self c.end-self.ensures c.begin_line.ensures c.requires
