use Rattle.std.proofs.Common.{ap, ◌∙◌}
use Rattle.page_roff_stack.specs.machine.Stacks.{past, frame_of}
use Rattle.page_roff_stack.proofs.InputFrameLemmas.{past_view, past_held}
use Rattle.page_roff_stack.proofs.input_frames.InputFrame.pass.Goals as goal

pub returns-clause-held : goal.returns-clause-held
returns-clause-held c =
    past_held c.args.self.now c.args.text.now c.of.result.now c.place_past-self.result c.args.pass c.pass.new.self c.of.ensures c.place_past-self.ensures c.pass.ensures
    c.requires.part c.requires.held

pub returns-clause-frame : goal.returns-clause-frame
returns-clause-frame c =
    past_view c.args.self.now c.args.text.now c.of.result.now c.place_past-self.result c.pass.new.self c.of.ensures c.place_past-self.ensures
    ∙ ap (λ cursor. past cursor (frame_of c.args.self.now c.args.text.now)) c.pass.ensures
