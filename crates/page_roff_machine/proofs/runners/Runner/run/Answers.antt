use Rattle.page_roff_machine.specs.machine.Stepping.{machine_of}
use Rattle.page_roff_machine.proofs.StepLemmas.{leads, takes_line, is_done, advances_on, sound_more, sound_line, sound_done}
use Rattle.page_roff_machine.proofs.runners.Runner.run.Goals as goal

pub run_on-requires : goal.run_on-requires
run_on-requires g c = sound_more g.O.NoteOut.left c.args.self.now c.step.new.self c.args.out.now c.step.new.out c.requires c.in-More.ensures

pub returns-in-More-clause-advances : goal.returns-in-More-clause-advances
returns-in-More-clause-advances g c =
    let left = g.O.NoteOut.left in
    advances_on left (machine_of c.args.self.now) (machine_of c.step.new.self) (machine_of c.run_on.new.self) c.args.out.now c.step.new.out c.run_on.new.out c.run_on.result
    (leads left c.args.self.now c.step.new.self c.args.out.now c.step.new.out c.in-More.ensures) c.run_on.ensures.advances

pub returns-in-Line-clause-sound : goal.returns-in-Line-clause-sound
returns-in-Line-clause-sound g c = sound_line g.O.NoteOut.left c.args.self.now c.step.new.self c.args.out.now c.step.new.out c.requires c.in-Line.ensures

pub returns-in-Line-clause-advances : goal.returns-in-Line-clause-advances
returns-in-Line-clause-advances g c = takes_line g.O.NoteOut.left c.args.self.now c.step.new.self c.args.out.now c.step.new.out c.in-Line.ensures

pub returns-in-Done-clause-sound : goal.returns-in-Done-clause-sound
returns-in-Done-clause-sound g c = sound_done g.O.NoteOut.left c.args.self.now c.step.new.self c.args.out.now c.step.new.out c.requires c.in-Done.ensures

pub returns-in-Done-clause-advances : goal.returns-in-Done-clause-advances
returns-in-Done-clause-advances g c = is_done g.O.NoteOut.left c.args.self.now c.step.new.self c.args.out.now c.step.new.out c.in-Done.ensures
