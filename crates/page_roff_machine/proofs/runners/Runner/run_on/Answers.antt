use Rattle.page_roff_machine.specs.machine.Stepping.{machine_of}
use Rattle.std.proofs.Common.{true, false}
use Rattle.page_roff_machine.proofs.StepLemmas.{sound_of, leads, takes_line, is_done, leads_refl, leads_on, advances_on, measured_more, sound_line, sound_done}
use Rattle.page_roff_machine.proofs.runners.Runner.run_on.Goals as goal

pub loop-init : goal.loop-init
loop-init g c = (c.requires, leads_refl g.O.NoteOut.left (machine_of c.args.self.now) c.args.out.now)

pub loop-preserved : goal.loop-preserved
loop-preserved g c =
    let left = g.O.NoteOut.left in
    let h = c.loop.invariant in (
      (measured_more left c.loop.self c.step.new.self c.loop.out c.step.new.out h.0 c.in-More.ensures).1,
      leads_on left (machine_of c.args.self.now) (machine_of c.loop.self) (machine_of c.step.new.self) c.args.out.now c.loop.out c.step.new.out h.1
          (leads left c.loop.self c.step.new.self c.loop.out c.step.new.out c.in-More.ensures),
    )

pub loop-smaller : goal.loop-smaller
loop-smaller g c =
    (measured_more g.O.NoteOut.left c.loop.self c.step.new.self c.loop.out c.step.new.out c.loop.invariant.0 c.in-More.ensures).0

pub returns-in-Line-clause-sound : goal.returns-in-Line-clause-sound
returns-in-Line-clause-sound g c =
    sound_line g.O.NoteOut.left c.loop.self c.step.new.self c.loop.out c.step.new.out (sound_of c.loop.self c.loop.invariant.0) c.in-Line.ensures

pub returns-in-Line-clause-advances : goal.returns-in-Line-clause-advances
returns-in-Line-clause-advances g c =
    let left = g.O.NoteOut.left in
    advances_on left (machine_of c.args.self.now) (machine_of c.loop.self) (machine_of c.step.new.self) c.args.out.now c.loop.out c.step.new.out true c.loop.invariant.1
    (takes_line left c.loop.self c.step.new.self c.loop.out c.step.new.out c.in-Line.ensures)

pub returns-in-Done-clause-sound : goal.returns-in-Done-clause-sound
returns-in-Done-clause-sound g c =
    sound_done g.O.NoteOut.left c.loop.self c.step.new.self c.loop.out c.step.new.out (sound_of c.loop.self c.loop.invariant.0) c.in-Done.ensures

pub returns-in-Done-clause-advances : goal.returns-in-Done-clause-advances
returns-in-Done-clause-advances g c =
    let left = g.O.NoteOut.left in
    advances_on left (machine_of c.args.self.now) (machine_of c.loop.self) (machine_of c.step.new.self) c.args.out.now c.loop.out c.step.new.out false c.loop.invariant.1
    (is_done left c.loop.self c.step.new.self c.loop.out c.step.new.out c.in-Done.ensures)
