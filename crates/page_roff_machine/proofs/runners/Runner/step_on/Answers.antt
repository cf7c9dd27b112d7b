use Rattle.page_roff_machine.proofs.StepLemmas.{steps, decided}
use Rattle.page_roff_machine.proofs.runners.Runner.step_on.Goals as goal

pub returns : goal.returns
returns g c =
    steps g.O.NoteOut.left c.args.self.now c.act-act.new.self c.go.new.self c.args.out.now c.act-act.new.out c.go.new.out c.act-act.result c.go.result
    c.act-act.ensures c.go.ensures

pub go-requires : goal.go-requires
go-requires g c =
    let d = decided g.O.NoteOut.left c.args.self.now c.act-act.new.self c.args.out.now c.act-act.new.out c.act-act.result c.requires.sound.setting c.act-act.ensures in
    record { setting = d.0; suits = d.1 }
