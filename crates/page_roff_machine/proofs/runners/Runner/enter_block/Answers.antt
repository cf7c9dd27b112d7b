use Rattle.std.proofs.Common.{ap, sym, ◌∙◌}
use Rattle.page_roff_machine.proofs.GoLemmas.{moves_block, moves_exceeds}
use Rattle.page_roff_machine.proofs.runners.Runner.enter_block.Goals as goal

pub returns-in-Exceeds : goal.returns-in-Exceeds
returns-in-Exceeds g c =
    rw c.go.ensures
    (moves_exceeds g.O.NoteOut.left c.args.self.now c.refuse.new.self c.args.out.now c.refuse.new.out c.args.answer c.args.column
    (sym c.in-Exceeds.is ∙ c.way-way.ensures) c.refuse.ensures c.requires.setting c.requires.suits)

pub returns-in-Runs : goal.returns-in-Runs
returns-in-Runs g c =
    moves_block g.O.NoteOut.left c.args.self.now (record { stack = c.go.new.self; doing = c.args.self.now.doing }) c.args.out.now c.args.answer c.args.column c.way-way.result
    c.way-way.ensures (λ e. let k = sym c.in-Runs.is ∙ e in cc) (ap (λ stack. record { stack = stack; doing = c.args.self.now.doing }) c.go.ensures) c.requires.setting c.requires.suits

pub returns-in-Skips : goal.returns-in-Skips
returns-in-Skips g c =
    moves_block g.O.NoteOut.left c.args.self.now (record { stack = c.go.new.self; doing = c.args.self.now.doing }) c.args.out.now c.args.answer c.args.column c.way-way.result
    c.way-way.ensures (λ e. let k = sym c.in-Skips.is ∙ e in cc) (ap (λ stack. record { stack = stack; doing = c.args.self.now.doing }) c.go.ensures) c.requires.setting c.requires.suits
