use Rattle.std.proofs.Common.{ap}
use Rattle.page_roff_machine.proofs.GoLemmas.{shifts_leaf, shifts_leaf_line, shifts_call}
use Rattle.page_roff_machine.proofs.LoopLemmas.{shifts_loop}
use Rattle.page_roff_machine.proofs.runners.Runner.pass_leaf.Goals as goal

pub returns-in-Call : goal.returns-in-Call
returns-in-Call c =
    rw c.in-Call.is
    (shifts_call c.args.self.now (record { stack = c.go.new.self; doing = c.args.self.now.doing }) c.call.new.self
    (ap (λ stack. record { stack = stack; doing = c.args.self.now.doing }) c.go.ensures) c.call.ensures (rw c.in-Call.is at c.requires.suits))

pub returns-in-Loop : goal.returns-in-Loop
returns-in-Loop c =
    rw c.in-Loop.is
    (shifts_loop c.args.self.now (record { stack = c.go.new.self; doing = c.args.self.now.doing }) c.repeat.new.self
    (ap (λ stack. record { stack = stack; doing = c.args.self.now.doing }) c.go.ensures) c.repeat.ensures (rw c.in-Loop.is at c.requires.suits) c.requires.setting)

pub returns-in-Nothing : goal.returns-in-Nothing
returns-in-Nothing c =
    rw c.in-Nothing.is
    (shifts_leaf c.args.self.now (record { stack = c.go.new.self; doing = c.args.self.now.doing })
    (ap (λ stack. record { stack = stack; doing = c.args.self.now.doing }) c.go.ensures) c.requires.setting)

pub returns-in-Line : goal.returns-in-Line
returns-in-Line c =
    rw c.in-Line.is
    (shifts_leaf_line c.args.self.now (record { stack = c.go.new.self; doing = c.args.self.now.doing })
    (ap (λ stack. record { stack = stack; doing = c.args.self.now.doing }) c.go.ensures) c.requires.setting)
