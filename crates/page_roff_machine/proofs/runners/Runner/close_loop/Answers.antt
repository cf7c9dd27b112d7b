use Rattle.page_roff_machine.proofs.LoopLemmas.{no_loop, closes_loop, closes_none}
use Rattle.page_roff_machine.proofs.runners.Runner.close_loop.Goals as goal

pub returns-in-Loop : goal.returns-in-Loop
returns-in-Loop g c =
    closes_loop g.O.NoteOut.left c.args.self.now c.close_loop.new.self c.args.out.now c.close_loop.new.out c.may_call-may_run.result c.may_call-may_run.ensures c.repeat.new.self
    c.in-Loop.ensures.done c.in-Loop.ensures.repeats c.repeat.ensures c.requires

pub returns-in_default : goal.returns-in_default
returns-in_default g c =
    closes_none g.O.NoteOut.left c.args.self.now c.close_loop.new.self c.args.out.now c.close_loop.new.out c.may_call-may_run.result c.may_call-may_run.ensures c.close_loop.result
    (no_loop c.close_loop.result _ c.close_loop.ensures.repeats c.in_default.not-Loop) c.close_loop.ensures.done c.requires
