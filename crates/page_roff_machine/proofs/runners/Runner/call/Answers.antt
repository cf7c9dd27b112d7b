use Rattle.page_roff_machine.proofs.GoLemmas.{calls_it}
use Rattle.page_roff_machine.proofs.runners.Runner.call.Goals as goal

pub returns : goal.returns
returns c =
    calls_it c.args.self.now c.take_arguments.new.self c.call.new.self c.called_body.result.now c.called_arguments.result.now
    c.called_body.ensures c.called_arguments.ensures c.call.ensures c.take_arguments.ensures
