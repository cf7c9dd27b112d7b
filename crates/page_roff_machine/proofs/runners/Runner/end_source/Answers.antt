use Rattle.std.proofs.Common.{refl}
use Rattle.page_roff_machine.proofs.GoLemmas.{shifts_source_end}
use Rattle.page_roff_machine.proofs.runners.Runner.end_source.Goals as goal

pub returns : goal.returns
returns c =
    shifts_source_end c.args.self.now (record { stack = c.end_source.new.self; doing = c.args.self.now.doing }) c.take_arguments.new.self refl
    c.end_source.ensures.sources c.take_arguments.ensures
