use Rattle.mandoc_formats.proofs.Turns.{failed_by}
use Rattle.mandoc_formats.proofs.names.put_char.Goals as goal

pub returns-clause-failed : goal.returns-clause-failed
returns-clause-failed g c = failed_by g.V.Target.counts g.V.Target.failures c.put.result c.args.err.now c.put.new.self c.put.ensures.fails
