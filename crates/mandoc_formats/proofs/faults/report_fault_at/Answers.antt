use Rattle.mandoc_formats.proofs.Turns.{tells}
use Rattle.mandoc_formats.proofs.faults.report_fault_at.Goals as goal

pub returns-clause-line : goal.returns-clause-line
returns-clause-line g c =
    let w = c.put_fault_at in
    tells w.result _ (g.V.Target.contents c.args.err.now) (g.V.Target.contents w.new.err) _ w.ensures.writes w.ensures.failed
