use Rattle.std.specs.Prelude.{codes}
use Rattle.mandoc_formats.specs.Formats.{fault_text, line_end}
use Rattle.mandoc_formats.proofs.Turns.{ended_before}
use Rattle.mandoc_formats.proofs.faults.put_fault.Goals as goal

pub returns-clause-writes : goal.returns-clause-writes
returns-clause-writes g c =
    let was = rw c.if-put_through.false at c.put_through.ensures.writes in
    ended_before (g.V.Target.contents c.args.err.now) (g.V.Target.contents c.put_through.new.self) (codes "mandoc: ") (line_end c.args.shown.now (fault_text c.args.fault)) was

pub returns-clause-failed : goal.returns-clause-failed
returns-clause-failed g c e = c.put_through.ensures.failed c.if-put_through.false
