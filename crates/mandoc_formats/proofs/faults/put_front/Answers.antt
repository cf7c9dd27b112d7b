use Rattle.std.specs.Prelude.{codes}
use Rattle.mandoc_formats.specs.Formats.{shown}
use Rattle.mandoc_formats.proofs.Turns.{ended_before}
use Rattle.mandoc_formats.proofs.faults.put_front.Goals as goal

pub returns-clause-writes : goal.returns-clause-writes
returns-clause-writes g c =
    let was = rw c.if-put_through.false at c.put_through.ensures.writes in
    ended_before (g.V.Target.contents c.args.err.now) (g.V.Target.contents c.put_through.new.self) (codes "mandoc: ") (shown c.args.name.now) was

pub returns-clause-failed : goal.returns-clause-failed
returns-clause-failed g c e = c.put_through.ensures.failed c.if-put_through.false
