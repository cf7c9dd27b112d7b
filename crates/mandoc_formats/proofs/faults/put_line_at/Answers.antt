use Rattle.std.proofs.Common.{[], ◌++◌}
use Rattle.std.specs.Prelude.{codes}
use Rattle.mandoc_formats.specs.Formats.{line_end, shown}
use Rattle.mandoc_formats.proofs.Turns.{writes_on, ended_before}
use Rattle.mandoc_formats.proofs.faults.put_line_at.Goals as goal

pub returns-then-put_front-clause-writes : goal.returns-then-put_front-clause-writes
returns-then-put_front-clause-writes g c =
    let a = g.V.Target.contents c.args.err.now in
    let b = g.V.Target.contents c.put_front.new.err in
    let d = g.V.Target.contents c.put_through.new.self in
    let was = rw c.if-put_front.true at c.put_front.ensures.writes in
    let came = rw c.as_bytes.ensures.value at c.put_through.ensures.writes in
    writes_on c.put_through.result a b d (codes "mandoc: " ++ shown c.args.name.now) (line_end [] c.args.text.now) was came

pub returns-clause-writes : goal.returns-clause-writes
returns-clause-writes g c =
    let was = rw c.if-put_front.false at c.put_front.ensures.writes in
    ended_before (g.V.Target.contents c.args.err.now) (g.V.Target.contents c.put_front.new.err) (codes "mandoc: " ++ shown c.args.name.now) (line_end [] c.args.text.now) was

pub returns-clause-failed : goal.returns-clause-failed
returns-clause-failed g c e = c.put_front.ensures.failed c.if-put_front.false
