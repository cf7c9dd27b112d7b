use Rattle.mandoc_formats.specs.Formats.{unopened_line}
use Rattle.mandoc_formats.proofs.Turns.{tells}
use Rattle.mandoc_formats.proofs.faults.report_unopened.Goals as goal

pub returns-clause-line : goal.returns-clause-line
returns-clause-line g c =
    let came = rw c.as_bytes.ensures.value at c.put_through.ensures.writes in
    tells c.put_through.result _ (g.V.Target.contents c.args.err.now) (g.V.Target.contents c.put_through.new.self) (unopened_line c.args.shown.now) came c.put_through.ensures.failed
