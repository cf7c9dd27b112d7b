use Rattle.std.proofs.Common.{rules}
use Rattle.page_roff_source.specs.Runs.{end_notes}
use Rattle.page_roff_source.proofs.RunDepthLemmas.{latched}
use Rattle.page_roff_source.proofs.roffs.end.Goals as goal

pub returns-clause-reports : goal.returns-clause-reports
returns-clause-reports g c =
    let k = latched g.met.N.NoteSink.laws (end_notes c.args.lines.now.edge) c.done.result c.new-latch.ensures.fault c.end_into.ensures.came c.done.ensures in
    search (rules, k.0, k.2)

pub returns-clause-same : goal.returns-clause-same
returns-clause-same g c =
    let k = latched g.met.N.NoteSink.laws (end_notes c.args.lines.now.edge) c.done.result c.new-latch.ensures.fault c.end_into.ensures.came c.done.ensures in
    search (rules, k.0, k.1)
