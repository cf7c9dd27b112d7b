use Rattle.std.proofs.Common.{Bool, Ok, Err, rules}
use Rattle.page_roff_machine.specs.Giving.{notes_before}
use Rattle.page_roff_source.specs.laws.Views.{given_of}
use Rattle.page_roff_source.proofs.RunDepthLemmas.{latched}
use Rattle.page_roff_source.proofs.roffs.advance.Goals as goal

pub returns-in-Ok-clause-reports : goal.returns-in-Ok-clause-reports
returns-in-Ok-clause-reports g c =
    let k = latched {A = Bool} g.met.N.NoteSink.laws (notes_before (given_of c.args.lines.now.edge)) (Ok c.advance-is_taken.result)
    c.new-latch.ensures.fault c.advance-is_taken.ensures.came c.in-Ok.ensures in
    search (rules, k.0, k.2)

pub returns-in-Ok-clause-same : goal.returns-in-Ok-clause-same
returns-in-Ok-clause-same g c =
    let k = latched {A = Bool} g.met.N.NoteSink.laws (notes_before (given_of c.args.lines.now.edge)) (Ok c.advance-is_taken.result)
    c.new-latch.ensures.fault c.advance-is_taken.ensures.came c.in-Ok.ensures in
    search (rules, k.0, k.1)

pub returns-in-Err-clause-reports : goal.returns-in-Err-clause-reports
returns-in-Err-clause-reports g c =
    let k = latched {A = Bool} g.met.N.NoteSink.laws (notes_before (given_of c.args.lines.now.edge)) (Err c.in-Err.fault)
    c.new-latch.ensures.fault c.advance-is_taken.ensures.came c.in-Err.ensures in
    search (rules, k.0, k.2)

pub returns-in-Err-clause-same : goal.returns-in-Err-clause-same
returns-in-Err-clause-same g c =
    let k = latched {A = Bool} g.met.N.NoteSink.laws (notes_before (given_of c.args.lines.now.edge)) (Err c.in-Err.fault)
    c.new-latch.ensures.fault c.advance-is_taken.ensures.came c.in-Err.ensures in
    search (rules, k.0, k.1)
