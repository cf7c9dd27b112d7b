use Rattle.std.proofs.Common.{refl}
use Rattle.page_engine_index.specs.Searches.{rows_to}
use Rattle.page_engine_index.specs.machine.Steps.{entry_by}
use Rattle.page_engine_index.specs.Whatis.{asked_of}
use Rattle.page_engine_index.proofs.MatchLemmas.{gives_none, gives_one}
use Rattle.page_engine_index.proofs.queries.Query.give_rows.Goals as goal

pub returns-in-Some-clause-gives : goal.returns-in-Some-clause-gives
returns-in-Some-clause-gives g c =
    let l = g.L.LineSink in
    rw c.in-Some.is (gives_one c.give_row.result (rows_to l.gave l.within l.failed) c.args.out.now c.give_row.new.out (asked_of c.args.self.now) (entry_by c.in-Some.fields) c.give_row.ensures.gives)

pub returns-in-None-clause-gives : goal.returns-in-None-clause-gives
returns-in-None-clause-gives g c =
    let l = g.L.LineSink in rw c.in-None.is (gives_none (rows_to l.gave l.within l.failed) g.met.L.LineSink.laws c.args.out.now _ refl)
