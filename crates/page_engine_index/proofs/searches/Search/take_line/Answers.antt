use Rattle.std.proofs.Common.{arith}
use Rattle.page_engine_index.specs.Searches.{rows_to}
use Rattle.page_engine_index.specs.machine.Steps.{entries_by}
use Rattle.page_engine_index.specs.Whatis.{asked_of}
use Rattle.page_engine_index.proofs.SearchLemmas.{line_broke}
use Rattle.page_engine_index.proofs.searches.Search.take_line.Goals as goal

pub returns-in-Err-give_rows-clause-takes : goal.returns-in-Err-give_rows-clause-takes
returns-in-Err-give_rows-clause-takes g c =
    let l = g.L.LineSink in
    line_broke (rows_to l.gave l.within l.failed) (asked_of c.args.query.now) c.args.self.now c.next.new.self c.args.out.now c.give_rows.new.out
    (entries_by c.in-Ok.fields) c.in-Err-give_rows.fault (rw c.bytes.ensures.value at c.in-Ok.ensures.next) c.in-Err-give_rows.ensures.gives

pub returns-clause-takes : goal.returns-clause-takes
returns-clause-takes g c =
    let gives = c.in-Ok-give_rows.ensures.gives in record {
      entries = entries_by c.in-Ok.fields;
      next = rw c.bytes.ensures.value at c.in-Ok.ensures.next;
      gave = gives.0;
      count = omega (arith, gives.1);
      few = omega (arith, gives.1, gives.2);
      lines = c.in-Ok.ensures.count;
      empty = c.clear.ensures;
    }
