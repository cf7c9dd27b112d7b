use Rattle.std.proofs.Common.{refl, [], arith}
use Rattle.page_core_streams.proofs.AsciiLemmas.{given_none, lean_none}
use Rattle.page_engine_index.proofs.searches.search_index.Goals as goal

pub returns-in-Err-clause-searches : goal.returns-in-Err-clause-searches
returns-in-Err-clause-searches g c = (
  [],
  rw c.in-Err.ensures.fault (record {
    asked = 0;
    few = omega arith;
    source = given_none _;
    lean = lean_none _;
    ends = (refl, g.met.L.LineSink.laws.none _);
    cause = (refl, refl);
  }),
)
