use Rattle.std.proofs.Common.{◌≤◌, refl, [], ◌++◌, ◌∙◌, ap, take, length, length-append, append-nil, arith}
use Rattle.std.proofs.lemmas.Bool.Decides.{nat_tests}
use Rattle.std.proofs.lemmas.List.{take_rest, length-take}
use Rattle.page_engine_index.specs.Searches.{rows_to}
use Rattle.page_engine_index.specs.Whatis.{asked_of}
use Rattle.page_engine_index.proofs.SearchLemmas.{part_of, all_done, here_more, stopped_at}
use Rattle.page_engine_index.proofs.searches.Search.take_chunk.Goals as goal

pub loop-rest-init : goal.loop-rest-init
loop-rest-init g c = ([], refl, omega arith, c.requires.few, λ first bytes h. rw append-nil h, refl)

pub take_part-requires : goal.take_part-requires
take_part-requires g c =
    let i = c.loop-rest.invariant in record {
      some = grind (arith, nat_tests);
      count = omega (arith, c.requires.count, i.2, ap length i.1, length-append i.0 c.loop-rest.rest.now);
      few = i.3;
    }

pub returns-in-Err-clause-takes : goal.returns-in-Err-clause-takes
returns-in-Err-clause-takes g c = λ first bytes h.
    let o = g.L.LineSink in
    let k = rows_to o.gave o.within o.failed in
    let i = c.loop-rest.invariant in
    stopped_at k (asked_of c.args.query.now) first c.take_part.new.out bytes c.args.chunk.now i.0 c.loop-rest.rest.now c.in-Err.fault i.1
    (c.in-Err.ensures.takes first (bytes ++ i.0) (i.4 first bytes h))

pub loop-rest-preserved : goal.loop-rest-preserved
loop-rest-preserved g c =
    let o = g.L.LineSink in
    let k = rows_to o.gave o.within o.failed in
    let i = c.loop-rest.invariant in
    let count = c.in-Ok.count in
    let rest = c.loop-rest.rest.now in
    let t = c.in-Ok.ensures in
    rw (take_rest rest count) (
      i.0 ++ take count rest,
      part_of c.args.chunk.now i.0 rest count i.1,
      omega (arith, t.takes.lines, i.2, length-append i.0 (take count rest), length-take count rest, t.takes.most),
      t.takes.few,
      λ first bytes h. here_more k (asked_of c.args.query.now) first c.take_part.new.out c.take_part.new.self bytes i.0 (take count rest)
          (t.takes.here first (bytes ++ i.0) (i.4 first bytes h)),
      t.same ∙ i.5,
    )

pub returns-clause-takes : goal.returns-clause-takes
returns-clause-takes g c =
    let i = c.loop-rest.invariant in
    let none : length c.loop-rest.rest.now ≤ 0 = grind (arith, nat_tests) in
    rw (all_done c.args.chunk.now i.0 c.loop-rest.rest.now i.1 none) (record { lines = i.2; few = i.3; here = i.4 })
