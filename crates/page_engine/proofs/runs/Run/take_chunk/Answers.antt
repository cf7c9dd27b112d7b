use Rattle.std.proofs.Common.{◌≤◌, refl, [], ◌++◌, ◌∙◌, ap, take, length, length-append, arith}
use Rattle.std.proofs.lemmas.Bool.Decides.{nat_tests}
use Rattle.std.proofs.lemmas.List.{take_rest}
use Rattle.std.proofs.lemmas.Result.{err_from_is_err_and}
use Rattle.page_engine.specs.laws.Views.{sinks}
use Rattle.page_engine.proofs.Through.{through_none, through_more, room_after, all_done, part_of, part_broke}
use Rattle.page_engine.proofs.runs.Run.take_chunk.Goals as goal

pub loop-rest-init : goal.loop-rest-init
loop-rest-init g c =
    let r = g.R.RowSink in
    let n = g.N.NoteSink in
    let k = sinks r.gave r.within r.failed n.gave n.within n.failed in
    ([], refl, through_none k g.met.R.RowSink.laws g.met.N.NoteSink.laws _ _ _ c.requires.free, refl, refl)

pub take_part-requires : goal.take_part-requires
take_part-requires g c =
    let i = c.loop-rest.invariant in record {
      some = grind (arith, nat_tests);
      room = room_after i.0 (length c.args.chunk.now) (length c.loop-rest.rest.now) i.2 c.requires
          (omega (arith, ap length i.1, length-append i.0 c.loop-rest.rest.now));
    }

pub returns-in_err-count-clause-takes : goal.returns-in_err-count-clause-takes
returns-in_err-count-clause-takes g c =
    let i = c.loop-rest.invariant in
    let p = err_from_is_err_and c.from_residual.result c.from_residual.ensures.1 in
    let r = g.R.RowSink in
    let n = g.N.NoteSink in
    let k = sinks r.gave r.within r.failed n.gave n.within n.failed in
    rw (p.1, p.2) (λ s before h.
    let f = i.2.fed s before h in
    part_broke k s before c.args.chunk.now i.0 c.loop-rest.rest.now _ i.1 f.came (c.in_err-count.ensures.takes s (before ++ i.0) f.taken))

pub loop-rest-preserved : goal.loop-rest-preserved
loop-rest-preserved g c =
    let r = g.R.RowSink in
    let n = g.N.NoteSink in
    let k = sinks r.gave r.within r.failed n.gave n.within n.failed in
    let i = c.loop-rest.invariant in
    let count = c.in_ok-count.count in
    let rest = c.loop-rest.rest.now in
    let t = c.in_ok-count.ensures in
    rw (take_rest rest count) (
      i.0 ++ take count rest,
      part_of c.args.chunk.now i.0 rest count i.1,
      through_more k g.met.R.RowSink.laws g.met.N.NoteSink.laws i.0 (take count rest) i.2 t.takes.through,
      t.rows_same ∙ i.3,
      t.notes_same ∙ i.4,
    )

pub returns-clause-takes : goal.returns-clause-takes
returns-clause-takes g c =
    let i = c.loop-rest.invariant in
    let none : length c.loop-rest.rest.now ≤ 0 = grind (arith, nat_tests) in
    rw (all_done c.args.chunk.now i.0 c.loop-rest.rest.now i.1 none) i.2
