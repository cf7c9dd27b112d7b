use Rattle.std.proofs.Common.{◌++◌, [], refl, ◌∙◌, length-append, arith}
use Rattle.std.proofs.lemmas.Result.{err_from_is_err_and}
use Rattle.page_core_streams.proofs.AsciiLemmas.{busy_lean}
use Rattle.page_engine_index.specs.Searches.{rows_to}
use Rattle.page_engine_index.specs.Whatis.{asked_of}
use Rattle.page_engine_index.proofs.SearchLemmas.{here_start, over_end, over_fault, over_stopped}
use Rattle.page_engine_index.proofs.searches.Search.read_all.Goals as goal

pub loop-self-init : goal.loop-self-init
loop-self-init g c =
    let o = g.L.LineSink in
    let k = rows_to o.gave o.within o.failed in (
      [],
      c.new-chunks.ensures (g.S.Source.state c.args.source.now),
      here_start k (asked_of c.args.query.now) g.met.L.LineSink.laws c.args.out.now c.args.self.now c.requires,
      omega (arith, c.requires.lines),
      omega (arith, c.requires.rows),
      refl,
      refl,
    )

pub returns-in_err-read-clause-searches : goal.returns-in_err-read-clause-searches
returns-in_err-read-clause-searches g c =
    let o = g.L.LineSink in
    let k = rows_to o.gave o.within o.failed in
    let i = c.loop-self.invariant in
    let w = c.in_err-read.ensures.reads (g.S.Source.state c.args.source.now) i.0 i.1 in
    let p = err_from_is_err_and c.from_residual.result c.from_residual.ensures.1 in
    rw (p.1, p.2)
    (over_fault c.in_err-read.field-0.0 k (g.S.Source.state c.args.source.now) (g.S.Source.state c.read.new.source) c.args.out.now c.loop-self.out
    (asked_of c.args.query.now) c.loop-self.self i.0 w i.2)

pub chunk-requires : goal.chunk-requires
chunk-requires g c =
    let i = c.loop-self.invariant in
    let r = rw c.if-branch.true at (c.in_ok-read.ensures.reads (g.S.Source.state c.args.source.now) i.0 i.1) in
    r.small

pub take_chunk-requires-clause-count : goal.take_chunk-requires-clause-count
take_chunk-requires-clause-count g c =
    let i = c.loop-self.invariant in
    let r = rw c.if-branch.true at (c.in_ok-read.ensures.reads (g.S.Source.state c.args.source.now) i.0 i.1) in
    let chunk = c.chunk.result.now in
    omega (arith, i.3, rw (← c.chunk.ensures.value) at r.room, length-append i.0 chunk)

pub loop-self-preserved : goal.loop-self-preserved
loop-self-preserved g c =
    let i = c.loop-self.invariant in
    let r = rw c.if-branch.true at (c.in_ok-read.ensures.reads (g.S.Source.state c.args.source.now) i.0 i.1) in
    let s = c.in_ok-take_chunk.ensures in
    let chunk = c.chunk.result.now in (
      i.0 ++ chunk,
      rw c.chunk.ensures.value r,
      s.takes.here c.args.out.now i.0 i.2,
      omega (arith, i.3, s.takes.lines, length-append i.0 chunk),
      s.takes.few,
      c.in_ok-read.ensures.same ∙ i.5,
      s.same ∙ i.6,
    )

pub returns-in_err-take_chunk-clause-searches : goal.returns-in_err-take_chunk-clause-searches
returns-in_err-take_chunk-clause-searches g c =
    let o = g.L.LineSink in
    let k = rows_to o.gave o.within o.failed in
    let i = c.loop-self.invariant in
    let r = rw c.if-branch.true at (c.in_ok-read.ensures.reads (g.S.Source.state c.args.source.now) i.0 i.1) in
    let chunk = c.chunk.result.now in
    let w = over_stopped c.in_err-take_chunk.field-0.0 k g.met.L.LineSink.laws (g.S.Source.state c.args.source.now) (g.S.Source.state c.read.new.source) c.args.out.now
    c.take_chunk.new.out (asked_of c.args.query.now) r.asked (i.0 ++ chunk) r.quiet (c.in_err-take_chunk.ensures.takes c.args.out.now i.0 i.2) in
    let p = err_from_is_err_and c.from_residual-in_err-take_chunk.result c.from_residual-in_err-take_chunk.ensures.1 in
    rw (p.1, p.2) (
      i.0 ++ chunk,
      record { asked = r.asked; few = omega (arith, r.calls); source = rw c.chunk.ensures.value r.given; lean = rw c.chunk.ensures.value (busy_lean r.asked _ r.busy); ends = w.0; cause = w.1 },
    )

pub returns-clause-searches : goal.returns-clause-searches
returns-clause-searches g c =
    let o = g.L.LineSink in
    let k = rows_to o.gave o.within o.failed in
    let i = c.loop-self.invariant in
    let r = rw c.if-branch.false at (c.in_ok-read.ensures.reads (g.S.Source.state c.args.source.now) i.0 i.1) in
    let w = over_end c.finish.result k (g.S.Source.state c.args.source.now) (g.S.Source.state c.read.new.source) c.args.out.now c.loop-self.out c.finish.new.out
    (asked_of c.args.query.now) c.loop-self.self r.0 i.0 r.3 r.2 i.2 c.finish.ensures.ends in
    (i.0, record { asked = r.0; few = r.1.few; source = r.1.source; lean = r.1.lean; ends = w.0; cause = w.1 })
