use Rattle.std.proofs.Common.{◌+◌, ◌<◌, ◌^◌, ◌++◌, [], inl, inr, refl, ◌∙◌, length, length-append, arith}
use Rattle.std.proofs.lemmas.Result.{err_from_is_err_and}
use Rattle.page_core_streams.proofs.AsciiLemmas.{busy_lean}
use Rattle.page_engine.specs.Edges.{start}
use Rattle.page_engine.specs.laws.Views.{sinks}
use Rattle.page_engine.proofs.Through.{bytes_none, came_none}
use Rattle.page_engine.proofs.WholeRuns.{come_more, broken_chunk, broken_end, runs_well, stopped_by, stopped_reading}
use Rattle.page_engine.proofs.runs.PageRun.read_all.Goals as goal

pub loop-self-init : goal.loop-self-init
loop-self-init g c =
    let r = g.R.RowSink in
    let n = g.N.NoteSink in
    let k = sinks r.gave r.within r.failed n.gave n.within n.failed in (
      [],
      c.new-chunks.ensures (g.S.Source.state c.args.source.now),
      λ s h. record { taken = h; came = rw (bytes_none s) (came_none k g.met.R.RowSink.laws g.met.N.NoteSink.laws _ _ (start s)) },
      refl,
      refl,
      refl,
      inl (refl, refl),
    )

pub returns-in_err-next-clause-runs : goal.returns-in_err-next-clause-runs
returns-in_err-next-clause-runs g c =
    let r = g.R.RowSink in
    let n = g.N.NoteSink in
    let k = sinks r.gave r.within r.failed n.gave n.within n.failed in
    let i = c.loop-self.invariant in
    let w = c.in_err-next.ensures.reads (g.S.Source.state c.args.source.now) i.0 i.1 in
    let p = err_from_is_err_and c.from_residual.result c.from_residual.ensures.1 in
    rw (p.1, p.2) (λ s good h. stopped_reading c.in_err-next.field-0.0 k s i.0 good w (i.2 s h).came)

pub next-requires : goal.next-requires
next-requires g c =
    let i = c.loop-self.invariant in
    let h = i.2 c.requires.0 c.requires.1 in record {
      settings = c.requires.0;
      bytes = i.0;
      source = g.S.Source.state c.args.source.now;
      rows = c.args.rows.now;
      notes = c.args.notes.now;
      read = i.1;
      taken = h.taken;
      came = h.came.gave;
      out = i.6;
    }

pub chunk-requires : goal.chunk-requires
chunk-requires g c =
    let i = c.loop-self.invariant in
    let m = rw c.if-branch.true at (c.in_ok-next.ensures.reads (g.S.Source.state c.args.source.now) i.0 i.1) in
    m.small

pub loop-self-preserved : goal.loop-self-preserved
loop-self-preserved g c =
    let r = g.R.RowSink in
    let n = g.N.NoteSink in
    let k = sinks r.gave r.within r.failed n.gave n.within n.failed in
    let i = c.loop-self.invariant in
    let m = rw c.if-branch.true at (c.in_ok-next.ensures.reads (g.S.Source.state c.args.source.now) i.0 i.1) in
    let f = c.in_ok-feed.ensures in
    let chunk = c.chunk.result.now in (
      i.0 ++ chunk,
      rw c.chunk.ensures.value m,
      λ s h.
          let b = i.2 s h in
          let few : length i.0 + length chunk < 2 ^ 31 = omega (arith, rw (← c.chunk.ensures.value) at m.room, length-append i.0 chunk) in
          come_more k g.met.R.RowSink.laws g.met.N.NoteSink.laws s i.0 chunk b (f.feeds s i.0 b.taken few),
      c.in_ok-next.ensures.same ∙ i.3,
      f.rows_same ∙ i.4,
      f.notes_same ∙ i.5,
      inr f.out,
    )

pub returns-in_err-feed-clause-runs : goal.returns-in_err-feed-clause-runs
returns-in_err-feed-clause-runs g c =
    let r = g.R.RowSink in
    let n = g.N.NoteSink in
    let k = sinks r.gave r.within r.failed n.gave n.within n.failed in
    let i = c.loop-self.invariant in
    let m = rw c.if-branch.true at (c.in_ok-next.ensures.reads (g.S.Source.state c.args.source.now) i.0 i.1) in
    let chunk = c.chunk.result.now in
    let fault = c.in_err-feed.field-0.0 in
    let p = err_from_is_err_and c.from_residual-in_err-feed.result c.from_residual-in_err-feed.ensures.1 in
    rw (p.1, p.2) (λ s good h.
    let b = i.2 s h in
    let few : length i.0 + length chunk < 2 ^ 31 = omega (arith, rw (← c.chunk.ensures.value) at m.room, length-append i.0 chunk) in (
      i.0 ++ chunk,
      stopped_by k g.met.R.RowSink.laws g.met.N.NoteSink.laws s m.asked (i.0 ++ chunk) fault good (omega (arith, m.calls))
          (rw c.chunk.ensures.value m.given) (rw c.chunk.ensures.value (busy_lean m.asked _ m.busy))
          (broken_chunk k g.met.R.RowSink.laws g.met.N.NoteSink.laws s i.0 chunk fault c.chunk.ensures.small b.came (c.in_err-feed.ensures.feeds s i.0 b.taken few).0),
    ))

pub returns-in_err-end-clause-runs : goal.returns-in_err-end-clause-runs
returns-in_err-end-clause-runs g c =
    let r = g.R.RowSink in
    let n = g.N.NoteSink in
    let k = sinks r.gave r.within r.failed n.gave n.within n.failed in
    let i = c.loop-self.invariant in
    let m = rw c.if-branch.false at (c.in_ok-next.ensures.reads (g.S.Source.state c.args.source.now) i.0 i.1) in
    let fault = c.in_err-end.field-0.0 in
    let p = err_from_is_err_and c.from_residual-in_err-end.result c.from_residual-in_err-end.ensures.1 in
    rw (p.1, p.2) (λ s good h.
    let b = i.2 s h in (
      i.0,
      stopped_by k g.met.R.RowSink.laws g.met.N.NoteSink.laws s m.0 i.0 fault good m.1.few m.1.source m.1.lean
          (broken_end k s i.0 fault b.came (c.in_err-end.ensures.ends s i.0 b.taken).0),
    ))

pub returns-clause-runs : goal.returns-clause-runs
returns-clause-runs g c = λ s good h.
    let r = g.R.RowSink in
    let n = g.N.NoteSink in
    let k = sinks r.gave r.within r.failed n.gave n.within n.failed in
    let i = c.loop-self.invariant in
    let m = rw c.if-branch.false at (c.in_ok-next.ensures.reads (g.S.Source.state c.args.source.now) i.0 i.1) in
    let b = i.2 s h in
    let e = c.in_ok-end.ensures.ends s i.0 b.taken in
    let o = c.outcome.ensures in (
      i.0,
      runs_well k g.met.R.RowSink.laws g.met.N.NoteSink.laws s m.0 i.0 c.outcome.result good m.1.few m.1.source m.1.lean m.3 m.2
          b.came e.0 e.2 o.worst o.counts,
    )
