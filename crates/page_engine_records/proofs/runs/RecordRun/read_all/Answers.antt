use Rattle.std.proofs.Common.{◌+◌, ◌-◌, ◌^◌, ◌++◌, [], refl, ◌∙◌, length, length-append, arith}
use Rattle.std.proofs.lemmas.Result.{err_from_is_err_and}
use Rattle.page_engine_records.proofs.RunLemmas.{finished, is_here, room_less, stopped, through_more, through_none}
use Rattle.page_engine_records.proofs.runs.RecordRun.read_all.Goals as goal

pub loop-self-init : goal.loop-self-init
loop-self-init g c = ([], c.new-chunks.ensures (g.S.Source.state c.args.source.now), through_none _, refl)

pub returns-in_err-read-clause-reads : goal.returns-in_err-read-clause-reads
returns-in_err-read-clause-reads g c =
    let i = c.loop-self.invariant in
    let w = c.in_err-read.ensures.reads (g.S.Source.state c.args.source.now) i.0 i.1 in
    let p = err_from_is_err_and c.from_residual.result c.from_residual.ensures.1 in
    rw (p.1, p.2)
    (stopped c.in_err-read.field-0.0 c.args.self.now c.loop-self.self (g.S.Source.state c.args.source.now) (g.S.Source.state c.read.new.source) i.0 w)

pub chunk-requires : goal.chunk-requires
chunk-requires g c =
    let i = c.loop-self.invariant in
    let r = rw c.if-branch.true at (c.in_ok-read.ensures.reads (g.S.Source.state c.args.source.now) i.0 i.1) in
    r.small

pub take_chunk-requires : goal.take_chunk-requires
take_chunk-requires g c =
    let i = c.loop-self.invariant in
    let r = rw c.if-branch.true at (c.in_ok-read.ensures.reads (g.S.Source.state c.args.source.now) i.0 i.1) in
    let chunk = c.chunk.result.now in record {
      room = i.2.room (length chunk) (room_less c.args.self.now (2 ^ 31 - 1) (length i.0 + length chunk) c.requires.room
          (omega (arith, rw (← c.chunk.ensures.value) at r.room, length-append i.0 chunk)));
      idle = (i.2.at _ (is_here c.args.self.now c.requires.idle)).idle;
    }

pub loop-self-preserved : goal.loop-self-preserved
loop-self-preserved g c =
    let i = c.loop-self.invariant in
    let r = rw c.if-branch.true at (c.in_ok-read.ensures.reads (g.S.Source.state c.args.source.now) i.0 i.1) in
    let chunk = c.chunk.result.now in
    (i.0 ++ chunk, rw c.chunk.ensures.value r, through_more i.0 chunk i.2 c.take_chunk.ensures, c.in_ok-read.ensures.same ∙ i.3)

pub finish-requires : goal.finish-requires
finish-requires g c =
    let i = c.loop-self.invariant in record {
      room = i.2.room 0 (room_less c.args.self.now (2 ^ 31 - 1) (length i.0 + 0) c.requires.room (omega (arith, i.1.room)));
      idle = (i.2.at _ (is_here c.args.self.now c.requires.idle)).idle;
    }

pub returns-clause-reads : goal.returns-clause-reads
returns-clause-reads g c =
    let i = c.loop-self.invariant in
    let r = rw c.if-branch.false at (c.in_ok-read.ensures.reads (g.S.Source.state c.args.source.now) i.0 i.1) in (
      i.0,
      record {
        asked = r.0;
        few = r.1.few;
        source = r.1.source;
        lean = r.1.lean;
        ends = finished c.args.self.now c.loop-self.self _ _ _ i.0 i.2 c.finish.ensures r.3 r.2;
      },
    )
