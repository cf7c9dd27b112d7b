use Rattle.std.proofs.Common.{◌≡◌, ◌++◌, ◌+◌, ◌^◌, ◌-◌, length, take, drop, ◌∙◌, arith, inl, inr, length-append}
use Rattle.std.proofs.lemmas.List.{length-take, take_all, take_at, take-append-le}
use Rattle.page_core_streams.proofs.AsciiLemmas.{given_more, given_end, busy_more, busy_end, busy_lean}
use Rattle.page_core_streams.proofs.chunks.Chunks.read.Goals as goal

pub returns-then-self-eq0-clause-reads : goal.returns-then-self-eq0-clause-reads
returns-then-self-eq0-clause-reads g c = λ a bytes r. (
  r.asked,
  bytes,
  record { few = omega (arith, r.calls); source = r.given; lean = busy_lean r.asked bytes r.busy },
  inl (omega (arith, r.calls, c.if-self-eq0.true)),
  take_all (2 ^ 31 - 1) bytes (omega (arith, r.room)),
  r.quiet,
)

pub returns-in-End-clause-reads : goal.returns-in-End-clause-reads
returns-in-End-clause-reads g c = λ a bytes r.
    let d = c.in-End.ensures.reads in (
      r.asked + 1,
      record {
        few = omega (arith, r.calls, c.if-self-eq0.false);
        source = given_end r.asked 1 bytes r.given d.0;
        lean = busy_end r.asked bytes r.busy d.3;
      },
      d.1 ∙ r.quiet,
      d.2,
    )

pub returns-in-Failure-clause-reads : goal.returns-in-Failure-clause-reads
returns-in-Failure-clause-reads g c = λ a bytes r.
    let d = c.in-Failure.ensures.reads in (
      r.asked + 1,
      record {
        few = omega (arith, r.calls, c.if-self-eq0.false);
        source = given_end r.asked 1 bytes r.given d.0;
        lean = busy_end r.asked bytes r.busy d.2;
      },
      rw r.quiet at d.1,
    )

pub returns-then-count-room-clause-reads : goal.returns-then-count-room-clause-reads
returns-then-count-room-clause-reads g c = λ a bytes r.
    let d = c.in-Bytes.ensures.reads in
    let ys = take c.in-Bytes.count c.read.new.buffer in
    let t = length-take c.in-Bytes.count c.read.new.buffer in
    let most = length-take c.clamp-most.result c.args.self.now.buffer in
    let full : length bytes ≡ 2 ^ 31 - 1 = omega (arith, r.room, c.clamp-most.ensures, c.read.auto.buffer, most, d.2, c.if-count-room.true) in (
      r.asked + 1,
      bytes ++ ys,
      record {
        few = omega (arith, r.calls, c.if-self-eq0.false);
        source = given_more r.asked 1 bytes ys r.given d.0;
        lean = busy_lean (r.asked + 1) (bytes ++ ys) (busy_more r.asked c.in-Bytes.count bytes ys r.busy (omega (arith, t, d.2)) d.3);
      },
      inr (omega (arith, full, length-append bytes ys, t, d.2, c.if-count-room.true)),
      take_at bytes ys (2 ^ 31 - 1) full,
      d.1 ∙ r.quiet,
    )

pub returns-else-count-room-clause-reads : goal.returns-else-count-room-clause-reads
returns-else-count-room-clause-reads g c = λ a bytes r.
    let d = c.in-Bytes.ensures.reads in
    let count = c.in-Bytes.count in
    let ys = take count c.read.new.buffer in
    let t = length-take count c.read.new.buffer in
    let most = length-take c.clamp-most.result c.args.self.now.buffer in
    let same = take-append-le count c.read.new.buffer (drop c.clamp-most.result c.args.self.now.buffer) d.2 in
    rw same record {
      asked = r.asked + 1;
      calls = omega (arith, r.calls, c.if-self-eq0.false);
      given = given_more r.asked 1 bytes ys r.given d.0;
      busy = busy_more r.asked count bytes ys r.busy (omega (arith, t, d.2)) d.3;
      quiet = d.1 ∙ r.quiet;
      room = omega (arith, r.room, length-append bytes ys, t, d.2, c.if-count-room.false);
      small = omega (arith, c.clamp-most.ensures, c.read.auto.buffer, most, d.2);
    }
