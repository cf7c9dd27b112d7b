use Rattle.std.proofs.Common.{sym, ap, ◌∙◌, take, length, arith}
use Rattle.std.proofs.lemmas.List.{length-take, take_all}
use Rattle.page_roff_lines.specs.laws.Cutting.{Point, line_of, lines_within}
use Rattle.page_engine_records.specs.machine.NameTexts.{front_of}
use Rattle.page_engine_records.proofs.NameLemmas.{no_line, one_line}
use Rattle.page_engine_records.proofs.RunLemmas.{ended_through, part_through, some_taken}
use Rattle.page_engine_records.proofs.runs.RecordRun.take_part.Goals as goal

pub returns-then-is_settled : goal.returns-then-is_settled
returns-then-is_settled c =
    let chunk = c.args.chunk.now in record {
      some = c.requires.some;
      most = omega arith;
      through = rw (take_all (length chunk) chunk (omega arith)) (ended_through c.args.self.now chunk (sym c.is_settled.ensures ∙ c.if-is_settled.true));
    }

pub feed-count-requires : goal.feed-count-requires
feed-count-requires c =
    let inside = sym c.is_settled.ensures ∙ c.if-is_settled.false in
    let bytes = c.requires.room.bytes inside in
    record { free = c.requires.room.free inside; consumed = omega (arith, bytes) }

pub read_line-requires : goal.read_line-requires
read_line-requires c = record {
  ready = c.feed-count.ensures.ready ∙ c.if-not-is_whole.false;
  count = omega (arith, c.requires.room.lines);
  idle = c.requires.idle;
  inside = sym c.is_settled.ensures ∙ c.if-is_settled.false;
}

pub returns-then-not-is_whole : goal.returns-then-not-is_whole
returns-then-not-is_whole c =
    let f = c.feed-count.ensures in
    let n = c.feed-count.result.0 in
    let b = c.feed-count.result.1 in
    let chunk = c.args.chunk.now in
    let page = front_of c.args.self.now.page in
    let lines = lines_within c.args.self.now.cutter.point (take n chunk) in
    let all = f.all c.if-not-is_whole.true in record {
      some = omega (arith, c.requires.some, all);
      most = f.within;
      through = part_through c.args.self.now _ (take n chunk) (sym c.is_settled.ensures ∙ c.if-is_settled.false)
          (no_line page lines b (line_of c.feed-count.new.self.point) f.lines c.if-not-is_whole.true) f.point (f.ready ∙ c.if-not-is_whole.true)
          (omega (arith, f.consumed, length-take n chunk, f.within)) (omega arith) (λ i. i);
    }

pub returns : goal.returns
returns c =
    let f = c.feed-count.ensures in
    let n = c.feed-count.result.0 in
    let b = c.feed-count.result.1 in
    let chunk = c.args.chunk.now in
    let page = front_of c.args.self.now.page in
    let p = c.args.self.now.cutter.point in
    let line = line_of c.feed-count.new.self.point in
    let r = c.read_line.ensures in
    let some = some_taken p n chunk b line f.lines c.if-not-is_whole.false in
    let same = ap (λ (q : Point). q.line.consumed) r.point in record {
      some = some;
      most = f.within;
      through = part_through c.args.self.now _ (take n chunk) (sym c.is_settled.ensures ∙ c.if-is_settled.false)
          (r.front ∙ one_line page (lines_within p (take n chunk)) b line f.lines c.if-not-is_whole.false) (r.point ∙ f.point) r.ready
          (omega (arith, same, f.consumed, length-take n chunk, f.within)) (omega (arith, r.source, some, length-take n chunk, f.within)) (λ _. r.idle);
    }
