use Rattle.std.proofs.Common.{ap, ◌∙◌, sym, arith}
use Rattle.page_roff_lines.specs.laws.Cutting.{Point, last_line, line_at, line_of}
use Rattle.page_engine_records.specs.machine.NameTexts.{front_of}
use Rattle.page_engine_records.proofs.NameLemmas.{ended_stays, no_line, one_line}
use Rattle.page_engine_records.proofs.runs.RecordRun.take_last.Goals as goal

pub returns-then-is_settled : goal.returns-then-is_settled
returns-then-is_settled c =
    record { front = λ p h. sym (ended_stays (front_of c.args.self.now.page) (last_line p) (sym c.is_settled.ensures ∙ c.if-is_settled.true)) }

pub end-requires : goal.end-requires
end-requires c = c.requires.room.free (sym c.is_settled.ensures ∙ c.if-is_settled.false)

pub read_line-requires : goal.read_line-requires
read_line-requires c = record {
  ready = c.end.ensures.ready ∙ c.if-not-end.false;
  count = omega (arith, c.requires.room.lines);
  idle = c.requires.idle;
  inside = sym c.is_settled.ensures ∙ c.if-is_settled.false;
}

pub returns-then-not-end : goal.returns-then-not-end
returns-then-not-end c = record {
  front = λ p h.
      let here = ap (λ (q : Point). last_line q) (sym (h.point (sym c.is_settled.ensures ∙ c.if-is_settled.false))) in
      no_line (front_of c.args.self.now.page) (last_line p) c.end.result (line_of c.end.new.self.point)
      (here ∙ (ap line_at (sym c.end.ensures.point) ∙ c.end.ensures.line)) c.if-not-end.true;
}

pub returns : goal.returns
returns c = record {
  front = λ p h.
      let here = ap (λ (q : Point). last_line q) (sym (h.point (sym c.is_settled.ensures ∙ c.if-is_settled.false))) in
      c.read_line.ensures.front
      ∙ one_line (front_of c.args.self.now.page) (last_line p) c.end.result (line_of c.end.new.self.point)
      (here ∙ (ap line_at (sym c.end.ensures.point) ∙ c.end.ensures.line)) c.if-not-end.false;
}
