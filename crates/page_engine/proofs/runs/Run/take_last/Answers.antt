use Rattle.std.proofs.Common.{refl, arith}
use Rattle.std.proofs.lemmas.Result.{err_from_is_err_and}
use Rattle.page_roff_lines.specs.Lines.{line_left}
use Rattle.page_roff_lines.specs.laws.Cutting.{line_of}
use Rattle.page_engine.specs.Runs.{settled_page}
use Rattle.page_engine.proofs.Through.{consumed_is, left_line, may_take_left}
use Rattle.page_engine.proofs.WholeLines.{none_gave, none_edge, one_gave, one_edge, one_count}
use Rattle.page_engine.proofs.runs.Run.take_last.Goals as goal

pub returns-then-not-end-clause-takes : goal.returns-then-not-end-clause-takes
returns-then-not-end-clause-takes g c = λ s bytes h.
    let b = c.end.result in
    let line = line_of c.end.new.self.point in
    let e = (settled_page s bytes).edge in
    let lines = line_left s.encoding bytes in
    let is = left_line s bytes _ _ b line h.point c.end.ensures.point c.end.ensures.line in (
      record {
        gave = none_gave g.met.R.RowSink.laws g.met.N.NoteSink.laws _ _ e lines b line h.page.reached is c.if-not-end.true;
        rows_quiet = refl;
        notes_quiet = refl;
      },
      none_edge e lines b line is c.if-not-end.true h.page,
    )

pub returns-in_err-take_line-clause-takes : goal.returns-in_err-take_line-clause-takes
returns-in_err-take_line-clause-takes g c =
    let b = c.end.result in
    let line = line_of c.end.new.self.point in
    let r = err_from_is_err_and c.from_residual.result c.from_residual.ensures.1 in
    rw (r.1, r.2) (λ s bytes h.
    let e = (settled_page s bytes).edge in
    let lines = line_left s.encoding bytes in
    let is = left_line s bytes _ _ b line h.point c.end.ensures.point c.end.ensures.line in
    let few = may_take_left c.args.self.now.page s bytes h.page (one_count lines b line is c.if-not-end.false)
    (omega (arith, consumed_is s bytes c.args.self.now.cutter.point h.point, c.requires.room)) in
    let t = c.in_err-take_line.ensures.takes e h.page few in
    record { gave = one_gave e lines b line is c.if-not-end.false t.0.gave; cause = t.0.cause })

pub returns-clause-takes : goal.returns-clause-takes
returns-clause-takes g c = λ s bytes h.
    let b = c.end.result in
    let line = line_of c.end.new.self.point in
    let e = (settled_page s bytes).edge in
    let lines = line_left s.encoding bytes in
    let is = left_line s bytes _ _ b line h.point c.end.ensures.point c.end.ensures.line in
    let few = may_take_left c.args.self.now.page s bytes h.page (one_count lines b line is c.if-not-end.false)
    (omega (arith, consumed_is s bytes c.args.self.now.cutter.point h.point, c.requires.room)) in
    let w = c.in_ok-take_line.ensures.takes e h.page few in (
      record {
        gave = one_gave e lines b line is c.if-not-end.false w.0.gave;
        rows_quiet = w.0.rows_quiet;
        notes_quiet = w.0.notes_quiet;
      },
      one_edge e lines b line is c.if-not-end.false w.1,
    )
