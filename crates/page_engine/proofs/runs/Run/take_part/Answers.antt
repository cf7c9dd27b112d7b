use Rattle.std.proofs.Common.{refl, ◌∙◌, take, arith}
use Rattle.std.proofs.lemmas.List.{length-take}
use Rattle.std.proofs.lemmas.Result.{err_from_is_err_and}
use Rattle.page_roff_lines.specs.Lines.{lines_made}
use Rattle.page_roff_lines.specs.laws.Cutting.{line_of}
use Rattle.page_engine.specs.Runs.{settled_page}
use Rattle.page_engine.proofs.Through.{consumed_is, edge_more, made_lines, may_take_made, point_more}
use Rattle.page_engine.proofs.WholeLines.{none_gave, none_edge, one_gave, one_edge, one_count, most_one, some_taken}
use Rattle.page_engine.proofs.runs.Run.take_part.Goals as goal

pub returns-then-not-is_whole-clause-takes : goal.returns-then-not-is_whole-clause-takes
returns-then-not-is_whole-clause-takes g c =
    let f = c.feed-count.ensures in
    let p = c.args.self.now.cutter.point in
    let b = c.feed-count.result.1 in
    let own = take c.feed-count.result.0 c.args.chunk.now in
    let line = line_of c.feed-count.new.self.point in
    let some = c.requires.some in
    let all = f.all c.if-not-is_whole.true in record {
      some = omega (arith, some, all);
      most = f.within;
      through = record {
        fed = λ s before h.
            let e = (settled_page s before).edge in
            let lines = lines_made s.encoding before own in
            let is = made_lines s before own p b line h.point f.lines in record {
              came = record {
                gave = none_gave g.met.R.RowSink.laws g.met.N.NoteSink.laws _ _ e lines b line h.page.reached is c.if-not-is_whole.true;
                rows_quiet = refl;
                notes_quiet = refl;
              };
              taken = record {
                phase = refl;
                page = rw (edge_more s before own) (none_edge e lines b line is c.if-not-is_whole.true h.page);
                point = f.point ∙ point_more s before own p h.point;
              };
            };
        point = f.point;
        free = f.ready ∙ c.if-not-is_whole.true;
      };
    }

pub returns-in_err-take_line-clause-takes : goal.returns-in_err-take_line-clause-takes
returns-in_err-take_line-clause-takes g c =
    let f = c.feed-count.ensures in
    let p = c.args.self.now.cutter.point in
    let n = c.feed-count.result.0 in
    let b = c.feed-count.result.1 in
    let own = take n c.args.chunk.now in
    let line = line_of c.feed-count.new.self.point in
    let r = err_from_is_err_and c.from_residual.result c.from_residual.ensures.1 in
    rw (r.1, r.2) (λ s before h.
    let e = (settled_page s before).edge in
    let lines = lines_made s.encoding before own in
    let is = made_lines s before own p b line h.point f.lines in
    let one = one_count lines b line is c.if-not-is_whole.false in
    let few = may_take_made c.args.self.now.page s before own h.page one
    (omega (arith, consumed_is s before p h.point, c.requires.room.room, length-take n c.args.chunk.now, f.within)) in
    let t = c.in_err-take_line.ensures.takes e h.page few in record {
      count = n;
      one = most_one lines b line is;
      front = record { gave = one_gave e lines b line is c.if-not-is_whole.false t.0.gave; cause = t.0.cause };
    })

pub returns-clause-takes : goal.returns-clause-takes
returns-clause-takes g c =
    let f = c.feed-count.ensures in
    let p = c.args.self.now.cutter.point in
    let n = c.feed-count.result.0 in
    let b = c.feed-count.result.1 in
    let own = take n c.args.chunk.now in
    let line = line_of c.feed-count.new.self.point in
    let t = c.in_ok-take_line.ensures in record {
      some = some_taken p n c.args.chunk.now b line f.lines c.if-not-is_whole.false;
      most = f.within;
      through = record {
        fed = λ s before h.
            let e = (settled_page s before).edge in
            let lines = lines_made s.encoding before own in
            let is = made_lines s before own p b line h.point f.lines in
            let one = one_count lines b line is c.if-not-is_whole.false in
            let few = may_take_made c.args.self.now.page s before own h.page one
            (omega (arith, consumed_is s before p h.point, c.requires.room.room, length-take n c.args.chunk.now, f.within)) in
            let w = t.takes e h.page few in record {
              came = record {
                gave = one_gave e lines b line is c.if-not-is_whole.false w.0.gave;
                rows_quiet = w.0.rows_quiet;
                notes_quiet = w.0.notes_quiet;
              };
              taken = record {
                phase = refl;
                page = rw (edge_more s before own) (one_edge e lines b line is c.if-not-is_whole.false w.1);
                point = t.point ∙ (f.point ∙ point_more s before own p h.point);
              };
            };
        point = t.point ∙ f.point;
        free = t.ready;
      };
    }
