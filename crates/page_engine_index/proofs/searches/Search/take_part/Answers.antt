use Rattle.std.proofs.Common.{take}
use Rattle.page_engine_index.specs.Searches.{rows_to}
use Rattle.page_engine_index.specs.Whatis.{asked_of}
use Rattle.page_engine_index.proofs.SearchLemmas.{no_feed_in, no_room, part_open, part_long, part_line, part_stopped}
use Rattle.page_engine_index.proofs.searches.Search.take_part.Goals as goal

pub returns-in_default-clause-takes : goal.returns-in_default-clause-takes
returns-in_default-clause-takes g c =
    let l = g.L.LineSink in
    part_open c.take_open.result (rows_to l.gave l.within l.failed) (asked_of c.args.query.now) c.args.self.now c.take_open.new.self c.args.out.now c.args.chunk.now
    (no_feed_in c.args.chunk.now c.in_default.ensures) c.requires.some c.requires.few c.take_open.ensures

pub returns-then-not-add-clause-takes : goal.returns-then-not-add-clause-takes
returns-then-not-add-clause-takes g c = λ first bytes h.
    let l = g.L.LineSink in
    part_long (rows_to l.gave l.within l.failed) (asked_of c.args.query.now) first c.args.out.now c.args.self.now bytes c.args.chunk.now c.in-Some.end c.in-Some.ensures
    (no_room c.args.self.now.held (take c.in-Some.end c.args.chunk.now) c.if-not-add.ensures.fits) h

pub returns-in-Ok-clause-takes : goal.returns-in-Ok-clause-takes
returns-in-Ok-clause-takes g c =
    let l = g.L.LineSink in
    part_line (rows_to l.gave l.within l.failed) (asked_of c.args.query.now) g.met.L.LineSink.laws c.args.self.now c.take_line.new.self c.add.new.self c.args.out.now
    c.take_line.new.out c.args.chunk.now c.in-Some.end c.in-Some.ensures c.if-not-add.ensures.after c.requires.few c.in-Ok.ensures.takes

pub returns-in-Err-clause-takes : goal.returns-in-Err-clause-takes
returns-in-Err-clause-takes g c = λ first bytes h.
    let l = g.L.LineSink in
    part_stopped (rows_to l.gave l.within l.failed) (asked_of c.args.query.now) g.met.L.LineSink.laws c.args.self.now c.add.new.self first c.args.out.now c.take_line.new.out
    bytes c.args.chunk.now c.in-Some.end c.in-Err.fault c.in-Some.ensures c.if-not-add.ensures.after c.in-Err.ensures.takes h
