use Rattle.page_roff_source.specs.laws.Views.{given_of}
use Rattle.page_core_base.specs.laws.Views.{line_view}
use Rattle.page_engine_lines.specs.machine.Given.{given_items, body_after}
use Rattle.page_engine_lines.proofs.BodySharedLemmas.{taken_shorter, same_but_taken, body_taken, body_done, items_taken, items_done}
use Rattle.page_engine_lines.proofs.taking.give_taken.Goals as goal

pub loop-taken-smaller : goal.loop-taken-smaller
loop-taken-smaller g c =
    taken_shorter c.loop-taken.roff.edge c.take_into.follows.lender-at-none.edge (line_view c.in-Some.taken) c.take_into.follows.holds-at-none c.in-Some.ensures.line

pub loop-taken-preserved : goal.loop-taken-preserved
loop-taken-preserved g c =
    let e = c.loop-taken.roff.edge in
    let f = c.take_into.follows.lender-at-none.edge in
    let line = line_view c.in-Some.taken in
    let p = c.loop-taken.body in
    let i = c.loop-taken.invariant in
    let s = c.in-Some.ensures in (
      items_taken g.L.PieceOut.left p e f line c.give_made.new.body (given_items c.args.body.now (given_of c.args.roff.now.edge))
          c.take_into.follows.holds-at-none s.line c.give_made.ensures.after i.0 s.came c.give_made.ensures.came,
      body_taken p e line c.give_made.new.body f (body_after c.args.body.now (given_of c.args.roff.now.edge)) c.take_into.follows.holds-at-none s.line c.give_made.ensures.after i.1,
      same_but_taken c.args.roff.now.edge e f c.take_into.follows.holds-at-none i.2,
    )

pub returns-clause-came : goal.returns-clause-came
returns-clause-came g c =
    let s = c.in_default.ensures in
    items_done g.L.PieceOut.left c.loop-taken.body c.loop-taken.roff.edge (given_items c.args.body.now (given_of c.args.roff.now.edge)) s.line c.loop-taken.invariant.0 s.came

pub returns-clause-body : goal.returns-clause-body
returns-clause-body g c =
    body_done c.loop-taken.body c.loop-taken.roff.edge (body_after c.args.body.now (given_of c.args.roff.now.edge)) c.in_default.ensures.line c.loop-taken.invariant.1

pub give_made-requires : goal.give_made-requires
give_made-requires g c = c.in-Some.ensures.text
