use Rattle.std.proofs.Common.{rules, ◌≡◌, refl, arith, ap}
use Rattle.std.proofs.lemmas.Result.{err_from_is_err_and}
use Rattle.page_engine.specs.declared.pages.Phase.TheVariants.{Open}
use Rattle.page_engine.specs.laws.Views.{sinks}
use Rattle.page_engine.proofs.Through.{piece_kept, piece_out, room_inside, room_left, taken_inside}
use Rattle.page_engine.proofs.WholeLines.{consumed_more}
use Rattle.page_engine.proofs.runs.PageRun.feed.Goals as goal

pub returns-then-piece-self-clause-feeds : goal.returns-then-piece-self-clause-feeds
returns-then-piece-self-clause-feeds g c = λ s bytes h few.
    let begun : c.self.inside.phase ≡ Open = search rules in
    let left = room_left c.self.inside.run c.self.inside.bytes_left s bytes (taken_inside c.self.inside.run s bytes c.self.view_is h) (room_inside c.self.inside.run c.self.inside.bytes_left begun c.self.invariant) in
    absurd (omega (arith, left, few))

pub returns-in_err-put_out-clause-feeds : goal.returns-in_err-put_out-clause-feeds
returns-in_err-put_out-clause-feeds g c =
    let r = g.R.RowSink in
    let n = g.N.NoteSink in
    let k = sinks r.gave r.within r.failed n.gave n.within n.failed in
    let p = err_from_is_err_and c.from_residual-in_err-put_out.result c.from_residual-in_err-put_out.ensures.1 in
    rw (p.1, p.2) (λ s bytes h few.
    let f = c.in_ok-take_chunk.ensures.takes.fed s bytes (taken_inside c.self.inside.run s bytes c.self.view_is h) in
    (piece_kept k s bytes c.args.piece.now _ f c.in_err-put_out.ensures.puts, refl))

pub returns-clause-feeds : goal.returns-clause-feeds
returns-clause-feeds g c = λ s bytes h few.
    let r = g.R.RowSink in
    let n = g.N.NoteSink in
    let k = sinks r.gave r.within r.failed n.gave n.within n.failed in
    let f = c.in_ok-take_chunk.ensures.takes.fed s bytes (taken_inside c.self.inside.run s bytes c.self.view_is h) in
    piece_out k g.met.R.RowSink.laws g.met.N.NoteSink.laws s bytes c.args.piece.now f c.in_ok-put_out.ensures.puts

pub returns-in_err-take_chunk-clause-too_long : goal.returns-in_err-take_chunk-clause-too_long
returns-in_err-take_chunk-clause-too_long g c = λ s bytes h more.
    let begun : c.self.inside.phase ≡ Open = search rules in
    let left = room_left c.self.inside.run c.self.inside.bytes_left s bytes (taken_inside c.self.inside.run s bytes c.self.view_is h) (room_inside c.self.inside.run c.self.inside.bytes_left begun c.self.invariant) in
    absurd (omega (arith, left, more))

pub returns-in_err-put_out-clause-too_long : goal.returns-in_err-put_out-clause-too_long
returns-in_err-put_out-clause-too_long g c = λ s bytes h more.
    let begun : c.self.inside.phase ≡ Open = search rules in
    let left = room_left c.self.inside.run c.self.inside.bytes_left s bytes (taken_inside c.self.inside.run s bytes c.self.view_is h) (room_inside c.self.inside.run c.self.inside.bytes_left begun c.self.invariant) in
    absurd (omega (arith, left, more))

pub returns-clause-too_long : goal.returns-clause-too_long
returns-clause-too_long g c = λ s bytes h more.
    let begun : c.self.inside.phase ≡ Open = search rules in
    let left = room_left c.self.inside.run c.self.inside.bytes_left s bytes (taken_inside c.self.inside.run s bytes c.self.view_is h) (room_inside c.self.inside.run c.self.inside.bytes_left begun c.self.invariant) in
    absurd (omega (arith, left, more))

pub invariant_of-self-2 : goal.invariant_of-self-2
invariant_of-self-2 g c =
    let begun : c.self.inside.phase ≡ Open = search rules in
    let room = room_inside c.self.inside.run c.self.inside.bytes_left begun c.self.invariant in
    let t = c.in_ok-take_chunk.ensures.takes in (
      t.free,
      omega (arith, room.1, ap (λ p. p.line.consumed) t.point, consumed_more c.self.inside.run.cutter.point c.args.piece.now),
    )
