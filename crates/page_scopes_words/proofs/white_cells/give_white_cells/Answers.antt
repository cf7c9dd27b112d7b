use Rattle.std.proofs.Common.{◌≤◌, length, arith}
use Rattle.page_scopes_words.proofs.RunEndLemmas.{cells_more, cells_none}
use Rattle.page_scopes_words.proofs.white_cells.give_white_cells.Goals as goal

pub loop-byte-preserved : goal.loop-byte-preserved
loop-byte-preserved g c = λ plan rest h.
    let l = c.loop-byte in
    (rw c.white_piece.ensures at c.give.ensures) plan _ (rw (cells_more c.args.place c.args.white.now l.byte-index c.loop-byte-test.true) at (l.invariant plan rest h))

pub returns : goal.returns
returns g c = λ plan rest h.
    let l = c.loop-byte in
    let none : length c.args.white.now ≤ l.byte-index = omega arith in
    rw (cells_none c.args.place c.args.white.now l.byte-index none) at (l.invariant plan rest h)
