use Rattle.std.proofs.Common.{◌+◌, ◌≤◌, length, drop, get_or, sym, arith}
use Rattle.std.proofs.lemmas.List.{drop_all, drop_more}
use Rattle.page_scopes_phrases.specs.LineWords.{white_columns}
use Rattle.page_scopes_phrases.proofs.NameLemmas.{white-goes-on}
use Rattle.page_scopes_phrases.proofs.cells.give_white_columns.Goals as goal

pub loop-byte-preserved : goal.loop-byte-preserved
loop-byte-preserved g c =
    let l = c.loop-byte in
    let white = c.args.white.now in
    let n = c.give_white_byte.new in
    white-goes-on g.O.PieceOut.left c.args.out.now (white_columns white c.args.state.now) (get_or white l.byte-index 0) (drop (l.byte-index + 1) white)
    l.state n.state l.out n.out (rw (drop_more white l.byte-index 0 c.loop-byte-test.true) at l.invariant) c.give_white_byte.ensures

pub returns : goal.returns
returns g c =
    let l = c.loop-byte in
    let white = c.args.white.now in
    let none : length white ≤ l.byte-index = omega arith in
    let left = rw (drop_all l.byte-index white none) at l.invariant in
    record { came = left.came; state = sym left.state }
