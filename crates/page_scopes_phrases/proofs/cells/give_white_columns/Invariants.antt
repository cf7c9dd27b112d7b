use Rattle.std.proofs.Common.{drop}
use Rattle.page_scopes_phrases.specs.LineWords.{white_columns}
use Rattle.page_scopes_phrases.proofs.NameLemmas.{OutcomeLeft}
use Rattle.page_scopes_phrases.proofs.cells.give_white_columns.Given as goal

abbrev pub invariant-loop-byte : goal.invariant-loop-byte
invariant-loop-byte g l =
    OutcomeLeft g.O.PieceOut.left l.fn.out (white_columns l.white l.fn.state) (white_columns (drop l.byte-index l.white) l.state) l.out
