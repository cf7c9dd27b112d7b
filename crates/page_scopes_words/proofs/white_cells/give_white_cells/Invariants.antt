use Rattle.std.proofs.Common.{drop}
use Rattle.page_core_base.specs.laws.Views.{CameUpTo}
use Rattle.page_scopes_words.specs.Words.{white_cells}
use Rattle.page_scopes_words.proofs.white_cells.give_white_cells.Given as goal

abbrev pub invariant-loop-byte : goal.invariant-loop-byte
invariant-loop-byte g l = CameUpTo g.O.PieceOut.left l.fn.out (white_cells l.place l.white) (white_cells l.place (drop l.byte-index l.white)) l.out
