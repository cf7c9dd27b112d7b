use Rattle.std.proofs.Common.{◌-◌}
use Rattle.page_core_base.specs.laws.Views.{CameUpTo}
use Rattle.page_scopes_words.specs.Words.{blank_cells}
use Rattle.page_scopes_words.proofs.tokens.give_blank_cells.Given as goal

abbrev pub invariant-loop-i : goal.invariant-loop-i
invariant-loop-i g l = CameUpTo g.O.PieceOut.left l.fn.out (blank_cells l.count l.font l.place) (blank_cells (l.count - l._i) l.font l.place) l.out
