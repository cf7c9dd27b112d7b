use Rattle.std.proofs.Common.{drop}
use Rattle.page_core_base.specs.laws.Views.{CameUpTo}
use Rattle.page_engine_header.specs.Header.{in_font}
use Rattle.page_engine_header.proofs.run_outs.give_each.Given as goal

abbrev pub invariant-loop-byte : goal.invariant-loop-byte
invariant-loop-byte g l =
    CameUpTo g.O.PieceOut.left l.fn.out (in_font l.font l.place l.text) (in_font l.font l.place (drop l.byte-index l.text)) l.out
