use Rattle.std.proofs.Common.{IsUtf8, chars}
use Rattle.std.specs.Str.Iter.{chars_rest}
use Rattle.page_core_base.specs.laws.Views.{CameUpTo}
use Rattle.page_scopes_words.specs.Words.{plain_printed}
use Rattle.page_engine_header.specs.Header.{in_font}
use Rattle.page_engine_header.proofs.printing.give_plain.Given as goal

abbrev pub invariant-loop-c : goal.invariant-loop-c
invariant-loop-c g l =
    CameUpTo g.O.PieceOut.left l.fn.out (in_font l.font l.place (plain_printed l.output (chars l.text)))
    (in_font l.font l.place (plain_printed l.output (chars (chars_rest l.c-iterator)))) l.out
    × IsUtf8 (chars_rest l.c-iterator)
