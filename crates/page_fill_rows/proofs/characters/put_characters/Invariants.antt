use Rattle.std.proofs.Common.{◌≡◌, IsUtf8, chars}
use Rattle.std.specs.Str.Iter.{chars_rest}
use Rattle.page_core_base.specs.laws.Views.{CameRowsUpTo}
use Rattle.page_fill_rows.specs.laws.Views as shown
use Rattle.page_fill_rows.proofs.characters.put_characters.Given as goal

abbrev pub invariant-loop-c : goal.invariant-loop-c
invariant-loop-c g l =
    CameRowsUpTo g.O.RowOut.left l.fn.out (shown.characters l.output l.fn.row (chars l.text) l.font l.place)
    (shown.characters l.output l.row (chars (chars_rest l.c-iterator)) l.font l.place) l.out
    × ((shown.characters l.output l.row (chars (chars_rest l.c-iterator)) l.font l.place).edge ≡ (shown.characters l.output l.fn.row (chars l.text) l.font l.place).edge)
    × IsUtf8 (chars_rest l.c-iterator)
