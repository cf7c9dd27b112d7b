use Rattle.std.proofs.Common.{◌≡◌, ◌≤◌, ◌+◌, ◌*◌, IsUtf8, chars, length}
use Rattle.std.specs.Str.Iter.{chars_rest}
use Rattle.page_core_numbers.specs.Columns.{characters_columns}
use Rattle.page_scopes_words.specs.Words.{plain_printed}
use Rattle.page_engine_header.proofs.printing.plain_columns.Given as goal

abbrev pub invariant-loop-c : goal.invariant-loop-c
invariant-loop-c l =
    (l.sum + characters_columns (plain_printed l.output (chars (chars_rest l.c-iterator))) ≡ characters_columns (plain_printed l.output (chars l.text)))
    × IsUtf8 (chars_rest l.c-iterator)
    × (l.sum + 24 * length (chars (chars_rest l.c-iterator)) ≤ 24 * length (chars l.text))
