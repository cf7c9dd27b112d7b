use Rattle.std.proofs.Common.{◌≡◌, IsUtf8, chars}
use Rattle.std.specs.Str.Iter.{chars_rest}
use Rattle.page_core_base.specs.declared.page_settings.Output.TheVariants.{Ascii}
use Rattle.page_scopes_words.specs.Words.{plain_printed}
use Rattle.page_engine_records.specs.machine.NameTexts.{with_characters}
use Rattle.page_engine_records.proofs.name_readers.NameReader.take_text.Given as goal

abbrev pub invariant-loop-c : goal.invariant-loop-c
invariant-loop-c l =
    (with_characters l.self (plain_printed Ascii (chars (chars_rest l.c-iterator))) ≡ with_characters l.fn.self (plain_printed Ascii (chars l.text)))
    × IsUtf8 (chars_rest l.c-iterator)
