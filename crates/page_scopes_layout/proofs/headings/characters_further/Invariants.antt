use Rattle.std.proofs.Common.{◌≡◌, IsUtf8, chars}
use Rattle.std.specs.List.{fold}
use Rattle.std.specs.Str.Iter.{chars_rest}
use Rattle.page_core_base.specs.declared.page_settings.Output.TheVariants.{Ascii}
use Rattle.page_scopes_words.specs.Words.{plain_printed}
use Rattle.page_scopes_layout.specs.Headings as headings
use Rattle.page_scopes_layout.proofs.headings.characters_further.Given as goal

abbrev pub invariant-loop-c : goal.invariant-loop-c
invariant-loop-c l =
    IsUtf8 (chars_rest l.c-iterator)
    × (fold headings.character_further l.heading (plain_printed Ascii (chars (chars_rest l.c-iterator)))
    ≡ fold headings.character_further l.fn.start (plain_printed Ascii (chars l.fn.text)))
