use Rattle.std.proofs.Common.{◌≡◌, ℕ, List, ◌++◌, IsUtf8, chars, encode_utf8, sym, ◌∙◌}
use Rattle.std.specs.List.{fold}
use Rattle.std.proofs.lemmas.List.Sums.{fold-append}
use Rattle.std.proofs.lemmas.Str.{IsUtf8-past_char, chars_past_char}
use Rattle.std.proofs.StrCases.{chars_of_empty}
use Rattle.page_core_base.specs.declared.page_settings.Output.TheVariants.{Ascii}
use Rattle.page_core_tables.specs.Glyphs.{char_printed}
use Rattle.page_scopes_words.specs.Words.{plain_printed}
use Rattle.page_scopes_layout.specs.Headings.{character_further}
use Rattle.page_scopes_layout.specs.declared.headings.HeadingSoFar.{HeadingSoFar}
use Rattle.page_scopes_layout.proofs.headings.characters_further.Goals as goal

further : (h : HeadingSoFar) (text rest : List ℕ) (c : ℕ) → IsUtf8 text → text ≡ encode_utf8 c ++ rest
    → fold character_further h (plain_printed Ascii (chars text))
    ≡ fold character_further (fold character_further h (char_printed Ascii c).characters) (plain_printed Ascii (chars rest))
further h text rest c u is =
    rw (chars_past_char text rest c u is) (fold-append character_further h (char_printed Ascii c).characters (plain_printed Ascii (chars rest)))

pub loop-c-preserved : goal.loop-c-preserved
loop-c-preserved c =
    let held = c.loop-c.invariant in
    let parts = c.in-Some.ensures.steps.0 in (
      IsUtf8-past_char _ _ c.in-Some.c held.0 parts,
      rw (c.printed_further-heading.ensures, c.printed_char.ensures.value)
          (sym (further c.loop-c.heading _ _ c.in-Some.c held.0 parts) ∙ held.1),
    )

pub returns : goal.returns
returns c = rw (chars_of_empty _ c.in-None.ensures.steps.0.0) at c.loop-c.invariant.1
