-- The names of the values of options. Source: mandoc(1), -K, -m, -T and -W.
use Rattle.std.specs.Prelude.{ℕ, List, [], ◌∷◌, Option, option_map, find, codes}
use Rattle.std.specs.Str.{bytes_eq}
use Rattle.page_core_base.specs.declared.note_kinds.Level.{Level}
use Rattle.page_core_base.specs.declared.note_kinds.Level.TheVariants as level
use Rattle.page_core_base.specs.declared.page_settings.Output.{Output}
use Rattle.page_core_base.specs.declared.page_settings.Output.TheVariants as output
use Rattle.page_core_base.specs.declared.page_settings.Encoding.{Encoding}
use Rattle.page_core_base.specs.declared.page_settings.Encoding.TheVariants as encoding
use Rattle.page_core_base.specs.declared.page_settings.Language.{Language}
use Rattle.page_core_base.specs.declared.page_settings.Language.TheVariants as language

-- the bytes of a text
abbrev pub Text : Type 0
Text = List ℕ

-- what a table of names has for a name
abbrev pub named : {X : Type 0} → List (Text × X) → Text → Option X
named table name = option_map (λ row. row.1) (find (λ row. bytes_eq name row.0) table)

-- mandoc(1), -T
abbrev pub outputs : List (Text × Output)
outputs = (codes "ascii", output.Ascii) ∷ (codes "utf8", output.Utf8) ∷ (codes "lint", output.Lint) ∷ []

-- mandoc(1), -W: the least level of the messages that are given
abbrev pub levels : List (Text × Level)
levels = (codes "base", level.Base) ∷ (codes "style", level.Style) ∷ (codes "warning", level.Warning)
    ∷ (codes "error", level.Error) ∷ (codes "unsupp", level.Unsupp) ∷ (codes "all", level.Base) ∷ []

-- mandoc(1), -K
abbrev pub encodings : List (Text × Encoding)
encodings = (codes "us-ascii", encoding.Ascii) ∷ (codes "iso-8859-1", encoding.Latin1)
    ∷ (codes "utf-8", encoding.Utf8) ∷ []

-- mandoc(1), -m
abbrev pub languages : List (Text × Language)
languages = (codes "doc", language.Mdoc) ∷ (codes "an", language.Man) ∷ (codes "andoc", language.Auto) ∷ []

unfoldable pub output_named : Text → Option Output
output_named = named outputs

unfoldable pub level_named : Text → Option Level
level_named = named levels

unfoldable pub encoding_named : Text → Option Encoding
encoding_named = named encodings

unfoldable pub language_named : Text → Option Language
language_named = named languages
