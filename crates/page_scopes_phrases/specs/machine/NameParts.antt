-- A machine: what is known of the tokens of a manual's name, so that a name that is printed again is not read anew (`ManualName`).
use Rattle.std.specs.Prelude.{◌≡◌, ℕ, Bool, true, false, ◌==◌, List, [], length, map, replicate, if◌then◌else◌}
use Rattle.page_core_base.specs.Rows.{Item, shown}
use Rattle.page_core_base.specs.declared.cells.Font.{Font}
use Rattle.page_core_base.specs.declared.pieces.Piece.TheVariants.{Text}
use Rattle.page_core_base.specs.declared.places.Place.{Place}
use Rattle.page_core_escapes.specs.Meanings as meanings
use Rattle.page_core_escapes.specs.Meanings.{Meaning}
use Rattle.page_core_escapes.specs.Tokens.{TextToken, white, plain, quotes, escaped, token_bytes, tokens_of}
use Rattle.page_scopes_phrases.specs.Names.{prints_cell}
use Rattle.page_scopes_phrases.specs.declared.kept_names.Known.{Known}
use Rattle.page_scopes_phrases.specs.declared.kept_names.Known.TheVariants.{Blanks, Nothing, White, Plain, Unread}
use Rattle.page_scopes_phrases.specs.declared.kept_names.NamePart.{NamePart}
use Rattle.page_scopes_words.specs.Words.{blank_count}

-- what an escape prints, and a token, as far as it is known: its blanks, where it is a `\h`, or nothing, or what prints as it is written
abbrev pub meaning_known : Meaning → Known
meaning_known (meanings.blanks expression) = Blanks (blank_count expression)
meaning_known meanings.nothing = Nothing
meaning_known meanings.glue = Nothing
meaning_known meanings.unsupported = Nothing
meaning_known meanings.bad = Nothing
meaning_known _ = Unread

abbrev pub token_known : TextToken → Known
token_known (white bytes) = White
token_known (plain bytes) = Plain
token_known (quotes bytes) = Unread
token_known (escaped bytes meaning) = meaning_known meaning

abbrev pub part_of : TextToken → NamePart
part_of token = record { len = length (token_bytes token); known = token_known token }

abbrev pub parts_of : List ℕ → List NamePart
parts_of text = map part_of (tokens_of false text)

-- texts of blanks next to one another, with as many blanks each
abbrev pub blank_texts : ℕ → ℕ → Font → Place → List Item
blank_texts count times font place = if count == 0 then [] else replicate times (shown (Text (replicate count 32) font place))

-- what is held is what a reading of the text says
pub record IsRead (text : List ℕ) (parts : List NamePart) (prints_filled prints_literal : Bool) : Type 0 where
  pub known : parts ≡ parts_of text
  pub filled : prints_filled ≡ prints_cell false (tokens_of false text)
  pub literal : prints_literal ≡ prints_cell true (tokens_of false text)
