-- What contracts of the code say by the definitions, and what is proved of these.
use Rattle.std.specs.Prelude.{List, [], ◌∷◌, false, ◌≤◌, length}
use Rattle.page_core_escapes.specs.Tokens.{TextToken, tokens_of}
use Rattle.page_scopes_words.specs.Fonts.{token_fonts}
use Rattle.page_scopes_words.specs.declared.fonts.Fonts.{Fonts}
use Rattle.page_engine_header.specs.Header.{name_tokens}
use Rattle.page_engine_header.specs.declared.parts.Part.{Part}
use Rattle.page_engine_header.specs.declared.parts.Part.TheVariants.{Name, Text}

-- the fonts after tokens
abbrev pub fonts_after : Fonts → List TextToken → Fonts
fonts_after fonts [] = fonts
fonts_after fonts (token ∷ tokens) = fonts_after (token_fonts token fonts) tokens

abbrev pub part_tokens : Part → List TextToken
part_tokens (Name title section) = name_tokens title.now section.now
part_tokens (Text text) = tokens_of false text.now

-- fields have at most 256 bytes
abbrev pub IsShort : Part → Type 0
IsShort (Name title section) = (length title.now ≤ 256) × (length section.now ≤ 256)
IsShort (Text text) = length text.now ≤ 256
