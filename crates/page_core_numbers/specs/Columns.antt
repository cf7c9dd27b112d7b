-- What a finished text prints, and the columns of that: mandoc_char(7); roff(7), "Escape sequences"; mandoc(1), -T ascii and -T utf8.
use Rattle.std.specs.Prelude.{ℕ, List, sum_by, ◌/◌, min, ℤ, pos, negsuc, [], replicate, codes, ◌==◌, false, ◌∷◌, if◌then◌else◌, length, encode_utf8, zero, suc, ◌++◌, drop}
use Rattle.std.specs.Str.{chars}
use Rattle.page_core_base.specs.Bytes.{ascii}
use Rattle.page_core_base.specs.declared.page_settings.Output.{Output}
use Rattle.page_core_tables.specs.Glyphs.{char_columns, char_printed, glyph_printed}
use Rattle.page_core_escapes.specs.Meanings as escapes
use Rattle.page_core_escapes.specs.Meanings.{Meaning, escape_of}
use Rattle.page_core_numbers.specs.Expressions.{expression_of}
use Rattle.page_core_numbers.specs.declared.scales.Scale.TheVariants.{Em}

abbrev blank : ℕ
blank = 0x20

-- the columns of characters
abbrev pub characters_columns : List ℕ → ℕ
characters_columns cs = sum_by char_columns cs

-- ---- what is printed

-- the blanks that a number of basic units is worth, one a column, 1000 at most
abbrev pub blanks_in : ℤ → ℕ
blanks_in (pos units) = min (units / 24) 1000
blanks_in (negsuc units) = 0

-- an escape; a tab is a blank
abbrev pub printed_escape : Output → Meaning → List ℕ
printed_escape output (escapes.glyph name) = (glyph_printed output name).characters
printed_escape output (escapes.character c) = (char_printed output c).characters
printed_escape output escapes.tab = codes " "
printed_escape output escapes.blank = codes " "
printed_escape output (escapes.blanks expression) = replicate (blanks_in (expression_of Em expression).value) blank
printed_escape output (escapes.undefined c) = (char_printed output c).characters
printed_escape output _ = []

-- ---- texts

-- what is at a text's front, where the text's characters are known: an escape, or a character
abbrev pub printed_front : Output → List ℕ → List ℕ → List ℕ
printed_front output text [] = []
printed_front output text (c ∷ cs) = if c == ascii "\\" then printed_escape output (escape_of false text).0 else (char_printed output c).characters

-- how many bytes that takes
abbrev pub front_len : List ℕ → List ℕ → ℕ
front_len text [] = 0
front_len text (c ∷ cs) = if c == ascii "\\" then (escape_of false text).1 else length (encode_utf8 c)

-- a text's escapes and characters from left to right; `steps` is above the number of bytes
unfoldable pub printed_within : (steps : ℕ) → Output → List ℕ → List ℕ
printed_within zero output text = []
printed_within (suc steps) output [] = []
printed_within (suc steps) output (b ∷ bs) =
    printed_front output (b ∷ bs) (chars (b ∷ bs)) ++ printed_within steps output (drop (front_len (b ∷ bs) (chars (b ∷ bs))) (b ∷ bs))

-- what a finished text prints
abbrev pub printed_text : Output → List ℕ → List ℕ
printed_text output text = printed_within (suc (length text)) output text

-- the columns of a finished text
abbrev pub columns_of : Output → List ℕ → ℕ
columns_of output text = characters_columns (printed_text output text)
