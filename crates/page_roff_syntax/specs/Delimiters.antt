-- The end of a text, and texts between delimiters. Source: roff(7), "Language syntax".
use Rattle.std.specs.List.{starts_with}
use Rattle.std.specs.Option.{option_map_or}
use Rattle.std.specs.Prelude.{ℕ, ◌+◌, Bool, ◌==◌, ◌&&◌, List, [], ◌∷◌, Option, None, Some, if◌then◌else◌, take, min, length, nat_eq, nat_lt, drop}
use Rattle.std.specs.Str.{continuation_len}
use Rattle.page_core_base.specs.Bytes.{ascii, begins_escape}

-- ---- The end of a text.

-- the bytes up to those at a text's end of which something holds
abbrev pub kept_len : (ℕ → Bool) → List ℕ → ℕ
kept_len drops [] = 0
kept_len drops (byte ∷ bytes) = if kept_len drops bytes == 0 && drops byte then 0 else 1 + kept_len drops bytes

-- a text without those bytes
abbrev pub kept : (ℕ → Bool) → List ℕ → List ℕ
kept drops text = take (kept_len drops text) text

-- ---- Texts between delimiters. Source: roff(7), "Conditional expressions" and "Escape sequences", `\w`.

-- the bytes of a text's first character, of which the first says how many there are
abbrev pub character_len : List ℕ → ℕ
character_len [] = 0
character_len (byte ∷ bytes) = min (continuation_len byte + 1) (length (byte ∷ bytes))

-- a delimiter is a character
abbrev pub delimiter_of : List ℕ → List ℕ
delimiter_of text = take (character_len text) text

-- The bytes before the delimiter's next occurrence, where a backslash and its next byte are a pair; all of
-- them where there is none.
abbrev pub place_of : List ℕ → List ℕ → ℕ
place_of delimiter [] = 0
place_of delimiter (byte ∷ []) = if starts_with nat_eq (byte ∷ []) delimiter then 0 else 1
place_of delimiter (byte ∷ next ∷ bytes) =
    if starts_with nat_eq (byte ∷ next ∷ bytes) delimiter then 0
    else if byte == ascii "\\" then 2 + place_of delimiter bytes
    else 1 + place_of delimiter (next ∷ bytes)

-- how many bytes are before a delimiter's next occurrence outside pairs; none where there is none
abbrev pub content_len : (delimiter : List ℕ) → List ℕ → Option ℕ
content_len delimiter text = let place = place_of delimiter text in if nat_lt place (length text) then Some place else None

-- What is between a width's delimiters, of which the first character is one; none where the second is missing. A backslash begins a
-- pair, so it is none.
unfoldable pub width_content_len : List ℕ → Option ℕ
width_content_len text = if begins_escape text then None else content_len (delimiter_of text) (drop (character_len text) text)

-- the bytes of a width with its delimiters; 0 where the second is missing
abbrev pub width_len : List ℕ → ℕ
width_len text = option_map_or (λ n. character_len text + n + character_len text) (width_content_len text) 0
