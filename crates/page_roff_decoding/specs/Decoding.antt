-- The text of a line decoded from its bytes, and the messages about it. Source: mandoc(1), -K.
use Rattle.std.specs.Char.{digit_char}
use Rattle.std.specs.Int.{is_in_range}
use Rattle.std.specs.Prelude.{ℕ, Bool, ◌==◌, ◌||◌, if◌then◌else◌, ◌&&◌, List, slice_index, ◌+◌, ◌/◌, ◌%◌, [], ◌∷◌, nat_lt, take, ◌-◌, zero, suc, ◌++◌, nat_le, length, codes}
use Rattle.page_core_base.specs.Bytes.{ascii}
use Rattle.page_core_base.specs.Limits.{LINE, name_of}
use Rattle.page_core_base.specs.Messages.{Message}
use Rattle.page_core_base.specs.declared.limits.Limit.TheVariants.{Line as LineLimit}
use Rattle.page_core_base.specs.declared.note_kinds.NoteKind.TheVariants.{BadChar, Limit}
use Rattle.page_core_base.specs.declared.page_settings.Encoding.{Encoding}
use Rattle.page_core_base.specs.declared.page_settings.Encoding.TheVariants.{Auto, Latin1, Utf8}

-- ---- The limit of a line.

-- the bytes that are kept of a logical line, and those of a decoded one, at most
unfoldable pub line_limit : ℕ
line_limit = LINE

-- ---- The characters of a line's bytes. Source: mandoc(1), -K.

-- the byte may be a later one of a UTF-8 sequence
abbrev pub is_later : ℕ → Bool
is_later b = is_in_range 0x80 0xBF b

-- the byte may be the second one after this first one (Unicode, table 3-7), of a character of U+00A0 or above
unfoldable pub is_second : ℕ → ℕ → Bool
is_second x y =
    if x == 0xC2 || x == 0xE0 then is_in_range 0xA0 0xBF y
    else (if x == 0xED then is_in_range 0x80 0x9F y
    else (if x == 0xF0 then is_in_range 0x90 0xBF y
    else (if x == 0xF4 then is_in_range 0x80 0x8F y else is_later y)))

-- how many bytes the well-formed UTF-8 sequence of a character of U+00A0 or above takes at the front;
-- 0 where none does
unfoldable pub sequence_length : List ℕ → ℕ
sequence_length text =
    let x = slice_index text 0 in
    if is_second x (slice_index text 1) then
    (if is_in_range 0xC2 0xDF x then 2
    else (if is_in_range 0xE0 0xEF x && is_later (slice_index text 2) then 3
    else (if is_in_range 0xF0 0xF4 x && (is_later (slice_index text 2) && is_later (slice_index text 3))
    then 4 else 0)))
    else 0

-- a character of a line, as UTF-8; or a byte that is none
pub data Character : Type 0 where
  good : List ℕ → Character
  bad : ℕ → Character

-- the byte is a character of a line by itself: a printable one of ASCII, or a tab
abbrev pub is_printable : ℕ → Bool
is_printable b = is_in_range (ascii " ") (ascii "~") b || b == ascii "\t"

-- U+00A0 to U+00FF in UTF-8
abbrev pub latin1_bytes : ℕ → List ℕ
latin1_bytes b = (192 + b / 64) ∷ (128 + b % 64) ∷ []

-- the character at the front of these bytes, of which the first is above 0x7F
unfoldable pub high_character : Encoding → ℕ → List ℕ → Character
high_character Utf8 b text =
    if sequence_length text == 0 then bad b else good (take (sequence_length text) text)
high_character Latin1 b text = if nat_lt b 160 then bad b else good (latin1_bytes b)
high_character _ b text = bad b

-- the character at the front of these bytes, of which the first is b
unfoldable pub character : Encoding → ℕ → List ℕ → Character
character e b text =
    if is_printable b then good (b ∷ []) else (if nat_lt b 128 then bad b else high_character e b text)

-- how many bytes after the first belong to it, where the first is above 0x7F, and where it is b
unfoldable pub high_later_length : Encoding → List ℕ → ℕ
high_later_length Utf8 text = sequence_length text - 1
high_later_length _ text = 0

unfoldable pub later_length : Encoding → ℕ → List ℕ → ℕ
later_length e b text = if nat_lt b 128 then 0 else high_later_length e text

-- the characters after this many bytes, which belong to the one before
unfoldable pub characters_after : Encoding → ℕ → List ℕ → List Character
characters_after e n [] = []
characters_after e (suc n) (b ∷ bs) = characters_after e n bs
characters_after e zero (b ∷ bs) = character e b (b ∷ bs) ∷ characters_after e (later_length e b (b ∷ bs)) bs

abbrev pub characters : Encoding → List ℕ → List Character
characters e text = characters_after e 0 text

-- the bytes that a character has in the decoded line: a byte that is none becomes a question mark
abbrev pub bytes_of : Character → List ℕ
bytes_of (good bytes) = bytes
bytes_of (bad b) = codes "?"

abbrev pub all_bytes : List Character → List ℕ
all_bytes [] = []
all_bytes (c ∷ cs) = bytes_of c ++ all_bytes cs

-- ---- The text of a line decoded, and the messages about it. Source: mandoc(1), -K.

-- the first characters that fit into this many bytes
unfoldable pub characters_within : ℕ → List Character → List Character
characters_within room [] = []
characters_within room (c ∷ cs) =
    if nat_le (length (bytes_of c)) room then c ∷ characters_within (room - length (bytes_of c)) cs else []

-- the characters of a text that a line has room for
abbrev pub line_characters : Encoding → List ℕ → List Character
line_characters e text = characters_within line_limit (characters e text)

-- the message about a byte that is no character
abbrev pub bad_character : ℕ → ℕ → ℕ → Message
bad_character number column b =
    record {
      kind = BadChar;
      line = number;
      column = column;
      detail = codes "0x" ++ digit_char (b / 16) ∷ digit_char (b % 16) ∷ [];
    }

-- those about a character that is at this column
abbrev pub notes_of : ℕ → ℕ → Character → List Message
notes_of number column (good bytes) = []
notes_of number column (bad b) = bad_character number column b ∷ []

-- those about a list of characters, of which the first is at this column
unfoldable pub bad_notes : ℕ → ℕ → List Character → List Message
bad_notes number column [] = []
bad_notes number column (c ∷ cs) =
    notes_of number column c ++ bad_notes number (column + length (bytes_of c)) cs

abbrev pub limit_notes : Bool → ℕ → List Message
limit_notes cut number = if cut then record { kind = Limit; line = number; column = 1; detail = name_of LineLimit } ∷ [] else []

-- what the first byte above 0x7F of a text decides; none decides nothing
unfoldable pub choice_of : List ℕ → Encoding
choice_of [] = Auto
choice_of (b ∷ bs) =
    if nat_lt b 128 then choice_of bs else (if sequence_length (b ∷ bs) == 0 then Latin1 else Utf8)
