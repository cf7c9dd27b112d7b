-- Bytes by their characters, and what a text begins with. Source: ascii(7); roff(7), "Language syntax".
use Rattle.std.specs.Int.{is_in_range}
use Rattle.std.specs.List.{list_any}
use Rattle.std.specs.Prelude.{ℕ, Bool, false, ◌||◌, ◌==◌, List, [], ◌∷◌, codes}
use Prim.Native.String.{String}

-- ---- Bytes.

abbrev pub first_byte : List ℕ → ℕ
first_byte [] = 0
first_byte (byte ∷ bytes) = byte

-- the byte of a character of ASCII, as in `ascii "."`
abbrev pub ascii : String → ℕ
ascii text = first_byte (codes text)

abbrev pub is_among : ℕ → List ℕ → Bool
is_among byte bytes = list_any (λ one. byte == one) bytes

abbrev pub is_digit : ℕ → Bool
is_digit byte = is_in_range (ascii "0") (ascii "9") byte

abbrev pub is_sign : ℕ → Bool
is_sign byte = byte == ascii "+" || byte == ascii "-"

-- a blank or a tab
abbrev pub is_white : ℕ → Bool
is_white byte = byte == ascii " " || byte == ascii "\t"

-- ---- What a text begins with.

abbrev pub begins_sign : List ℕ → Bool
begins_sign [] = false
begins_sign (byte ∷ bytes) = is_sign byte

abbrev pub begins_white : List ℕ → Bool
begins_white [] = false
begins_white (byte ∷ bytes) = is_white byte

abbrev pub begins_escape : List ℕ → Bool
begins_escape [] = false
begins_escape (byte ∷ bytes) = byte == ascii "\\"

abbrev pub begins_quote : List ℕ → Bool
begins_quote [] = false
begins_quote (byte ∷ bytes) = byte == ascii "\""
