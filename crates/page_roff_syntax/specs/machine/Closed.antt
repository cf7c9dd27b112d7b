-- A fast way of the code: which widths of a text have an end, by the characters that are met behind them. Trust needs no reading of it.
use Rattle.std.specs.Prelude.{◌≡◌, ℕ, zero, suc, ◌+◌, ◌-◌, ◌*◌, ◌/◌, ◌%◌, ◌<◌, ◌≤◌, ◌==◌, ◌&&◌, ◌||◌, not, Bool, true, nat_le, nat_lt, List, length, get_or, drop, if◌then◌else◌, false}
use Rattle.std.specs.Int.{bit_at}
use Rattle.page_roff_syntax.specs.Delimiters.{character_len, width_len}

-- the code point of a text's first character
abbrev pub code_of : List ℕ → ℕ
code_of text =
    let first = get_or text 0 0 in
    let second = get_or text 1 0 % 64 in
    let third = get_or text 2 0 % 64 in
    let fourth = get_or text 3 0 % 64 in
    if nat_lt first 0x80 then first
    else (if nat_lt first 0xE0 then first % 32 * 64 + second
    else (if nat_lt first 0xF0 then (first % 16 * 64 + second) * 64 + third
    else ((first % 8 * 64 + second) * 64 + third) * 64 + fourth))

-- whether a byte goes on with a character
abbrev pub goes_on : ℕ → Bool
goes_on byte = nat_le 0x80 byte && nat_lt byte 0xC0

-- whether a text's first character may be noted: its bytes are its own, and the last of them is no backslash (92)
abbrev pub is_noted : List ℕ → Bool
is_noted text = not (goes_on (get_or text 0 0)) && not (get_or text (character_len text - 1) 0 == 92)

-- whether a place is outside pairs: an even number of backslashes is before it
abbrev pub is_outside : ℕ → List ℕ → Bool
is_outside zero text = true
is_outside (suc at) text = if get_or text at 0 == 92 then not (is_outside at text) else true

-- whether a character was met: its bit is set. Of one that has no bit it isn't known.
abbrev pub is_met : List ℕ → ℕ → Bool
is_met words code = nat_le (length words) (code / 64) || bit_at (get_or words (code / 64) 0) (code % 64) == 1

-- what was met stays so
abbrev pub Grows : List ℕ → List ℕ → Type 0
Grows words more = (code : ℕ) → is_met words code ≡ true → is_met more code ≡ true

-- the characters from a place on that are outside pairs were met
abbrev pub AreMet : List ℕ → List ℕ → ℕ → Type 0
AreMet words text at =
    (k : ℕ) → at ≤ k → k < length text → is_noted (drop k text) ≡ true → is_outside k text ≡ true → is_met words (code_of (drop k text)) ≡ true

-- from a place on, what isn't marked is the delimiter of no width that has an end
abbrev pub AreMarked : List ℕ → List ℕ → ℕ → Type 0
AreMarked marks text at = (k : ℕ) → at ≤ k → k < length text → get_or marks k 0 ≡ 0 → width_len (drop k text) ≡ 0

-- ---- Pairs of a backslash and one of two bytes, which most texts lack.

-- a backslash (92) and one of two bytes
abbrev pub is_pair : (first second one other : ℕ) → Bool
is_pair first second one other = first == 92 && (second == one || second == other)

-- whether such a pair begins at a place of a text
abbrev pub pair_at : (one other : ℕ) → List ℕ → ℕ → Bool
pair_at one other text k = is_pair (get_or text k 0) (get_or text (k + 1) 0) one other

-- a text in which no such pair begins at this many places from one on
abbrev pub LacksPairFrom : (at n : ℕ) → (one other : ℕ) → List ℕ → Type 0
LacksPairFrom at n one other text = (k : ℕ) → at ≤ k → k < at + n → pair_at one other text k ≡ false

-- a text without such a pair
abbrev pub LacksPair : (one other : ℕ) → List ℕ → Type 0
LacksPair one other text = (k : ℕ) → k + 1 < length text → pair_at one other text k ≡ false
