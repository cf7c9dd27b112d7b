-- The tokens of a text: white space, runs of characters that print themselves, quotes in a quoted argument, and escapes.
-- Source: roff(7), "LANGUAGE SYNTAX", "Macro syntax" and "ESCAPE SEQUENCES".
use Rattle.std.specs.List.{prefix_len}
use Rattle.std.specs.Prelude.{ℕ, List, Bool, true, false, ◌==◌, ◌||◌, not, ◌&&◌, [], ◌∷◌, take, if◌then◌else◌, length, zero, suc, ◌-◌, drop, ◌+◌}
use Rattle.page_core_base.specs.Bytes.{ascii, is_white, begins_white, begins_escape, begins_quote}
use Rattle.page_core_escapes.specs.Meanings.{Meaning, escape_of}

pub data TextToken : Type 0 where
  -- blanks and tabs
  white : List ℕ → TextToken
  -- characters that print themselves
  plain : List ℕ → TextToken
  -- two quotes in a quoted argument, which print one
  quotes : List ℕ → TextToken
  -- an escape as it is written, and what it means
  escaped : List ℕ → Meaning → TextToken

-- a token as it is written
abbrev pub token_bytes : TextToken → List ℕ
token_bytes (white bytes) = bytes
token_bytes (plain bytes) = bytes
token_bytes (quotes bytes) = bytes
token_bytes (escaped bytes meaning) = bytes

abbrev pub is_space : TextToken → Bool
is_space (white bytes) = true
is_space _ = false

-- neither white space nor a backslash, and in a quoted argument no quote
abbrev pub prints_itself : Bool → ℕ → Bool
prints_itself quoted byte = not (is_white byte || (byte == ascii "\\" || (quoted && byte == ascii "\"")))

-- the token at a text's front
unfoldable pub token_at : Bool → List ℕ → TextToken
token_at quoted text =
    if begins_white text then white (take (prefix_len is_white text) text)
    else if begins_escape text then escaped (take (escape_of quoted text).1 text) (escape_of quoted text).0
    else if quoted && begins_quote text then quotes (take 2 text)
    else plain (take (prefix_len (prints_itself quoted) text) text)

abbrev pub token_len : Bool → List ℕ → ℕ
token_len quoted text = length (token_bytes (token_at quoted text))

-- at most n tokens of a text; each has a byte
abbrev pub tokens_within : Bool → ℕ → List ℕ → List TextToken
tokens_within quoted zero text = []
tokens_within quoted (suc n) [] = []
tokens_within quoted (suc n) (byte ∷ bytes) =
    token_at quoted (byte ∷ bytes) ∷ tokens_within quoted n (drop (token_len quoted (byte ∷ bytes) - 1) bytes)

-- all tokens: a text has no more of them than bytes
unfoldable pub tokens_of : Bool → List ℕ → List TextToken
tokens_of quoted text = tokens_within quoted (length text) text

-- how many bytes tokens have
abbrev pub tokens_len : List TextToken → ℕ
tokens_len [] = 0
tokens_len (token ∷ tokens) = length (token_bytes token) + tokens_len tokens
