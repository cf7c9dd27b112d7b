-- What contracts of the code say by the definitions, and what is proved of these.
use Rattle.std.specs.Prelude.{ℕ, Bool, List, take, drop}
use Rattle.page_core_escapes.specs.Tokens.{token_len}
use Rattle.page_scopes_text.specs.Texts.{Spaced, words_of}

-- the white space at a text's front, and the word after it
abbrev pub spaced_front : Bool → List ℕ → Spaced
spaced_front quoted text =
    record { white = take (token_len quoted text) text; word = (words_of quoted (drop (token_len quoted text) text)).word }
