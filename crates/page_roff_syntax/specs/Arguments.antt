-- The arguments of a control line. Source: roff(7), "Macro syntax".
use Rattle.std.specs.List.{prefix_len}
use Rattle.std.specs.Prelude.{ℕ, Bool, ◌==◌, ◌+◌, List, [], ◌∷◌, if◌then◌else◌, nat_lt, length, true, false, take, drop, min, zero, suc}
use Rattle.page_core_base.specs.Bytes.{ascii, begins_quote}
use Rattle.page_core_base.specs.Limits.{NAME}
use Rattle.page_core_base.specs.Texts.{unpaired}
use Rattle.page_roff_syntax.specs.declared.quotes.Argument.{Argument}
use Rattle.page_roff_syntax.specs.declared.quotes.Quoting.{Quoting}
use Rattle.page_roff_syntax.specs.declared.quotes.Quoting.TheVariants.{Closed, Unclosed, Bare}

-- blanks part arguments, tabs do not
abbrev pub is_blank : ℕ → Bool
is_blank byte = byte == ascii " "

-- the blanks at a text's front, and what is after them
abbrev pub blank_len : List ℕ → ℕ
blank_len text = prefix_len is_blank text

abbrev pub after_blanks : List ℕ → List ℕ
after_blanks text = drop (blank_len text) text

-- an argument without quotes goes up to a blank; a backslash keeps its next byte
abbrev pub bare_len : List ℕ → ℕ
bare_len [] = 0
bare_len (byte ∷ []) = if is_blank byte then 0 else 1
bare_len (byte ∷ next ∷ bytes) =
    if is_blank byte then 0
    else if byte == ascii "\\" then 2 + bare_len bytes
    else 1 + bare_len (next ∷ bytes)

-- after its first quote a quoted argument goes up to the next lone quote or the end; a pair of quotes is no end, and a backslash
-- keeps its next byte here, too
abbrev pub quoted_len : List ℕ → ℕ
quoted_len [] = 0
quoted_len (byte ∷ []) = if byte == ascii "\"" then 0 else 1
quoted_len (byte ∷ next ∷ bytes) =
    if byte == ascii "\"" then (if next == ascii "\"" then 2 + quoted_len bytes else 0)
    else if byte == ascii "\\" then 2 + quoted_len bytes
    else 1 + quoted_len (next ∷ bytes)

-- whether it has its last quote
abbrev pub quoting_of : List ℕ → Quoting
quoting_of inner = if nat_lt (quoted_len inner) (length inner) then Closed else Unclosed

-- whether it is quoted
abbrev pub is_quoted : Quoting → Bool
is_quoted Bare = false
is_quoted _ = true

-- the column is that of the text, which may follow a quote
abbrev pub quoted_argument : ℕ → List ℕ → Argument (List ℕ)
quoted_argument column inner =
    record { text = take (quoted_len inner) inner; column = column + 1; quoting = quoting_of inner }

-- what an argument says
abbrev pub argument_value : Argument (List ℕ) → List ℕ
argument_value argument = if is_quoted argument.quoting then unpaired argument.text else argument.text

-- one byte beyond the limit of names
abbrev pub NAME_ROOM : ℕ
NAME_ROOM = NAME + 1

-- the name that an argument is, up to so many bytes: a longer one is refused, whatever its other bytes are
abbrev pub argument_name : Argument (List ℕ) → List ℕ
argument_name argument = take NAME_ROOM (argument_value argument)

abbrev pub bare_argument : ℕ → List ℕ → Argument (List ℕ)
bare_argument column text = record { text = take (bare_len text) text; column = column; quoting = Bare }

-- the argument that a text begins with, and its bytes with its quotes
abbrev pub first_argument : ℕ → List ℕ → Argument (List ℕ)
first_argument column text =
    if begins_quote text then quoted_argument column (drop 1 text) else bare_argument column text

abbrev pub argument_len : List ℕ → ℕ
argument_len text =
    if begins_quote text then min (length text) (quoted_len (drop 1 text) + 2) else bare_len text

-- the arguments of a text, of which the first byte is at a column; at most n parts of it are read
abbrev pub first_arguments : ℕ → ℕ → List ℕ → List (Argument (List ℕ))
first_arguments zero column text = []
first_arguments (suc n) column [] = []
first_arguments (suc n) column (byte ∷ bytes) =
    if is_blank byte then first_arguments n (column + 1) bytes
    else
    first_argument column (byte ∷ bytes)
    ∷ first_arguments n (column + argument_len (byte ∷ bytes)) (drop (argument_len (byte ∷ bytes)) (byte ∷ bytes))

-- all of them: a text has no more parts than bytes
unfoldable pub arguments : ℕ → List ℕ → List (Argument (List ℕ))
arguments column text = first_arguments (length text) column text

abbrev pub has_arguments : List ℕ → Bool
has_arguments rest = nat_lt (blank_len rest) (length rest)
