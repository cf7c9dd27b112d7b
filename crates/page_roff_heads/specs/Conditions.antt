-- The condition of a conditional, as it is written. Source: roff(7), "Conditionals".
use Rattle.std.specs.List.{prefix_len}
use Rattle.std.specs.Prelude.{ℕ, List, drop, Bool, false, ◌==◌, ◌&&◌, [], ◌∷◌, true, not, if◌then◌else◌, Option, Some, None, ◌+◌, zero, suc, ◌||◌, codes, take, length, nat_lt, ◌%◌}
use Rattle.std.specs.Int.{is_in_range}
use Rattle.page_core_base.specs.Bytes.{is_white, ascii, is_among, is_digit}
use Rattle.page_roff_syntax.specs.Arguments.{blank_len, after_blanks}
use Rattle.page_roff_syntax.specs.Delimiters.{width_len, place_of, character_len, delimiter_of}
use Rattle.page_roff_syntax.specs.LineForms.{begins_comment, is_name}
use Rattle.page_roff_heads.specs.declared.conditions.Condition.{Condition}
use Rattle.page_roff_heads.specs.declared.conditions.ConditionKind.{ConditionKind}
use Rattle.page_roff_heads.specs.declared.conditions.ConditionKind.TheVariants.{True, False, Defined, Register, Expression, Letter, Delimiter}
use Rattle.page_roff_heads.specs.declared.conditions.Test.{Test}
use Rattle.page_roff_heads.specs.declared.conditions.Test.TheVariants as tests
use Rattle.page_roff_heads.specs.declared.conditions.TestRead.{TestRead}
use Rattle.page_roff_heads.specs.declared.texts.Placed.{Placed}

-- ---- Texts at their places in a line. Source: roff(7), "LANGUAGE SYNTAX".

abbrev pub placed : ℕ → List ℕ → Placed (List ℕ)
placed column text = record { text = text; column = column }

-- a text begins with the pair of a backslash and this byte
abbrev pub begins_pair : ℕ → List ℕ → Bool
begins_pair key (byte ∷ next ∷ bytes) = byte == ascii "\\" && next == key
begins_pair key _ = false

-- it is a line of its own: neither empty nor a comment
abbrev pub is_some_line : List ℕ → Bool
is_some_line [] = false
is_some_line (byte ∷ []) = true
is_some_line (byte ∷ next ∷ bytes) = not (byte == ascii "\\" && begins_comment next)

-- A remainder loses its blanks. It is a line unless it is empty or a comment.
abbrev pub remainder_at : ℕ → List ℕ → Option (Placed (List ℕ))
remainder_at column text = if is_some_line text then Some (placed column text) else None

unfoldable pub remainder_of : ℕ → List ℕ → Option (Placed (List ℕ))
remainder_of column text = remainder_at (column + blank_len text) (after_blanks text)

-- ---- What ends an expression. Source: roff(7), "Conditional expressions" and "Escape sequences".

-- the argument of the escape \w, after its letter
abbrev pub argument_len : ℕ → List ℕ → ℕ
argument_len letter text = if letter == ascii "w" then width_len text else 0

-- An expression goes up to a blank, a tab or \{. This many bytes at its front belong to the argument of a \w.
abbrev pub expression_rest : ℕ → List ℕ → ℕ
expression_rest zero [] = 0
expression_rest zero (byte ∷ []) = if is_white byte then 0 else 1
expression_rest zero (byte ∷ next ∷ bytes) =
    if is_white byte then 0
    else if byte == ascii "\\" then (if next == ascii "{" then 0 else 2 + expression_rest (argument_len next bytes) bytes)
    else 1 + expression_rest zero (next ∷ bytes)
expression_rest (suc passed) [] = 0
expression_rest (suc passed) (byte ∷ bytes) = 1 + expression_rest passed bytes

abbrev pub expression_len : List ℕ → ℕ
expression_len text = expression_rest zero text

-- ---- The condition of a conditional, as it is written. Source: roff(7), "Conditional expressions".

-- letters of ASCII
abbrev pub is_letter : ℕ → Bool
is_letter byte = is_in_range (ascii "A") (ascii "Z") byte || is_in_range (ascii "a") (ascii "z") byte

-- a digit, a parenthesis, a backslash, a sign or a full stop
abbrev pub begins_expression : ℕ → Bool
begins_expression byte = is_digit byte || is_among byte (codes "(\\+-.")

-- what a test is, by its first byte
unfoldable pub kind_of : ℕ → ConditionKind
kind_of byte =
    if is_among byte (codes "no") then True
    else if is_among byte (codes "tev") then False
    else if byte == ascii "d" then Defined
    else if byte == ascii "r" then Register
    else if begins_expression byte then Expression
    else if is_letter byte then Letter
    else Delimiter

-- the name after d or r and blanks ends before a blank, a tab or a backslash
abbrev pub name_len : List ℕ → ℕ
name_len text = prefix_len is_name (after_blanks text)

abbrev pub name_after : List ℕ → List ℕ
name_after text = take (name_len text) (after_blanks text)

-- a test, and how many bytes it takes
abbrev pub reads : Test (List ℕ) → ℕ → TestRead (List ℕ)
reads test len = record { test = test; len = len }

-- what is before a delimiter
abbrev pub text_before : List ℕ → List ℕ → List ℕ
text_before delimiter text = take (place_of delimiter text) text

-- a text after its delimiter, and after the one between the two
abbrev pub second_of : List ℕ → List ℕ → List ℕ
second_of delimiter text = drop (place_of delimiter text + length delimiter) text

-- the bytes of two texts, each with its delimiter
abbrev pub both_len : List ℕ → List ℕ → ℕ
both_len delimiter text =
    place_of delimiter text + length delimiter + place_of delimiter (second_of delimiter text) + length delimiter

abbrev pub has_both : List ℕ → List ℕ → Bool
has_both delimiter text =
    nat_lt (place_of delimiter text) (length text)
    && nat_lt (place_of delimiter (second_of delimiter text)) (length (second_of delimiter text))

-- Two texts, after the first delimiter. Without one of the others the whole rest of the line is no condition.
abbrev pub texts_after : List ℕ → ℕ → List ℕ → TestRead (List ℕ)
texts_after delimiter column text =
    if has_both delimiter text
    then reads
    (tests.Texts (placed column (text_before delimiter text))
    (placed (column + (place_of delimiter text + length delimiter)) (text_before delimiter (second_of delimiter text))))
    (both_len delimiter text)
    else reads tests.Missing (length text)

abbrev pub longer : ℕ → TestRead (List ℕ) → TestRead (List ℕ)
longer before read = reads read.test (before + read.len)

abbrev pub texts_at : ℕ → List ℕ → TestRead (List ℕ)
texts_at column text =
    longer (character_len text)
    (texts_after (delimiter_of text) (column + character_len text) (drop (character_len text) text))

abbrev pub named : (List ℕ → Test (List ℕ)) → List ℕ → TestRead (List ℕ)
named test text = reads (test (name_after text)) (1 + (blank_len text + name_len text))

abbrev pub read_kind : ConditionKind → ℕ → List ℕ → TestRead (List ℕ)
read_kind True column text = reads (tests.Always true) 1
read_kind False column text = reads (tests.Always false) 1
read_kind Defined column text = named tests.IsDefined (drop 1 text)
read_kind Register column text = named tests.IsRegister (drop 1 text)
read_kind Expression column text = reads (tests.Expression (placed column (take (expression_len text) text))) (expression_len text)
read_kind Letter column text = reads (tests.Unknown (take 1 text)) 1
read_kind Delimiter column text = texts_at column text

-- a text begins with a test; its first byte is at a column
unfoldable pub read_test : ℕ → List ℕ → TestRead (List ℕ)
read_test column [] = reads tests.Missing 0
read_test column (byte ∷ bytes) = read_kind (kind_of byte) column (byte ∷ bytes)

-- any number of ! may precede the test, and each negates it
abbrev pub turn_len : List ℕ → ℕ
turn_len text = prefix_len (λ byte. byte == ascii "!") text

abbrev pub is_odd : ℕ → Bool
is_odd number = number % 2 == 1

-- a condition begins at its first byte, a ! too
unfoldable pub condition_of : ℕ → List ℕ → Condition (List ℕ)
condition_of column text =
    record {
      column = column;
      is_turned = is_odd (turn_len text);
      test = (read_test (column + turn_len text) (drop (turn_len text) text)).test;
    }

unfoldable pub condition_len : ℕ → List ℕ → ℕ
condition_len column text = turn_len text + (read_test (column + turn_len text) (drop (turn_len text) text)).len
