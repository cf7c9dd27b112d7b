-- The form of a raw line: a comment, a blank line, a text line or a control line. Source: roff(7), "LANGUAGE SYNTAX".
use Rattle.std.specs.List.{prefix_len}
use Rattle.std.specs.Prelude.{ℕ, Bool, ◌==◌, ◌||◌, nat_lt, List, length, [], ◌∷◌, if◌then◌else◌, not, drop, ◌+◌, take}
use Rattle.page_core_base.specs.Bytes.{ascii, is_white}
use Rattle.page_roff_syntax.specs.declared.line_forms.LineForm.{LineForm}
use Rattle.page_roff_syntax.specs.declared.line_forms.LineForm.TheVariants.{Control, Comment, Text, BlankLine}

abbrev pub has_word : List ℕ → Bool
has_word text = nat_lt (prefix_len is_white text) (length text)

-- a comment begins with the pair \" or \#; a backslash and its next byte are a pair
abbrev pub begins_comment : ℕ → Bool
begins_comment byte = byte == ascii "\"" || byte == ascii "#"

-- a line up to its comment
abbrev pub without_comment : List ℕ → List ℕ
without_comment [] = []
without_comment (byte ∷ []) = byte ∷ []
without_comment (byte ∷ next ∷ bytes) =
    if byte == ascii "\\" then (if begins_comment next then [] else byte ∷ next ∷ without_comment bytes)
    else byte ∷ without_comment (next ∷ bytes)

-- the control characters: the full stop and the apostrophe
abbrev pub is_control : ℕ → Bool
is_control byte = byte == ascii "." || byte == ascii "'"

-- a name ends before a blank, a tab or a backslash
abbrev pub is_name : ℕ → Bool
is_name byte = not (is_white byte || byte == ascii "\\")

-- after the control character, which is in column 1, come white space and the name
abbrev pub name_start : List ℕ → ℕ
name_start bytes = prefix_len is_white bytes

abbrev pub name_len : List ℕ → ℕ
name_len bytes = prefix_len is_name (drop (name_start bytes) bytes)

abbrev pub control_line : List ℕ → LineForm (List ℕ)
control_line bytes =
    Control (take (name_len bytes) (drop (name_start bytes) bytes)) (2 + name_start bytes)
    (drop (name_len bytes) (drop (name_start bytes) bytes)) (2 + name_start bytes + name_len bytes)

abbrev pub uncommented_form : List ℕ → LineForm (List ℕ)
uncommented_form [] = Comment
uncommented_form (byte ∷ bytes) = if is_control byte then control_line bytes else Text (byte ∷ bytes)

-- the form of a line
abbrev pub form_of : List ℕ → LineForm (List ℕ)
form_of line = if has_word line then uncommented_form (without_comment line) else BlankLine
