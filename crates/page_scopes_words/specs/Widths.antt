-- The columns of what a text prints, and those that a width or an offset asks for. Source: roff(7), "Scaling Widths"; mdoc(7), `Bl`.
use Rattle.std.specs.List.{list_any}
use Rattle.std.specs.Prelude.{ℕ, length, if◌then◌else◌, Bool, List, sum_by, [], ◌∷◌, codes, ℤ, pos, Option, option_map, find, true, false, ◌==◌, not, ◌&&◌, unwrap_or, is_none}
use Rattle.std.specs.Str.{is_utf8, bytes_eq}
use Rattle.page_core_base.specs.Rows.{Item}
use Rattle.page_core_base.specs.declared.note_kinds.NoteKind.{NoteKind}
use Rattle.page_core_base.specs.declared.note_kinds.NoteKind.TheVariants.{NotNumeric}
use Rattle.page_core_base.specs.declared.page_settings.Output.{Output}
use Rattle.page_core_base.specs.declared.places.Place.{Place}
use Rattle.page_core_escapes.specs.Tokens.{TextToken, white, plain, quotes, escaped, tokens_of}
use Rattle.page_core_numbers.specs.Columns.{characters_columns, columns_of, printed_escape}
use Rattle.page_core_numbers.specs.Expressions.{expression_of, kind_of}
use Rattle.page_core_numbers.specs.declared.scales.Scale.TheVariants.{Basic}
use Rattle.page_roff_syntax.specs.Arguments.{is_quoted}
use Rattle.page_roff_syntax.specs.declared.quotes.Argument.{Argument}
use Rattle.page_scopes_words.specs.Words.{columns_in, number_value, number_notes}

-- ---- The columns of what a text prints. Source: man(7), `SY`; mdoc(7), `Bl`; mandoc_char(7).

-- what is no text in UTF-8 has no columns
abbrev pub token_columns : Output → TextToken → ℕ
token_columns output (white bytes) = length bytes
token_columns output (plain bytes) = if is_utf8 bytes then columns_of output bytes else 0
token_columns output (quotes bytes) = 1
token_columns output (escaped bytes meaning) = characters_columns (printed_escape output meaning)

-- the columns of what a name prints, which is quoted or not
abbrev pub name_columns : Output → Bool → List ℕ → ℕ
name_columns output quoted name = sum_by (token_columns output) (tokens_of quoted name)

-- ---- The columns that a width or an offset asks for, and its messages. Source: mdoc(7), `Bl` and `Bd`.

-- widths that have names
abbrev pub names : List (List ℕ × ℤ)
names =
    (codes "indent", pos 6)
    ∷ (codes "Ds", pos 6)
    ∷ (codes "indent-two", pos 12)
    ∷ (codes "left", pos 0)
    ∷ (codes "center", pos 0)
    ∷ (codes "right", pos 0)
    ∷ []

unfoldable pub named_width : List ℕ → Option ℤ
named_width text = option_map (λ row. row.1) (find (λ row. bytes_eq text row.0) names)

-- what is reported of an expression where an operand is missing
abbrev pub is_missing : NoteKind → Bool
is_missing NotNumeric = true
is_missing _ = false

-- an expression, up to the text's end, that lacks no operand; a number without a unit is in basic units
unfoldable pub is_expression : List ℕ → Bool
is_expression text =
    length (expression_of Basic text).rest == 0 && not (list_any (λ trouble. is_missing (kind_of trouble)) (expression_of Basic text).troubles)

-- any other text is as wide as what it prints
abbrev pub measured : Bool → Output → Argument (List ℕ) → ℤ
measured true output width = columns_in (number_value Basic width.text)
measured false output width = pos (name_columns output (is_quoted width.quoting) width.text)

-- the columns that an argument asks for
abbrev pub width_columns : Output → Argument (List ℕ) → ℤ
width_columns output width = unwrap_or (named_width width.text) (measured (is_expression width.text) output width)

-- only an expression has messages, at the macro
abbrev pub width_notes : Place → Argument (List ℕ) → List Item
width_notes place width = if is_none (named_width width.text) && is_expression width.text then number_notes Basic place width.text else []
