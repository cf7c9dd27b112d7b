-- What the requests for definitions do, and the call of a macro. Source: roff(7), `as`, `de`, `ds`, `nr`, `rm`, `rn`.
use Rattle.std.specs.Prelude.{ℕ, ◌-◌, List, [], ◌∷◌, flat_map, ◌+◌, length, drop, ◌==◌, if◌then◌else◌, ◌++◌, Option, Some, None, unwrap_or, Bool, false, ℤ, pos, ◌+ℤ◌, true, codes}
use Rattle.page_core_base.specs.Bytes.{ascii, begins_sign}
use Rattle.page_core_base.specs.Limits.{name_of}
use Rattle.page_core_base.specs.Messages.{Message, message_about}
use Rattle.page_core_base.specs.declared.limits.Limit.{Limit}
use Rattle.page_core_base.specs.declared.note_kinds.NoteKind.TheVariants.{Unterminated}
use Rattle.page_core_base.specs.declared.note_kinds.NoteKind.TheVariants as kinds
use Rattle.page_core_base.specs.declared.places.Place.{Place}
use Rattle.page_core_numbers.specs.Expressions.{in_range}
use Rattle.page_roff_syntax.specs.Arguments.{after_blanks, argument_value, argument_name, arguments}
use Rattle.page_roff_syntax.specs.declared.quotes.Argument.{Argument}
use Rattle.page_roff_syntax.specs.declared.quotes.Quoting.{Quoting}
use Rattle.page_roff_syntax.specs.declared.quotes.Quoting.TheVariants.{Closed, Unclosed}
use Rattle.page_roff_syntax.specs.declared.requests.DefinitionRequest.{DefinitionRequest}
use Rattle.page_roff_syntax.specs.declared.requests.DefinitionRequest.TheVariants.{DefineString, AppendString, SetRegister, Remove, Rename, RemoveRegisters}
use Rattle.page_roff_names.specs.Names.{Definitions, refusal, definition, with_text, string_of, Definition, without_text, look, without_register, number_of, with_register}
use Rattle.page_roff_names.specs.declared.rows.EntryKind.TheVariants.{String}
use Rattle.page_roff_values.specs.Answers.{value_of, messages_of}

-- ---- The arguments of requests for definitions. Source: roff(7), "Macro syntax" and "ds".

-- one without its last quote is reported at its first one
abbrev pub closing_at : ℕ → ℕ → Quoting → List Message
closing_at line column Unclosed = message_about Unterminated (record { line = line; column = column - 1 }) [] ∷ []
closing_at line column _ = []

abbrev pub closing_notes : ℕ → Argument (List ℕ) → List Message
closing_notes line argument = closing_at line argument.column argument.quoting

abbrev pub closings_notes : ℕ → List (Argument (List ℕ)) → List Message
closings_notes line arguments = flat_map (closing_notes line) arguments

-- the text of the first of these arguments; none: the empty text
abbrev pub first_text : List (Argument (List ℕ)) → List ℕ
first_text [] = []
first_text (argument ∷ arguments) = argument.text

-- the last quote of an argument
abbrev pub closing_len : Quoting → ℕ
closing_len Closed = 1
closing_len _ = 0

-- how many bytes of a text, of which the first is at a column, an argument and what is before it take
abbrev pub end_of : ℕ → Argument (List ℕ) → ℕ
end_of column argument = argument.column - column + length argument.text + closing_len argument.quoting

-- a leading quote is dropped
abbrev pub without_quote : List ℕ → List ℕ
without_quote [] = []
without_quote (byte ∷ bytes) = if byte == ascii "\"" then bytes else byte ∷ bytes

-- the value of a string is what follows its name and blanks
abbrev pub value_after : ℕ → List ℕ → Argument (List ℕ) → List ℕ
value_after column rest name = without_quote (after_blanks (drop (end_of column name) rest))

-- ---- The body that a macro runs, line by line, and the arguments of its call, packed. Source: roff(7), "MACRO SYNTAX" and "de".

-- a body with one line more, which ends in a line feed
abbrev pub with_line : List ℕ → List ℕ → List ℕ
with_line body line = body ++ (line ++ codes "\n")

-- ---- arguments

-- each argument with a line feed after it, which no line holds
abbrev pub packed : List (Argument (List ℕ)) → List ℕ
packed arguments = flat_map (λ argument. argument_value argument ++ codes "\n") arguments

-- ---- What the requests for definitions do. Source: roff(7), "ds", "as", "nr", "rm", "rn", "rr".

-- what is defined after a request, and its messages
pub record DefinitionOutcome : Type 0 where
  pub definitions : Definitions
  pub notes : List Message

abbrev pub outcome : Definitions → List Message → DefinitionOutcome
outcome definitions notes = record { definitions = definitions; notes = notes }

-- a definition that passes a limit is reported, and all stays
abbrev pub settled : Option Limit → Definitions → Place → Definitions → DefinitionOutcome
settled None wanted place old = outcome wanted []
settled (Some limit) wanted place old = outcome old (message_about kinds.Limit place (name_of limit) ∷ [])

abbrev pub settles : List ℕ → List ℕ → Definitions → Place → Definitions → DefinitionOutcome
settles name value wanted place old = settled (refusal name value wanted) wanted place old

-- ---- strings

abbrev pub defines_string : List ℕ → List ℕ → Place → Definitions → DefinitionOutcome
defines_string name value place old = settles name value (with_text name (definition String value) old) place old

-- a name without a definition is passed over
abbrev pub renames_found : Option Definition → List ℕ → List ℕ → Place → Definitions → DefinitionOutcome
renames_found None old_name name place old = outcome old []
renames_found (Some d) old_name name place old = settles name d.value (with_text name d (without_text old_name old)) place old

abbrev pub renames : List ℕ → List ℕ → Place → Definitions → DefinitionOutcome
renames old_name name place old = renames_found (look old_name old.texts) old_name name place old

abbrev pub removes : List (Argument (List ℕ)) → Definitions → Definitions
removes [] old = old
removes (name ∷ names) old = removes names (without_text (argument_name name) old)

-- ---- registers

abbrev pub removes_registers : List (Argument (List ℕ)) → Definitions → Definitions
removes_registers [] old = old
removes_registers (name ∷ names) old = removes_registers names (without_register (argument_name name) old)

-- a full stop
abbrev pub is_read_only : List ℕ → Bool
is_read_only [] = false
is_read_only (byte ∷ bytes) = byte == ascii "."

-- a value with a leading sign changes by it; a register that there is not has 0
abbrev pub next_number : List ℕ → List ℕ → Definitions → ℤ
next_number name value old =
    if begins_sign value then in_range (unwrap_or (number_of name old) (pos 0) +ℤ value_of value) else value_of value

abbrev pub sets_register : List ℕ → ℤ → Place → Definitions → DefinitionOutcome
sets_register name number place old = settles name [] (with_register name number old) place old

abbrev pub says_first : List Message → DefinitionOutcome → DefinitionOutcome
says_first notes after = outcome after.definitions (notes ++ after.notes)

abbrev pub reads_number : List ℕ → List ℕ → Place → Definitions → DefinitionOutcome
reads_number name value place old =
    says_first (messages_of place value) (if is_read_only name then outcome old [] else sets_register name (next_number name value old) place old)

-- ---- the requests

-- strings are read in copy mode, name and value
abbrev pub is_in_copy_mode : DefinitionRequest → Bool
is_in_copy_mode DefineString = true
is_in_copy_mode AppendString = true
is_in_copy_mode _ = false

-- ---- requests, by their arguments; a request without its name defines nothing, and an empty name is none

abbrev pub if_named : List ℕ → DefinitionOutcome → Definitions → DefinitionOutcome
if_named [] wanted old = outcome old []
if_named (byte ∷ bytes) wanted old = wanted

abbrev pub nr : List (Argument (List ℕ)) → Place → Definitions → DefinitionOutcome
nr [] place old = outcome old []
nr (name ∷ values) place old = if_named name.text (reads_number (argument_name name) (first_text values) place old) old

-- nothing has an empty name, so none is given another
abbrev pub rn : List (Argument (List ℕ)) → Place → Definitions → DefinitionOutcome
rn (old_name ∷ name ∷ more) place old =
    if_named name.text (renames (argument_name old_name) (argument_name name) place old) old
rn _ place old = outcome old []

abbrev pub ds : ℕ → List ℕ → List (Argument (List ℕ)) → Place → Definitions → DefinitionOutcome
ds column rest [] place old = outcome old []
ds column rest (name ∷ more) place old =
    if_named name.text (defines_string (argument_name name) (value_after column rest name) place old) old

abbrev pub as_request : ℕ → List ℕ → List (Argument (List ℕ)) → Place → Definitions → DefinitionOutcome
as_request column rest [] place old = outcome old []
as_request column rest (name ∷ more) place old =
    if_named name.text (defines_string (argument_name name) (unwrap_or (string_of (argument_name name) old) [] ++ value_after column rest name) place old) old

-- arguments without their last quote are reported first, but not of strings
abbrev pub does : DefinitionRequest → ℕ → List ℕ → List (Argument (List ℕ)) → Place → Definitions → DefinitionOutcome
does DefineString column rest names place old = ds column rest names place old
does AppendString column rest names place old = as_request column rest names place old
does SetRegister column rest names place old = says_first (closings_notes place.line names) (nr names place old)
does Remove column rest names place old = outcome (removes names old) (closings_notes place.line names)
does Rename column rest names place old = says_first (closings_notes place.line names) (rn names place old)
does RemoveRegisters column rest names place old =
    outcome (removes_registers names old) (closings_notes place.line names)

-- what a request does at a place, of which the finished rest begins at a column
unfoldable pub outcome_of : DefinitionRequest → Place → ℕ → List ℕ → Definitions → DefinitionOutcome
outcome_of request place column rest old = does request column rest (arguments column rest) place old
