-- Whether a condition holds, and the value of an expression. Source: roff(7), "Conditionals", "Numerical expressions".
use Rattle.std.specs.Int.{is_positive}
use Rattle.std.specs.Prelude.{ℕ, List, ℤ, Bool, not, if◌then◌else◌, ◌||◌, is_some, true, false, ◌++◌, [], take, drop, ◌-◌, length, ◌∷◌}
use Rattle.std.specs.Str.{bytes_eq}
use Rattle.page_core_base.specs.Messages.{Message, message_about}
use Rattle.page_core_base.specs.declared.note_kinds.NoteKind.TheVariants.{BadCondition}
use Rattle.page_core_base.specs.declared.places.Place.{Place}
use Rattle.page_core_numbers.specs.Expressions.{expression_of, messages_at}
use Rattle.page_core_numbers.specs.declared.scales.Scale.TheVariants.{Basic}
use Rattle.page_roff_syntax.specs.Requests.{request_of}
use Rattle.page_roff_names.specs.Names.{Definitions, string_of, body_of}
use Rattle.page_roff_heads.specs.declared.conditions.Condition.{Condition}
use Rattle.page_roff_heads.specs.declared.conditions.Test.{Test}
use Rattle.page_roff_heads.specs.declared.conditions.Test.TheVariants.{Always, Unknown, IsDefined, IsRegister, Expression, Texts, Missing}
use Rattle.page_roff_heads.specs.declared.texts.Placed.{Placed}
use Rattle.page_roff_values.specs.Values.{TextSoFar, Surroundings, register_found, LaidText, NEST, value, after_bytes, start}

-- ---- The value of an expression, and its messages. Source: roff(7), "Numerical expressions".

-- the expression at a text's front; a number without a unit is in basic units
abbrev pub value_of : List ℕ → ℤ
value_of text = (expression_of Basic text).value

-- its messages are all at one place
abbrev pub messages_of : Place → List ℕ → List Message
messages_of place text = messages_at place.line place.column (expression_of Basic text).troubles

-- ---- Whether a condition holds. Source: roff(7), "Conditional expressions".

-- what a condition gives: whether it holds, its messages, and its line after that
pub record Answer : Type 0 where
  pub holds : Bool
  pub notes : List Message
  pub edge : TextSoFar

abbrev pub answers : Bool → List Message → TextSoFar → Answer
answers holds notes edge = record { holds = holds; notes = notes; edge = edge }

-- ! turns it
abbrev pub turned : Bool → Bool → Bool
turned is_turned holds = if is_turned then not holds else holds

-- a name that a string, a macro or a request has
abbrev pub is_defined : List ℕ → Definitions → Bool
is_defined name d = is_some (string_of name d) || is_some (body_of name d) || is_some (request_of name)

-- a text is expanded after what is finished of its line, of which this many bytes are before the text
abbrev pub expands : Surroundings → ℕ → List ℕ → TextSoFar → LaidText
expands env count text s = value env NEST text (after_bytes count s)

-- What a text gives, unless it was cut: then the condition is false, and nothing turns that.
abbrev pub unless_cut : Bool → LaidText → Answer → Answer
unless_cut true laid answer = answers false laid.notes laid.edge
unless_cut false laid answer = answers answer.holds (laid.notes ++ answer.notes) answer.edge

abbrev pub after : LaidText → (TextSoFar → Answer) → Answer
after laid f = unless_cut laid.edge.ended laid (f laid.edge)

-- an expanded expression is true above 0
abbrev pub number_answer : Bool → Place → TextSoFar → Answer
number_answer is_turned place s = answers (turned is_turned (is_positive (value_of s.text))) (messages_of place s.text) s

-- the second text is after the first, of which this many bytes were finished
abbrev pub texts_answer : Bool → ℕ → TextSoFar → Answer
texts_answer is_turned len s = answers (turned is_turned (bytes_eq (take len s.text) (drop len s.text))) [] s

-- this many bytes of a line are before a text
abbrev pub bytes_before : Placed (List ℕ) → ℕ
bytes_before text = text.column - 1

-- before the second text are those before the first, without its own, and the delimiter
abbrev pub bytes_between : Placed (List ℕ) → Placed (List ℕ) → ℕ
bytes_between first second = second.column - 1 - length first.text

abbrev pub second_answer : Surroundings → Bool → Placed (List ℕ) → Placed (List ℕ) → TextSoFar → Answer
second_answer env is_turned first second s =
    after (expands env (bytes_between first second) second.text s) (texts_answer is_turned (length s.text))

-- A test at a place, in a line so far. All its messages but those of interpolations are at the place.
abbrev pub test_answer : Surroundings → Place → Bool → Test (List ℕ) → TextSoFar → Answer
test_answer env place is_turned (Always holds) s = answers (turned is_turned holds) [] s
test_answer env place is_turned (Unknown letter) s =
    answers (turned is_turned false) (message_about BadCondition place letter ∷ []) s
test_answer env place is_turned (IsDefined name) s = answers (turned is_turned (is_defined name env.definitions)) [] s
test_answer env place is_turned (IsRegister name) s = answers (turned is_turned (is_some (register_found name env))) [] s
test_answer env place is_turned (Expression text) s =
    after (expands env (bytes_before text) text.text s) (number_answer is_turned place)
test_answer env place is_turned (Texts first second) s =
    after (expands env (bytes_before first) first.text s) (second_answer env is_turned first second)
test_answer env place is_turned Missing s = answers false [] s

-- the condition of a head in a source line
unfoldable pub condition_answer : Surroundings → ℕ → Condition (List ℕ) → Answer
condition_answer env line condition =
    test_answer env (record { line = line; column = condition.column }) condition.is_turned condition.test (start line)
