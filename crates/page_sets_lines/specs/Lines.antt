-- Finished lines: the name and the arguments of a control line, and the events of lines that are the same in both sets of macros. Source: man(7), mdoc(7), roff(7).
use Rattle.std.specs.List.{prefix_len}
use Rattle.std.specs.Prelude.{ℕ, ◌+◌, min, List, length, drop, max, ◌-◌, take, ◌==◌, Bool, [], ◌∷◌, Option, None, Some, true, false, zero, suc, if◌then◌else◌}
use Rattle.page_core_base.specs.Bytes.{is_white}
use Rattle.page_core_base.specs.Texts.{TakenLine}
use Rattle.page_core_base.specs.declared.cells.Font.{Font}
use Rattle.page_core_base.specs.declared.lines_taken.Form.{Form}
use Rattle.page_core_base.specs.declared.lines_taken.Form.TheVariants as forms
use Rattle.page_core_base.specs.declared.places.Place.{Place}
use Rattle.page_roff_syntax.specs.Arguments.{arguments}
use Rattle.page_roff_syntax.specs.LineForms.{has_word}
use Rattle.page_roff_syntax.specs.Requests.{request_of}
use Rattle.page_roff_syntax.specs.declared.quotes.Argument.{Argument}
use Rattle.page_roff_syntax.specs.declared.quotes.Quoting.{Quoting}
use Rattle.page_roff_syntax.specs.declared.quotes.Quoting.TheVariants.{Bare, Unclosed}
use Rattle.page_roff_syntax.specs.declared.requests.LayoutRequest.{LayoutRequest}
use Rattle.page_roff_syntax.specs.declared.requests.LayoutRequest.TheVariants as layout
use Rattle.page_roff_syntax.specs.declared.requests.Request as roff
use Rattle.page_roff_syntax.specs.declared.requests.Request.TheVariants as names
use Rattle.page_sets_names.specs.declared.generated_texts.GeneratedText.{GeneratedText}
use Rattle.page_sets_lines.specs.declared.events.Event.{Event}
use Rattle.page_sets_lines.specs.declared.events.EventKind.{EventKind}
use Rattle.page_sets_lines.specs.declared.events.EventKind.TheVariants as kinds
use Rattle.page_sets_lines.specs.declared.events.Join.{Join}
use Rattle.page_sets_lines.specs.declared.events.Join.TheVariants.{Apart}
use Rattle.page_sets_lines.specs.declared.events.Role.{Role}
use Rattle.page_sets_lines.specs.declared.events.Role.TheVariants as roles
use Rattle.page_sets_lines.specs.declared.events.Word.{Word}
use Rattle.page_sets_lines.specs.declared.leaves.Leaf.TheVariants as leaves
use Rattle.page_sets_lines.specs.declared.leaves.Leaf.TheVariants.{Wordless, BlankLine}
use Rattle.page_sets_lines.specs.declared.leaves.RequestLeaf.{RequestLeaf}
use Rattle.page_sets_lines.specs.declared.leaves.RequestLeaf.TheVariants as requests
use Rattle.page_sets_lines.specs.declared.plain_lines.PlainLine.{PlainLine}
use Rattle.page_sets_lines.specs.declared.plain_lines.PlainLine.TheVariants as lines

-- ---- The name and the arguments of a finished control line. Source: roff(7), "LANGUAGE SYNTAX".

-- the bytes before the name: the control character and the white space after it
abbrev pub before_name : List ℕ → ℕ
before_name text = min 1 (length text) + prefix_len is_white (drop 1 text)

-- the name goes as far as the line says, but not past the text's end; a name that would end before it begins is empty
abbrev pub name_end : TakenLine → ℕ
name_end line = max (before_name line.text) (min line.name_end (length line.text))

-- where the name is
abbrev pub name_place : TakenLine → Place
name_place line = record { line = line.number; column = before_name line.text + 1 }

abbrev pub name_of : TakenLine → List ℕ
name_of line = take (name_end line - before_name line.text) (drop (before_name line.text) line.text)

abbrev pub is_nameless : TakenLine → Bool
is_nameless line = before_name line.text == name_end line

-- what comes after the name: the arguments, with what is between them
abbrev pub rest_of : TakenLine → List ℕ
rest_of line = drop (name_end line) line.text

-- the arguments that begin after this many bytes
abbrev pub arguments_after : ℕ → List ℕ → List (Argument (List ℕ))
arguments_after start text = arguments (start + 1) (drop start text)

-- the first of the arguments, if there is one, and the second
abbrev pub first_of : List (Argument (List ℕ)) → Option (Argument (List ℕ))
first_of [] = None
first_of (argument ∷ arguments) = Some argument

abbrev pub second_of : List (Argument (List ℕ)) → Option (Argument (List ℕ))
second_of [] = None
second_of (argument ∷ arguments) = first_of arguments

-- the text of an argument that may be missing
abbrev pub text_of : Option (Argument (List ℕ)) → Option (List ℕ)
text_of None = None
text_of (Some argument) = Some argument.text

abbrev pub is_unclosed : Quoting → Bool
is_unclosed Unclosed = true
is_unclosed _ = false

-- the column of the quote that the last argument lacks at its end, unless it is one of this many at the front
abbrev pub open_quote : ℕ → List (Argument (List ℕ)) → Option ℕ
open_quote printed [] = None
open_quote zero (argument ∷ arguments) =
    if is_unclosed argument.quoting then Some (argument.column - 1) else open_quote zero arguments
open_quote (suc printed) (argument ∷ arguments) = open_quote printed arguments

-- ---- The events of text lines, blank lines and raw lines, and the requests that change rows. Source: roff(7), "LANGUAGE SYNTAX" and "REQUEST REFERENCE".

-- the first column of a line
abbrev pub line_start : ℕ → Place
line_start number = record { line = number; column = 1 }

-- where an argument of a line is
abbrev pub word_place : ℕ → Argument (List ℕ) → Place
word_place number word = record { line = number; column = word.column }

-- an event at a place
abbrev pub event_at : Place → EventKind (List ℕ) → Event (List ℕ)
event_at place kind = record { place = place; kind = kind }

-- an argument as a word, in its own column
abbrev pub word_event : ℕ → Role → Option Font → Join → Join → Argument (List ℕ) → Event (List ℕ)
word_event number role font before after word =
    event_at (word_place number word)
    (kinds.Word (record { arg = word; role = role; font = font; before = before; after = after }))

-- a text of a macro's own
abbrev pub generated_word : Place → GeneratedText → Option Font → Join → Join → Event (List ℕ)
generated_word place text font before after =
    event_at place (kinds.Leaf (leaves.Generated (record { text = text; font = font; before = before; after = after })))

-- a whole line is one word
abbrev pub line_word : List ℕ → Word (List ℕ)
line_word text = record {
  arg = record { text = text; column = 1; quoting = Bare };
  role = roles.Line;
  font = None;
  before = Apart;
  after = Apart;
}

-- what a line is, unless it is a control line
abbrev pub plain_line : Form → List ℕ → Option PlainLine
plain_line forms.Text text = Some (if has_word text then lines.Words else lines.Wordless)
plain_line forms.Blank text = Some lines.Blank
plain_line forms.Raw text = Some lines.Raw
plain_line forms.Control text = None

-- what it does
abbrev pub plain_kind : PlainLine → List ℕ → EventKind (List ℕ)
plain_kind lines.Words text = kinds.Word (line_word text)
plain_kind lines.Wordless text = kinds.Leaf (Wordless text)
plain_kind lines.Blank text = kinds.Leaf BlankLine
plain_kind lines.Raw text = kinds.Raw text

-- text with a word fills line scopes
abbrev pub fills : PlainLine → Bool
fills lines.Words = true
fills _ = false

abbrev pub line_end : ℕ → Bool → Event (List ℕ)
line_end number filled = event_at (line_start number) (kinds.End filled)

-- the events of a line that is no control line
abbrev pub plain_events : ℕ → List ℕ → PlainLine → List (Event (List ℕ))
plain_events number text line = event_at (line_start number) (plain_kind line text) ∷ line_end number (fills line) ∷ []

-- the requests that change rows
abbrev pub layout_in : Option roff.Request → Option LayoutRequest
layout_in (Some (names.Layout request)) = Some request
layout_in _ = None

unfoldable pub layout_request : List ℕ → Option LayoutRequest
layout_request name = layout_in (request_of name)

-- a request with its first argument, where it has one
abbrev pub request : LayoutRequest → Option (Argument (List ℕ)) → RequestLeaf (List ℕ)
request layout.Break given = requests.Break
request layout.Space given = requests.Space (text_of given)
request layout.Font given = requests.Font given
request layout.Shift given = requests.Shift (text_of given)
request (layout.Literal on) given = requests.Literal on
