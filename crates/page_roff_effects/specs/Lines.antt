-- What lines do that head nothing: text, requests, calls of macros. Source: roff(7).
use Rattle.std.specs.Prelude.{ℕ, nat_le, List, length, if◌then◌else◌, Option, Some, None, Bool, false, true, [], ◌∷◌, ◌+◌, ◌&&◌, ◌++◌, drop, unwrap_or, ◌==◌, ◌-◌}
use Rattle.page_core_base.specs.Limits.{BODY, name_of, ARGS}
use Rattle.page_core_base.specs.Messages.{Message, message_about}
use Rattle.page_core_base.specs.declared.limits.Limit.TheVariants as limits
use Rattle.page_core_base.specs.declared.lines_taken.Form.TheVariants as forms
use Rattle.page_core_base.specs.declared.note_kinds.NoteKind.TheVariants as kinds
use Rattle.page_core_base.specs.declared.places.Place.{Place}
use Rattle.page_roff_syntax.specs.Arguments.{arguments}
use Rattle.page_roff_syntax.specs.LineForms.{without_comment, form_of}
use Rattle.page_roff_syntax.specs.Requests.{request_of}
use Rattle.page_roff_syntax.specs.declared.line_forms.LineForm.{LineForm}
use Rattle.page_roff_syntax.specs.declared.line_forms.LineForm.TheVariants.{Control, Text, Comment, BlankLine}
use Rattle.page_roff_syntax.specs.declared.quotes.Argument.{Argument}
use Rattle.page_roff_syntax.specs.declared.requests.Request.{Request}
use Rattle.page_roff_syntax.specs.declared.requests.Request.TheVariants as requests
use Rattle.page_roff_names.specs.Names.{Definitions, body_of}
use Rattle.page_roff_values.specs.Values.{LaidText, arguments_in, expanded, lines_in}
use Rattle.page_roff_definitions.specs.Definitions.{is_in_copy_mode, DefinitionOutcome, packed, closings_notes, outcome_of}
use Rattle.page_roff_effects.specs.States.{Memory, call_product, nothing, after_notes, at, reports, reports_at, gives_line, counted, TextSetting, surroundings}
use Rattle.page_roff_effects.specs.States as states
use Rattle.page_roff_effects.specs.declared.commands.Command.{Command}
use Rattle.page_roff_effects.specs.declared.commands.Command.TheVariants.{Define, Ignore, Refuse, Pass, Call}

-- ---- What the name of a control line stands for. Source: roff(7), "MACRO SYNTAX" and "REQUEST REFERENCE".

-- the body of a macro of the page; no longer one can be defined
abbrev pub within_limit : Option (List ℕ) → Option (List ℕ)
within_limit None = None
within_limit (Some body) = if nat_le (length body) BODY then Some body else None

abbrev pub called_body : List ℕ → Definitions → Option (List ℕ)
called_body name d = within_limit (body_of name d)

-- What is left to the set of macros are the requests that change rows, macros of the language, and unknown ones.
-- The head of a conditional, a loop or a region is a part of a line by itself.
abbrev pub request_command : Option Request → Command
request_command (Some (requests.Definition request)) = Define request
request_command (Some requests.Ignored) = Ignore
request_command (Some requests.Unsupported) = Refuse
request_command _ = Pass

-- a macro of the page comes before a request
abbrev pub command_or : List ℕ → Option (List ℕ) → Command
command_or name None = request_command (request_of name)
command_or name (Some body) = Call

unfoldable pub command_of : List ℕ → Definitions → Command
command_of name d = command_or name (called_body name d)

-- whether the rest of the line is expanded in copy mode
abbrev pub copies : Command → Bool
copies (Define request) = is_in_copy_mode request
copies _ = false

-- ---- What lines do that head nothing: text, requests, calls of macros. Source: roff(7), "LANGUAGE SYNTAX" and "MACRO SYNTAX".

-- ---- calls

-- the call that would be one running macro too many
abbrev pub depth_notes : Bool → Place → List Message
depth_notes true place = []
depth_notes false place = message_about kinds.Loop place (name_of limits.Calls) ∷ []

-- the call with too many bytes of arguments
abbrev pub size_notes : Bool → Place → List Message
size_notes true place = []
size_notes false place = message_about kinds.Limit place (name_of limits.Args) ∷ []

abbrev pub call_if : Bool → List ℕ → List ℕ → Memory → states.PartOutcome
call_if true body bytes m = record { notes = []; product = call_product (lines_in body) (arguments_in bytes); memory = m }
call_if false body bytes m = nothing m

-- The call of a macro, whose name is in a column. Arguments without their last quote are reported first. One beyond a limit is skipped, with a message
-- for each limit.
abbrev pub calls : Bool → ℕ → List ℕ → List (Argument (List ℕ)) → Memory → states.PartOutcome
calls may_call column body args m =
    let fits = nat_le (length (packed args)) ARGS in
    after_notes (closings_notes m.number args) (
    after_notes (depth_notes may_call (at m column) ++ size_notes fits (at m column)) (call_if (may_call && fits) body (packed args) m))

-- ---- control lines

-- A control line with a name: the name and its column, how many bytes go up to its end, and the line without its comment.
pub record ControlLine : Type 0 where
  pub name : List ℕ
  pub column : ℕ
  pub name_end : ℕ
  pub text : List ℕ

-- what follows the name in the finished line, and the column where that begins
abbrev pub rest_of : ControlLine → List ℕ → List ℕ
rest_of line text = drop line.name_end text

abbrev pub rest_column : ControlLine → ℕ
rest_column line = line.name_end + 1

-- a request for definitions
abbrev pub defines : DefinitionOutcome → Memory → states.PartOutcome
defines o m = reports o.notes (record m { definitions = o.definitions })

-- what a command does with the finished line
abbrev pub does : Bool → Command → ControlLine → List ℕ → Memory → states.PartOutcome
does may_call Call line text m =
    calls may_call line.column (unwrap_or (called_body line.name m.definitions) [])
    (arguments (rest_column line) (rest_of line text)) m
does may_call (Define request) line text m =
    defines (outcome_of request (at m line.column) (rest_column line) (rest_of line text) m.definitions) m
does may_call Ignore line text m = nothing m
does may_call Refuse line text m = reports_at kinds.UnsuppRequest line.column line.name m
does may_call Pass line text m = gives_line forms.Control text line.name_end m

-- first the line is expanded
abbrev pub after_expansion : LaidText → (List ℕ → Memory → states.PartOutcome) → Memory → states.PartOutcome
after_expansion laid f m = after_notes laid.notes (f laid.edge.text (counted laid.edge.count m))

unfoldable pub command_outcome : TextSetting → Bool → Command → ControlLine → Memory → states.PartOutcome
command_outcome setting may_call command line m =
    after_expansion (expanded (surroundings (copies command) setting m) m.number line.text) (does may_call command line) m

-- a control line without a name does nothing, and is not expanded
unfoldable pub control_outcome : TextSetting → Bool → ControlLine → Memory → states.PartOutcome
control_outcome setting may_call line m =
    if length line.name == 0 then nothing m
    else command_outcome setting may_call (command_of line.name m.definitions) line m

-- ---- all lines that head nothing

abbrev pub text_outcome : TextSetting → List ℕ → Memory → states.PartOutcome
text_outcome setting text m =
    after_expansion (expanded (surroundings false setting m) m.number text) (λ finished m. gives_line forms.Text finished 0 m) m

abbrev pub control_line : List ℕ → List ℕ → ℕ → ℕ → ControlLine
control_line text name column rest_column =
    record { name = name; column = column; name_end = rest_column - 1; text = without_comment text }

abbrev pub form_outcome : TextSetting → Bool → List ℕ → LineForm (List ℕ) → Memory → states.PartOutcome
form_outcome setting may_call raw Comment m = nothing m
form_outcome setting may_call raw BlankLine m = gives_line forms.Blank raw 0 m
form_outcome setting may_call raw (Text text) m = text_outcome setting text m
form_outcome setting may_call raw (Control name column rest rest_column) m =
    control_outcome setting may_call (control_line raw name column rest_column) m

-- A raw line, where one more macro may run or not. A line that is cut, since it passes a limit of expansion, is the line all the same.
unfoldable pub leaf_outcome : TextSetting → Bool → List ℕ → Memory → states.PartOutcome
leaf_outcome setting may_call raw m = form_outcome setting may_call raw (form_of raw) m
