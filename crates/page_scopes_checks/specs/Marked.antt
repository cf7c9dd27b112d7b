-- A small set of macros: `I` sets its words in italic, `Open` begins a quotation, and `Close` ends it.
use Rattle.std.specs.Prelude.{ℕ, ◌≤◌, Bool, true, false, List, [], ◌∷◌, length, drop, Option, None, Some, if◌then◌else◌, codes}
use Rattle.std.specs.Str.{bytes_eq}
use Rattle.page_core_base.specs.declared.cells.Font.TheVariants.{I}
use Rattle.page_core_base.specs.declared.note_kinds.NoteKind.TheVariants.{UnknownMacro}
use Rattle.page_core_base.specs.Texts.{TakenLine}
use Rattle.page_roff_syntax.specs.declared.quotes.Argument.{Argument}
use Rattle.page_roff_syntax.specs.Arguments.{has_arguments}
use Rattle.page_sets_names.specs.declared.marks.Quotation.TheVariants.{Do}
use Rattle.page_sets_lines.specs.declared.blocks.BlockOpener.TheVariants as block_openers
use Rattle.page_sets_lines.specs.declared.blocks.BlockCloser.TheVariants as block_closers
use Rattle.page_sets_lines.specs.declared.openers.Opener.TheVariants as openers
use Rattle.page_sets_lines.specs.declared.openers.Closer.TheVariants as closers
use Rattle.page_sets_lines.specs.declared.plain_lines.PlainLine.{PlainLine}
use Rattle.page_sets_lines.specs.declared.events.Join.TheVariants.{Apart}
use Rattle.page_sets_lines.specs.declared.events.Role.TheVariants as roles
use Rattle.page_sets_lines.specs.declared.events.EventKind.{EventKind}
use Rattle.page_sets_lines.specs.declared.events.EventKind.TheVariants as kinds
use Rattle.page_sets_lines.specs.declared.events.Event.{Event}
use Rattle.page_sets_lines.specs.Lines.{name_end, name_of, name_place, is_nameless, arguments_after, event_at, line_end, plain_line, plain_events, word_place}
use Rattle.page_scopes_checks.specs.declared.marked.MarkedPlace.{MarkedPlace}
use Rattle.page_scopes_checks.specs.declared.marked.MarkedPlace.TheVariants as places

-- a word in italic, and all of them
abbrev pub italic : ℕ → Argument (List ℕ) → Event (List ℕ)
italic number argument =
    event_at (word_place number argument)
    (kinds.Word (record { arg = argument; role = roles.Argument; font = Some I; before = Apart; after = Apart }))

abbrev pub italic_words : ℕ → List (Argument (List ℕ)) → Bool → List (Event (List ℕ))
italic_words number [] filled = line_end number filled ∷ []
italic_words number (argument ∷ arguments) filled = italic number argument ∷ italic_words number arguments filled

-- a quotation begins, or ends
abbrev pub quotation : Bool → EventKind (List ℕ)
quotation true = kinds.Open (openers.Block (block_openers.Quotation Do))
quotation false = kinds.Close (closers.Block (block_closers.Quotation Do))

-- a name that is none of the set's
abbrev pub unknown : TakenLine → Event (List ℕ)
unknown line = event_at (name_place line) (kinds.Note UnknownMacro (name_of line) false false)

-- the events of a line from a place on
abbrev pub events_from : TakenLine → MarkedPlace → List (Event (List ℕ))
events_from line (places.Plain plain) = plain_events line.number line.text plain
events_from line places.Unknown = unknown line ∷ line_end line.number false ∷ []
events_from line (places.Quotation begins) = event_at (name_place line) (quotation begins) ∷ line_end line.number false ∷ []
events_from line (places.Words rest filled) = italic_words line.number (arguments_after rest line.text) filled
events_from line (places.End filled) = line_end line.number filled ∷ []
events_from line places.Nothing = []

-- its arguments lie within the line
abbrev pub FitsPlace : TakenLine → MarkedPlace → Type 0
FitsPlace line (places.Plain plain) = Unit {0}
FitsPlace line places.Unknown = Unit {0}
FitsPlace line (places.Quotation begins) = Unit {0}
FitsPlace line (places.Words rest filled) = rest ≤ length line.text
FitsPlace line (places.End filled) = Unit {0}
FitsPlace line places.Nothing = Unit {0}

-- the macros, by their names; arguments begin after this many bytes
unfoldable pub macro_place : List ℕ → List ℕ → ℕ → MarkedPlace
macro_place name text start =
    if bytes_eq name (codes "I") then places.Words start (has_arguments (drop start text))
    else if bytes_eq name (codes "Open") then places.Quotation true
    else if bytes_eq name (codes "Close") then places.Quotation false
    else places.Unknown

-- the place before the events of a line: one without a name does nothing
abbrev pub control_place : TakenLine → MarkedPlace
control_place line =
    if is_nameless line then places.End false else macro_place (name_of line) line.text (name_end line)

abbrev pub place_of : TakenLine → Option PlainLine → MarkedPlace
place_of line None = control_place line
place_of line (Some plain) = places.Plain plain

-- the events of a line
abbrev pub marked_events : TakenLine → List (Event (List ℕ))
marked_events line = events_from line (place_of line (plain_line line.form line.text))
