-- The events of a line of mdoc(7), and those of either set. Source: mdoc(7), man(7).
use Rattle.std.specs.Prelude.{ℕ, Bool, false, List, [], ◌∷◌, ◌++◌, None, true, Option, Some, ◌&&◌, not, if◌then◌else◌}
use Rattle.page_core_base.specs.Texts.{TakenLine}
use Rattle.page_core_base.specs.declared.cells.Font.{Font}
use Rattle.page_core_base.specs.declared.cells.Font.TheVariants.{I}
use Rattle.page_core_base.specs.declared.note_kinds.NoteKind.{NoteKind}
use Rattle.page_core_base.specs.declared.note_kinds.NoteKind.TheVariants.{EmptyMacro, UnknownMacro}
use Rattle.page_roff_syntax.specs.Arguments.{has_arguments}
use Rattle.page_roff_syntax.specs.declared.quotes.Argument.{Argument}
use Rattle.page_roff_syntax.specs.declared.requests.LayoutRequest.{LayoutRequest}
use Rattle.page_sets_lines.specs.Lines.{word_place, event_at, name_of, name_place, line_end, rest_of, layout_request, is_nameless, plain_events, plain_line}
use Rattle.page_sets_lines.specs.declared.events.Event.{Event}
use Rattle.page_sets_lines.specs.declared.events.EventKind.TheVariants as kinds
use Rattle.page_sets_lines.specs.declared.line_steps.SynopsisStep.TheVariants.{Break}
use Rattle.page_sets_lines.specs.declared.openers.Closer.TheVariants as closers
use Rattle.page_sets_mdoc_lines.specs.Parts.{InlineCall, has_calls, LineParts, parts}
use Rattle.page_sets_mdoc_lines.specs.Rows.{is_parsed, line_macro}
use Rattle.page_sets_mdoc_lines.specs.declared.blocks.LineMacro.{LineMacro}
use Rattle.page_sets_mdoc_lines.specs.declared.blocks.LineMacro.TheVariants as lines
use Rattle.page_sets_mdoc_lines.specs.declared.macros.Inline.{Inline}
use Rattle.page_sets_mdoc_words.specs.Inlines.{printed}
use Rattle.page_sets_mdoc_words.specs.Sentences.{placed_events, framed, include_events, sentence_events}
use Rattle.page_sets_mdoc_blocks.specs.Fronts.{line_arguments, has_real_word, given_names, refusal, has_phrase, block_front, request_front}
use Rattle.page_sets.specs.Man.{man_events}
use Rattle.page_sets.specs.declared.either.Either.{Either}
use Rattle.page_sets.specs.declared.either.Either.TheVariants.{Man, Mdoc}
use Rattle.std.specs.Option.{option_map_or}

-- ---- The events of a line. Source: mdoc(7), "MACRO SYNTAX" and "MACRO REFERENCE".

-- ---- the words of a line, with the macros among them

-- a macro that a word calls is at that word
abbrev pub call_events : ℕ → InlineCall → Bool → List (Event (List ℕ))
call_events number call follows = placed_events false (word_place number call.name) call.name.text call.inline call.taken call.words follows

abbrev pub calls_events : ℕ → List InlineCall → List (Event (List ℕ))
calls_events number [] = []
calls_events number (call ∷ calls) = call_events number call (has_calls calls) ++ calls_events number calls

-- the closing delimiters at the line's end are outside its enclosures
abbrev pub tail_events : ℕ → List (Argument (List ℕ)) → List (Event (List ℕ))
tail_events number [] = []
tail_events number (first ∷ more) = event_at (word_place number first) (kinds.Close closers.Enclosures) ∷ printed number None (first ∷ more)

-- what comes after the words of the macro that begins the line
abbrev pub rest_events : ℕ → LineParts → List (Event (List ℕ))
rest_events number parts = calls_events number parts.calls ++ tail_events number parts.tail

-- a macro that can be among words, and begins the line
abbrev pub head_events : TakenLine → Inline → LineParts → List (Event (List ℕ))
head_events line inline parts =
    placed_events true (name_place line) (name_of line) inline parts.taken parts.words (has_calls parts.calls)
    ++ rest_events line.number parts

-- the words of any other macro, in the font around them
abbrev pub phrase_events : ℕ → LineParts → List (Event (List ℕ))
phrase_events number parts = printed number None parts.words ++ rest_events number parts

abbrev pub line_parts : Option Inline → TakenLine → LineParts
line_parts begun line = parts begun (is_parsed (name_of line)) (line_arguments line)

-- a field of a reference (`%A` and so on) is italic, or in the font around it; so is one without a word of its own
abbrev pub field_font : Bool → Font → Option Font
field_font true I = Some I
field_font _ _ = None

-- the file of `In` is on a row of its own in the SYNOPSIS; one without a word is refused, and its words stay
abbrev pub include_words : Bool → TakenLine → List (Event (List ℕ))
include_words true line =
    framed (name_place line) (Some Break) (Some Break) (include_events (name_place line) (line_arguments line))
include_words false line = printed line.number None (line_arguments line)

abbrev pub words_events : LineMacro → TakenLine → List (Event (List ℕ))
words_events (lines.Inline inline) line = head_events line inline (line_parts (Some inline) line)
words_events lines.Item line = phrase_events line.number (line_parts None line)
words_events (lines.Heading name) line = phrase_events line.number (line_parts None line)
words_events lines.Description line = phrase_events line.number (line_parts None line)
words_events (lines.OneLine name) line = phrase_events line.number (line_parts None line)
words_events (lines.Field font) line = printed line.number (field_font (has_real_word line) font) (line_arguments line)
words_events (lines.Sentence sentence) line = sentence_events (name_place line) sentence (given_names (line_arguments line))
words_events lines.Include line = include_words (has_real_word line) line
words_events _ line = []

-- ---- a line

-- a message that names the macro, which does nothing else
abbrev pub refused_events : NoteKind → TakenLine → List (Event (List ℕ))
refused_events kind line = refusal kind line ∷ line_end line.number true ∷ []

-- a macro that begins the line; it may need words, and have none
abbrev pub macro_events : LineMacro → TakenLine → List (Event (List ℕ))
macro_events begins line =
    if has_phrase begins && not (has_arguments (rest_of line)) then refused_events EmptyMacro line
    else block_front begins line ++ (words_events begins line ++ (line_end line.number true ∷ []))

abbrev pub request_events : Option LayoutRequest → TakenLine → List (Event (List ℕ))
request_events None line = refused_events UnknownMacro line
request_events (Some request) line = request_front request line ++ (line_end line.number true ∷ [])

-- a name is that of a macro, or of a request that changes rows
abbrev pub named_events : Option LineMacro → TakenLine → List (Event (List ℕ))
named_events None line = request_events (layout_request (name_of line)) line
named_events (Some begins) line = macro_events begins line

-- a line without a name does nothing; each control line fills line scopes
abbrev pub control_events : TakenLine → List (Event (List ℕ))
control_events line =
    if is_nameless line then line_end line.number true ∷ [] else named_events (line_macro (name_of line)) line

-- the events of a line
unfoldable pub mdoc_events : TakenLine → List (Event (List ℕ))
mdoc_events line = option_map_or (plain_events line.number line.text) (plain_line line.form line.text) (control_events line)

-- ---- The set of macros of a page: one of the two, and what holds of each holds of it. Source: man(7), mdoc(7).

-- the columns by which the text of a page is indented
abbrev pub either_indent : Either → ℕ
either_indent Man = 7
either_indent Mdoc = 5

-- the events of a line in the set of the page
abbrev pub either_events : Either → TakenLine → List (Event (List ℕ))
either_events Man line = man_events line
either_events Mdoc line = mdoc_events line
