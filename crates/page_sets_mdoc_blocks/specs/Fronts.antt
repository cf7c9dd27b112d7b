-- What a macro that begins a line does before its words. Source: mdoc(7).
use Rattle.std.specs.List.{list_any}
use Rattle.std.specs.Prelude.{Bool, true, false, ℕ, List, [], ◌∷◌, Option, None, Some, ◌++◌, unwrap_or, codes, ◌-◌, ◌&&◌, if◌then◌else◌, is_some}
use Rattle.std.specs.Str.{bytes_eq}
use Rattle.page_core_base.specs.Texts.{TakenLine}
use Rattle.page_core_base.specs.declared.note_kinds.NoteKind.{NoteKind}
use Rattle.page_core_base.specs.declared.note_kinds.NoteKind.TheVariants.{Unterminated, UnknownFont, EmptyMacro}
use Rattle.page_roff_syntax.specs.Arguments.{is_quoted}
use Rattle.page_roff_syntax.specs.declared.quotes.Argument.{Argument}
use Rattle.page_roff_syntax.specs.declared.requests.LayoutRequest.{LayoutRequest}
use Rattle.page_sets_names.specs.declared.macro_names.HeadingName.{HeadingName}
use Rattle.page_sets_names.specs.declared.macro_names.HeadingName.TheVariants as headings
use Rattle.page_sets_lines.specs.Blocks.{list_options}
use Rattle.page_sets_lines.specs.Lines.{name_place, event_at, name_end, arguments_after, name_of, open_quote, first_of, request, text_of, rest_of, is_unclosed}
use Rattle.page_sets_lines.specs.declared.blocks.BlockCloser.{BlockCloser}
use Rattle.page_sets_lines.specs.declared.blocks.BlockCloser.TheVariants as block_closers
use Rattle.page_sets_lines.specs.declared.blocks.BlockOpener.{BlockOpener}
use Rattle.page_sets_lines.specs.declared.blocks.BlockOpener.TheVariants as block_openers
use Rattle.page_sets_lines.specs.declared.events.Event.{Event}
use Rattle.page_sets_lines.specs.declared.events.EventKind.{EventKind}
use Rattle.page_sets_lines.specs.declared.events.EventKind.TheVariants as kinds
use Rattle.page_sets_lines.specs.declared.leaves.Leaf.TheVariants as leaves
use Rattle.page_sets_lines.specs.declared.line_steps.LineStep.TheVariants as steps
use Rattle.page_sets_lines.specs.declared.openers.Closer.TheVariants as closers
use Rattle.page_sets_lines.specs.declared.openers.LineOpener.TheVariants as scopes
use Rattle.page_sets_lines.specs.declared.openers.Opener.{Opener}
use Rattle.page_sets_lines.specs.declared.openers.Opener.TheVariants as openers
use Rattle.page_sets_mdoc_lines.specs.Parts.{is_real}
use Rattle.page_sets_mdoc_lines.specs.declared.blocks.BlockMacro.{BlockMacro}
use Rattle.page_sets_mdoc_lines.specs.declared.blocks.BlockMacro.TheVariants as blocks
use Rattle.page_sets_mdoc_lines.specs.declared.blocks.LineMacro.{LineMacro}
use Rattle.page_sets_mdoc_lines.specs.declared.blocks.LineMacro.TheVariants as lines
use Rattle.page_sets_mdoc_blocks.specs.Displays.{display, given_font, list_note}
use Rattle.page_sets_lines.specs.declared.lists.ListKind.TheVariants as list_kinds
use Rattle.std.specs.Option.{option_map_or}

-- ---- Which macros begin a line that goes on in words. Source: mdoc(7), "MACRO REFERENCE".

-- the words after it are its title, its description or its row, and it needs one (`Sh Ss Nd D1 Dl`)
abbrev pub has_phrase : LineMacro → Bool
has_phrase (lines.Heading name) = true
has_phrase lines.Description = true
has_phrase (lines.OneLine name) = true
has_phrase _ = false

-- ---- What a macro that begins a line does before its words, and the requests that change rows. Source: mdoc(7), "MACRO
-- REFERENCE"; roff(7), "REQUEST REFERENCE".

-- an event at the macro that begins the line
abbrev pub at_name : TakenLine → EventKind (List ℕ) → Event (List ℕ)
at_name line kind = event_at (name_place line) kind

abbrev pub line_arguments : TakenLine → List (Argument (List ℕ))
line_arguments line = arguments_after (name_end line) line.text

-- a message that names the macro
abbrev pub refusal : NoteKind → TakenLine → Event (List ℕ)
refusal kind line = at_name line (kinds.Note kind (name_of line) false false)

-- the quote of an argument that lacks its last one; its message may begin the body of the page
abbrev pub quote_events : ℕ → Bool → Option ℕ → List (Event (List ℕ))
quote_events number begins_body None = []
quote_events number begins_body (Some column) =
    event_at (record { line = number; column = column }) (kinds.Note Unterminated [] false begins_body) ∷ []

-- a macro that prints none of its arguments tells of a quote that lacks its last one
abbrev pub missing_quote : Bool → TakenLine → List (Event (List ℕ))
missing_quote begins_body line = quote_events line.number begins_body (open_quote 0 (line_arguments line))

-- `br sp ft in nf fi`
abbrev pub request_front : LayoutRequest → TakenLine → List (Event (List ℕ))
request_front name line =
    missing_quote false line ++ (at_name line (kinds.Leaf (leaves.Request (request name (first_of (line_arguments line))))) ∷ [])

-- the scope that a heading begins
abbrev pub heading_opener : HeadingName → Opener (List ℕ)
heading_opener headings.SH = openers.Section
heading_opener headings.SS = openers.Subsection
heading_opener headings.Sh = openers.Section
heading_opener headings.Ss = openers.Subsection

-- ---- blocks of lines (`Bd Bf Bk Bl Rs` up to `Ed Ef Ek El Re`)

-- the text of the first argument, if there is one
abbrev pub first_text : TakenLine → Option (List ℕ)
first_text line = text_of (first_of (line_arguments line))

-- what it opens and closes
abbrev pub opener_of : BlockMacro → TakenLine → BlockOpener (List ℕ)
opener_of blocks.List line =
    let options = list_options (line_arguments line) in block_openers.List (unwrap_or options.kind list_kinds.Item) options.is_compact (rest_of line)
opener_of blocks.Display line = display (line_arguments line)
opener_of blocks.Fonts line = block_openers.Fonts (given_font (first_text line))
opener_of blocks.Keep line = block_openers.Keep
opener_of blocks.Reference line = block_openers.Reference

abbrev pub closer_of : BlockMacro → BlockCloser (List ℕ)
closer_of blocks.List = block_closers.List
closer_of blocks.Display = block_closers.Display
closer_of blocks.Fonts = block_closers.Fonts
closer_of blocks.Keep = block_closers.Keep
closer_of blocks.Reference = block_closers.Reference

abbrev pub kind_at_name : TakenLine → Option (EventKind (List ℕ)) → List (Event (List ℕ))
kind_at_name line None = []
kind_at_name line (Some kind) = at_name line kind ∷ []

-- a message about the arguments; one about a font names it
abbrev pub note_detail : NoteKind → TakenLine → List ℕ
note_detail UnknownFont line = unwrap_or (first_text line) []
note_detail _ line = []

-- whether that argument is quoted
abbrev pub note_is_quoted : NoteKind → TakenLine → Bool
note_is_quoted UnknownFont line = option_map_or (λ argument. is_quoted argument.quoting) (first_of (line_arguments line)) false
note_is_quoted _ line = false

abbrev pub note_events : TakenLine → Option NoteKind → List (Event (List ℕ))
note_events line None = []
note_events line (Some kind) = at_name line (kinds.Note kind (note_detail kind line) (note_is_quoted kind line) true) ∷ []

-- a font that is not known is told of
abbrev pub block_note : BlockMacro → TakenLine → Option NoteKind
block_note blocks.List line = list_note (list_options (line_arguments line))
block_note blocks.Fonts line = if is_some (given_font (first_text line)) then None else Some UnknownFont
block_note _ line = None

abbrev pub begin_front : BlockMacro → TakenLine → List (Event (List ℕ))
begin_front block line =
    missing_quote true line ++ (note_events line (block_note block line) ++ (at_name line (kinds.Open (openers.Block (opener_of block line))) ∷ []))

abbrev pub end_front : BlockMacro → TakenLine → List (Event (List ℕ))
end_front block line = missing_quote false line ++ (at_name line (kinds.Close (closers.Block (closer_of block))) ∷ [])

-- ---- fields of a reference (`%A` and so on)

-- one of the arguments is no delimiter
abbrev pub has_real_word : TakenLine → Bool
has_real_word line = list_any is_real (line_arguments line)

abbrev pub field_front : Bool → TakenLine → List (Event (List ℕ))
field_front true line = at_name line (kinds.Leaf (leaves.Step steps.NextField)) ∷ []
field_front false line = refusal EmptyMacro line ∷ []

-- ---- sentences (`Ex`, `Rv`)

-- their option
abbrev pub is_standard : Argument (List ℕ) → Bool
is_standard word = bytes_eq word.text (codes "-std")

-- the quote that it lacks at its end
abbrev pub option_quote : List (Argument (List ℕ)) → Option ℕ
option_quote [] = None
option_quote (word ∷ words) = if is_standard word && is_unclosed word.quoting then Some (word.column - 1) else None

-- the arguments after it
abbrev pub given_names : List (Argument (List ℕ)) → List (Argument (List ℕ))
given_names [] = []
given_names (word ∷ words) = if is_standard word then words else word ∷ words

-- ---- files of declarations (`In`)

-- one without a word is refused
abbrev pub include_front : Bool → TakenLine → List (Event (List ℕ))
include_front true line = []
include_front false line = refusal EmptyMacro line ∷ []

-- ---- blanks between words (`Sm`)

-- what the first argument says: with none it changes, any other than these says nothing
abbrev pub spacing_of : Option (List ℕ) → Option (Option Bool)
spacing_of None = Some None
spacing_of (Some text) =
    if bytes_eq text (codes "on") then Some (Some true)
    else if bytes_eq text (codes "off") then Some (Some false)
    else None

abbrev pub spacing_kind : Option (Option Bool) → Option (EventKind (List ℕ))
spacing_kind None = None
spacing_kind (Some on) = Some (kinds.Leaf (leaves.Step (steps.Spacing on)))

abbrev pub spacing_front : TakenLine → List (Event (List ℕ))
spacing_front line = missing_quote false line ++ kind_at_name line (spacing_kind (spacing_of (first_text line)))

-- ---- all of them

-- what a macro does before its words; macros that can be among words have no front of their own
abbrev pub block_front : LineMacro → TakenLine → List (Event (List ℕ))
block_front (lines.Inline inline) line = []
block_front (lines.Prologue name) line = missing_quote false line ++ (at_name line (kinds.Leaf (leaves.Prologue name (rest_of line))) ∷ [])
block_front (lines.Heading name) line =
    at_name line (kinds.Open (heading_opener name)) ∷ at_name line (kinds.LineScope (scopes.Heading name)) ∷ []
block_front (lines.Paragraph name) line = missing_quote false line ++ (at_name line (kinds.Leaf (leaves.Step (steps.BodyParagraph name))) ∷ [])
block_front lines.Description line = at_name line (kinds.LineScope scopes.Description) ∷ []
block_front (lines.OneLine name) line = at_name line (kinds.LineScope (scopes.OneLine name)) ∷ []
block_front (lines.Begins block) line = begin_front block line
block_front (lines.Ends block) line = end_front block line
block_front lines.Item line = at_name line (kinds.Open openers.Item) ∷ at_name line (kinds.LineScope scopes.Head) ∷ []
block_front (lines.Field font) line = field_front (has_real_word line) line
block_front (lines.Sentence sentence) line = quote_events line.number true (option_quote (line_arguments line))
block_front lines.Include line = include_front (has_real_word line) line
block_front lines.Spacing line = spacing_front line
block_front lines.Target line = missing_quote false line
