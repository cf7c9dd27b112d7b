-- The events of a line of man(7), and the table of its macros. Source: man(7).
use Prim.Native.String.{String}
use Rattle.std.specs.Option.{option_or, option_map_or}
use Rattle.std.specs.Prelude.{ℕ, Bool, List, codes, true, false, [], ◌∷◌, Option, option_map, Some, None, ◌&&◌, ◌++◌, if◌then◌else◌, drop}
use Rattle.page_core_base.specs.Messages.{row_in}
use Rattle.page_core_base.specs.Texts.{TakenLine}
use Rattle.page_core_base.specs.declared.cells.Font.{Font}
use Rattle.page_core_base.specs.declared.cells.Font.TheVariants as fonts
use Rattle.page_core_base.specs.declared.note_kinds.NoteKind.{NoteKind}
use Rattle.page_core_base.specs.declared.note_kinds.NoteKind.TheVariants.{Unterminated, EmptyMacro, UnknownMacro}
use Rattle.page_core_base.specs.declared.places.Place.{Place}
use Rattle.page_roff_syntax.specs.Arguments.{has_arguments}
use Rattle.page_roff_syntax.specs.declared.quotes.Argument.{Argument}
use Rattle.page_sets_names.specs.declared.generated_texts.GeneratedText.{GeneratedText}
use Rattle.page_sets_names.specs.declared.generated_texts.GeneratedText.TheVariants as texts
use Rattle.page_sets_names.specs.declared.generated_texts.GeneratedText.TheVariants.{OpenParenthesis, CloseParenthesis}
use Rattle.page_sets_names.specs.declared.macro_names.FontMacro.TheVariants as names
use Rattle.page_sets_names.specs.declared.macro_names.HeadingName.TheVariants.{SH, SS}
use Rattle.page_sets_names.specs.declared.macro_names.Link.TheVariants as links
use Rattle.page_sets_names.specs.declared.macro_names.ParagraphName.TheVariants as paragraphs
use Rattle.page_sets_names.specs.declared.macro_names.Prologue.TheVariants.{TH}
use Rattle.page_sets_names.specs.declared.macro_names.TagName.TheVariants.{TP, TQ}
use Rattle.page_sets_lines.specs.Lines.{layout_request, first_of, second_of, text_of, request, word_event, generated_word, event_at, open_quote, line_end, name_end, name_of, name_place, rest_of, arguments_after, is_nameless, plain_events, plain_line}
use Rattle.page_sets_lines.specs.declared.events.Event.{Event}
use Rattle.page_sets_lines.specs.declared.events.EventKind.{EventKind}
use Rattle.page_sets_lines.specs.declared.events.EventKind.TheVariants as kinds
use Rattle.page_sets_lines.specs.declared.events.Join.{Join}
use Rattle.page_sets_lines.specs.declared.events.Join.TheVariants.{Apart, Glued}
use Rattle.page_sets_lines.specs.declared.events.Role.TheVariants as roles
use Rattle.page_sets_lines.specs.declared.leaves.Leaf.{Leaf}
use Rattle.page_sets_lines.specs.declared.leaves.Leaf.TheVariants as leaves
use Rattle.page_sets_lines.specs.declared.openers.Closer.{Closer}
use Rattle.page_sets_lines.specs.declared.openers.Closer.TheVariants as closers
use Rattle.page_sets_lines.specs.declared.openers.LineOpener.{LineOpener}
use Rattle.page_sets_lines.specs.declared.openers.LineOpener.TheVariants as scopes
use Rattle.page_sets_lines.specs.declared.openers.LineOpener.TheVariants.{Heading, Tag}
use Rattle.page_sets_lines.specs.declared.openers.Opener.{Opener}
use Rattle.page_sets_lines.specs.declared.openers.Opener.TheVariants as openers
use Rattle.page_sets.specs.declared.man_gives.Quote.{Quote}
use Rattle.page_sets.specs.declared.man_rows.Alone.{Alone}
use Rattle.page_sets.specs.declared.man_rows.Alone.TheVariants.{Same, Empty, Scope}
use Rattle.page_sets.specs.declared.man_rows.Closes.{Closes}
use Rattle.page_sets.specs.declared.man_rows.Closes.TheVariants as closes
use Rattle.page_sets.specs.declared.man_rows.Effect.{Effect}
use Rattle.page_sets.specs.declared.man_rows.Effect.TheVariants as effects
use Rattle.page_sets.specs.declared.man_rows.Last.{Last}
use Rattle.page_sets.specs.declared.man_rows.Last.TheVariants as lasts
use Rattle.page_sets.specs.declared.man_rows.Opens.{Opens}
use Rattle.page_sets.specs.declared.man_rows.Opens.TheVariants as opens
use Rattle.page_sets.specs.declared.man_rows.Quotes.{Quotes}
use Rattle.page_sets.specs.declared.man_rows.Quotes.TheVariants.{Printed, After, BodyAfter}
use Rattle.page_sets.specs.declared.man_rows.ManRow.{ManRow}
use Rattle.page_sets.specs.declared.man_rows.Sets.{Sets}
use Rattle.page_sets.specs.declared.man_rows.Sets.TheVariants as sets
use Rattle.page_sets.specs.declared.man_rows.Words.{Words}
use Rattle.page_sets.specs.declared.man_rows.Words.TheVariants as words

-- ---- The table of macros: what each needs and what it gives. Source: man(7), "MACRO REFERENCE".

-- a row of the table: a name; what it does without arguments; whether it breaks the line scopes that are open; of which arguments a missing
-- closing quote is reported early; its effect; what becomes of its arguments; and what comes after them
abbrev pub row : String → Alone → Bool → Quotes → Effect → Words → Last → List ℕ × ManRow
row name alone breaks quotes effect words last =
    (codes name, record { alone = alone; breaks = breaks; quotes = quotes; effect = effect; words = words; last = last })

-- the table
abbrev pub table : List (List ℕ × ManRow)
table =
    row "AT" Same true (After 0) effects.Nothing words.Nothing lasts.Nothing ∷
    row "B" (Scope (scopes.FontWords names.B)) false Printed (effects.Sets (sets.FontBegins fonts.B)) words.Plain lasts.FontEnds ∷
    row "BR" Empty false Printed effects.Nothing (words.Alternating fonts.B fonts.R) lasts.Nothing ∷
    row "BI" Empty false Printed effects.Nothing (words.Alternating fonts.B fonts.I) lasts.Nothing ∷
    row "DT" Same true (After 0) effects.Nothing words.Nothing lasts.Nothing ∷
    row "EX" Same false (After 0) (effects.Sets (sets.Example true)) words.Nothing lasts.Nothing ∷
    row "EE" Same false (After 0) (effects.Sets (sets.Example false)) words.Nothing lasts.Nothing ∷
    row "HP" Same true (BodyAfter 0) (effects.Opens opens.Hanging) words.Nothing lasts.Nothing ∷
    row "I" (Scope (scopes.FontWords names.I)) false Printed (effects.Sets (sets.FontBegins fonts.I)) words.Plain lasts.FontEnds ∷
    row "IP" Same true (BodyAfter 1) (effects.Opens opens.Indented) words.Nothing lasts.Nothing ∷
    row "IR" Empty false Printed effects.Nothing (words.Alternating fonts.I fonts.R) lasts.Nothing ∷
    row "IB" Empty false Printed effects.Nothing (words.Alternating fonts.I fonts.B) lasts.Nothing ∷
    row "LP" Same true (BodyAfter 0) (effects.Opens (opens.Paragraph paragraphs.LP)) words.Nothing lasts.Nothing ∷
    row "MT" Empty true (BodyAfter 0) (effects.Opens (opens.Target links.MT)) words.Nothing lasts.Nothing ∷
    row "ME" Same true Printed (effects.Closes (closes.Target links.MT)) words.Further lasts.Nothing ∷
    row "MR" Empty false (BodyAfter 3) effects.Nothing words.Reference lasts.Nothing ∷
    row "OP" Empty false (BodyAfter 2) (effects.Sets (sets.Mark texts.OpenBracket)) words.Option (lasts.Mark texts.CloseBracket) ∷
    row "PP" Same true (BodyAfter 0) (effects.Opens (opens.Paragraph paragraphs.PP)) words.Nothing lasts.Nothing ∷
    row "P" Same true (BodyAfter 0) (effects.Opens (opens.Paragraph paragraphs.P)) words.Nothing lasts.Nothing ∷
    row "PD" Same false (After 0) (effects.Sets sets.Distance) words.Nothing lasts.Nothing ∷
    row "RB" Empty false Printed effects.Nothing (words.Alternating fonts.R fonts.B) lasts.Nothing ∷
    row "RI" Empty false Printed effects.Nothing (words.Alternating fonts.R fonts.I) lasts.Nothing ∷
    row "RS" Same true (BodyAfter 0) (effects.Opens opens.RelativeMargin) words.Nothing lasts.Nothing ∷
    row "RE" Same true (After 0) (effects.Closes closes.RelativeMargin) words.Nothing lasts.Nothing ∷
    row "SH" Same true Printed (effects.Opens opens.Section) words.Plain lasts.Nothing ∷
    row "SS" Same true Printed (effects.Opens opens.Subsection) words.Plain lasts.Nothing ∷
    row "SM" (Scope (scopes.FontWords names.SM)) false Printed (effects.Sets (sets.FontBegins fonts.R)) words.Plain lasts.FontEnds ∷
    row "SB" (Scope (scopes.FontWords names.SB)) false Printed (effects.Sets (sets.FontBegins fonts.B)) words.Plain lasts.FontEnds ∷
    row "SY" Empty true Printed (effects.Opens opens.Syntax) words.Further lasts.Nothing ∷
    row "TP" Same true (BodyAfter 0) (effects.Opens opens.Tagged) words.Nothing lasts.Nothing ∷
    row "TQ" Same true (BodyAfter 0) (effects.Sets sets.FurtherTag) words.Nothing lasts.Nothing ∷
    row "TH" Same false (After 0) (effects.Sets sets.Title) words.Nothing lasts.Nothing ∷
    row "UR" Empty true (BodyAfter 0) (effects.Opens (opens.Target links.UR)) words.Nothing lasts.Nothing ∷
    row "UE" Same true Printed (effects.Closes (closes.Target links.UR)) words.Further lasts.Nothing ∷
    row "UC" Same true (After 0) effects.Nothing words.Nothing lasts.Nothing ∷
    row "YS" Same true (After 0) (effects.Closes closes.Syntax) words.Nothing lasts.Nothing ∷
    []

-- the row of a macro
unfoldable pub macro_row : List ℕ → Option ManRow
macro_row name = row_in table name

-- a request, or a macro that breaks no line scope and prints nothing
abbrev pub quiet : Sets → ManRow
quiet change = record {
  alone = Same;
  breaks = false;
  quotes = After 0;
  effect = effects.Sets change;
  words = words.Nothing;
  last = lasts.Nothing;
}

-- requests are known to every set
abbrev pub request_row : List ℕ → Option ManRow
request_row name = option_map (λ request. quiet (sets.Request request)) (layout_request name)

-- the row of a name
abbrev pub row_of : List ℕ → Option ManRow
row_of name = option_or (macro_row name) (request_row name)

-- ---- The events of a line. Source: man(7).

-- ---- what a macro does

-- what it opens (`SH SS PP LP P TP IP HP RS UR MT SY`)
abbrev pub opener : Opens → List (Argument (List ℕ)) → Option (Opener (List ℕ))
opener opens.Section arguments = Some openers.Section
opener opens.Subsection arguments = Some openers.Subsection
opener (opens.Paragraph name) arguments = Some (openers.Paragraph name)
opener opens.Tagged arguments = Some (openers.Tagged (text_of (first_of arguments)))
opener opens.Indented arguments = Some (openers.Indented (first_of arguments) (text_of (second_of arguments)))
opener opens.Hanging arguments = Some (openers.Hanging (text_of (first_of arguments)))
opener opens.RelativeMargin arguments = Some (openers.RelativeMargin (text_of (first_of arguments)))
opener (opens.Target link) arguments = option_map (openers.Target link) (first_of arguments)
opener opens.Syntax arguments = option_map openers.Syntax (first_of arguments)

-- what it closes (`RE`, `UE`, `ME`, `YS`)
abbrev pub closer : Closes → List (Argument (List ℕ)) → Closer (List ℕ)
closer closes.RelativeMargin arguments = closers.RelativeMargin (text_of (first_of arguments))
closer (closes.Target link) arguments = closers.Target link (first_of arguments)
closer closes.Syntax arguments = closers.Syntax

-- what it changes, or prints before its words (`TH EX EE PD TQ B I SM SB OP`, and requests); the text is the rest of its line
abbrev pub leaf : Sets → List ℕ → List (Argument (List ℕ)) → Leaf (List ℕ)
leaf (sets.Request name) rest arguments = leaves.Request (request name (first_of arguments))
leaf sets.Title rest arguments = leaves.Prologue TH rest
leaf (sets.Example begins) rest arguments = leaves.Example begins
leaf sets.Distance rest arguments = leaves.Distance (text_of (first_of arguments))
leaf sets.FurtherTag rest arguments = leaves.FurtherTag
leaf (sets.FontBegins font) rest arguments = leaves.Fonts (Some font)
leaf (sets.Mark text) rest arguments = leaves.Generated (record { text = text; font = None; before = Apart; after = Glued })

abbrev pub effect_kind : Effect → List ℕ → List (Argument (List ℕ)) → Option (EventKind (List ℕ))
effect_kind effects.Nothing rest arguments = None
effect_kind (effects.Opens scope) rest arguments = option_map kinds.Open (opener scope arguments)
effect_kind (effects.Closes scope) rest arguments = Some (kinds.Close (closer scope arguments))
effect_kind (effects.Sets change) rest arguments = Some (kinds.Leaf (leaf change rest arguments))

-- the line scope that it opens
abbrev pub line_scope : Effect → Option LineOpener
line_scope (effects.Opens opens.Section) = Some (Heading SH)
line_scope (effects.Opens opens.Subsection) = Some (Heading SS)
line_scope (effects.Opens opens.Tagged) = Some (Tag TP)
line_scope (effects.Sets sets.FurtherTag) = Some (Tag TQ)
line_scope _ = None

-- ---- its words

-- an argument as a word
abbrev pub argument_word : ℕ → Option Font → Join → Argument (List ℕ) → Event (List ℕ)
argument_word number font before argument = word_event number roles.Argument font before Apart argument

-- a mark of the macro's own
abbrev pub mark : Place → GeneratedText → Join → Join → Event (List ℕ)
mark place text before after = generated_word place text None before after

-- all arguments, in the font around them
abbrev pub plain_words : ℕ → List (Argument (List ℕ)) → List (Event (List ℕ))
plain_words number [] = []
plain_words number (argument ∷ arguments) = argument_word number None Apart argument ∷ plain_words number arguments

-- all arguments, in two fonts in turn, glued (`BI BR IB IR RB RI`)
abbrev pub alternating_words : ℕ → Font → Font → Join → List (Argument (List ℕ)) → List (Event (List ℕ))
alternating_words number font other before [] = []
alternating_words number font other before (argument ∷ arguments) =
    argument_word number (Some font) before argument ∷ alternating_words number other font Glued arguments

-- the first argument alone
abbrev pub one_word : ℕ → Option Font → Join → List (Argument (List ℕ)) → List (Event (List ℕ))
one_word number font before [] = []
one_word number font before (argument ∷ arguments) = argument_word number font before argument ∷ []

-- a key in bold, then its value in italic (`OP`)
abbrev pub option_words : ℕ → List (Argument (List ℕ)) → List (Event (List ℕ))
option_words number [] = []
option_words number (key ∷ arguments) = argument_word number (Some fonts.B) Apart key ∷ one_word number (Some fonts.I) Apart arguments

-- a section in parentheses, and a suffix, all glued
abbrev pub section_words : Place → List (Argument (List ℕ)) → List (Event (List ℕ))
section_words place [] = []
section_words place (section ∷ arguments) =
    mark place OpenParenthesis Glued Glued ∷ argument_word place.line None Apart section ∷ mark place CloseParenthesis Glued Apart
    ∷ one_word place.line None Glued arguments

-- a name in italic, with its section and suffix (`MR`)
abbrev pub reference_words : Place → List (Argument (List ℕ)) → List (Event (List ℕ))
reference_words place [] = []
reference_words place (name ∷ arguments) = argument_word place.line (Some fonts.I) Apart name ∷ section_words place arguments

-- further words are the arguments after the first, which the macro's effect takes: words of the text, in the font around them (`UE ME SY`)
abbrev pub words_events : Place → Words → List (Argument (List ℕ)) → List (Event (List ℕ))
words_events place words.Nothing arguments = []
words_events place words.Plain arguments = plain_words place.line arguments
words_events place (words.Alternating font other) arguments = alternating_words place.line font other Apart arguments
words_events place words.Option arguments = option_words place.line arguments
words_events place words.Reference arguments = reference_words place arguments
words_events place words.Further arguments = plain_words place.line (drop 1 arguments)

abbrev pub has_words : Words → Bool
has_words words.Nothing = false
has_words _ = true

-- ---- the events of a line

-- the quote of an argument without its closing one, which is reported before the macro has its effect
abbrev pub quote_at : Bool → Option ℕ → Option Quote
quote_at begins_body None = None
quote_at begins_body (Some column) = Some (record { column = column; begins_body = begins_body })

abbrev pub missing_quote : Quotes → List (Argument (List ℕ)) → Option Quote
missing_quote Printed arguments = None
missing_quote (After printed) arguments = quote_at false (open_quote printed arguments)
missing_quote (BodyAfter printed) arguments = quote_at true (open_quote printed arguments)

abbrev pub quote_events : ℕ → Option Quote → List (Event (List ℕ))
quote_events number None = []
quote_events number (Some quote) = event_at (record { line = number; column = quote.column }) (kinds.Note Unterminated [] false quote.begins_body) ∷ []

abbrev pub kind_events : Place → Option (EventKind (List ℕ)) → List (Event (List ℕ))
kind_events place None = []
kind_events place (Some kind) = event_at place kind ∷ []

abbrev pub last_events : Place → Last → List (Event (List ℕ))
last_events place lasts.Nothing = []
last_events place lasts.FontEnds = event_at place (kinds.Leaf (leaves.Fonts None)) ∷ []
last_events place (lasts.Mark text) = mark place text Glued Apart ∷ []

-- a macro with its arguments: it breaks line scopes, a missing quote is reported, it has its effect, opens a line scope, and gives its words;
-- where it has words, the line fills line scopes
abbrev pub macro_events : Place → ManRow → List ℕ → List (Argument (List ℕ)) → List (Event (List ℕ))
macro_events place row rest arguments =
    (if row.breaks then event_at place (kinds.Close closers.Line) ∷ [] else [])
    ++ (quote_events place.line (missing_quote row.quotes arguments)
    ++ (kind_events place (effect_kind row.effect rest arguments)
    ++ (kind_events place (option_map kinds.LineScope (line_scope row.effect))
    ++ (words_events place row.words arguments
    ++ (last_events place row.last ++ line_end place.line (has_words row.words && has_arguments rest) ∷ [])))))

-- a message about a macro's name
abbrev pub refused_events : NoteKind → Place → List ℕ → List (Event (List ℕ))
refused_events kind place name = event_at place (kinds.Note kind name false false) ∷ line_end place.line false ∷ []

-- a macro without arguments
abbrev pub lone_events : Alone → Place → List ℕ → List (Event (List ℕ)) → List (Event (List ℕ))
lone_events Same place name events = events
lone_events Empty place name events = refused_events EmptyMacro place name
lone_events (Scope opener) place name events =
    event_at place (kinds.LineScope opener) ∷ line_end place.line false ∷ []

abbrev pub row_events : Place → List ℕ → List ℕ → List (Argument (List ℕ)) → ManRow → List (Event (List ℕ))
row_events place name rest arguments row =
    if has_arguments rest then macro_events place row rest arguments
    else lone_events row.alone place name (macro_events place row rest arguments)

-- a macro by its row, if its name has one
abbrev pub named_events : TakenLine → Option ManRow → List (Event (List ℕ))
named_events line None = refused_events UnknownMacro (name_place line) (name_of line)
named_events line (Some row) =
    row_events (name_place line) (name_of line) (rest_of line) (arguments_after (name_end line) line.text) row

-- a line without a name does nothing
abbrev pub control_events : TakenLine → List (Event (List ℕ))
control_events line =
    if is_nameless line then line_end line.number false ∷ [] else named_events line (row_of (name_of line))

-- the events of a line
unfoldable pub man_events : TakenLine → List (Event (List ℕ))
man_events line = option_map_or (plain_events line.number line.text) (plain_line line.form line.text) (control_events line)
