-- The events of a macro among the words of a line. Source: mdoc(7).
use Rattle.std.specs.List.{list_any}
use Rattle.std.specs.Prelude.{ℕ, List, Option, Some, None, [], ◌∷◌, Bool, true, false, if◌then◌else◌, ◌&&◌, ◌++◌, ◌-◌}
use Rattle.page_core_base.specs.declared.cells.Font.{Font}
use Rattle.page_core_base.specs.declared.cells.Font.TheVariants.{R, B, I}
use Rattle.page_core_base.specs.declared.note_kinds.NoteKind.TheVariants.{EmptyMacro, Unterminated}
use Rattle.page_core_base.specs.declared.places.Place.{Place}
use Rattle.page_roff_syntax.specs.declared.quotes.Argument.{Argument}
use Rattle.page_sets_names.specs.declared.generated_texts.GeneratedText.{GeneratedText}
use Rattle.page_sets_names.specs.declared.generated_texts.GeneratedText.TheVariants as owns
use Rattle.page_sets_lines.specs.Lines.{word_event, event_at, generated_word, word_place, is_unclosed}
use Rattle.page_sets_lines.specs.declared.blocks.BlockCloser.TheVariants as closers
use Rattle.page_sets_lines.specs.declared.blocks.BlockOpener.TheVariants as openers
use Rattle.page_sets_lines.specs.declared.events.Event.{Event}
use Rattle.page_sets_lines.specs.declared.events.EventKind.TheVariants as kinds
use Rattle.page_sets_lines.specs.declared.events.Join.TheVariants.{Apart, Glued}
use Rattle.page_sets_lines.specs.declared.events.Role.TheVariants as roles
use Rattle.page_sets_lines.specs.declared.leaves.Leaf.TheVariants as leaves
use Rattle.page_sets_lines.specs.declared.line_steps.LineStep.{LineStep}
use Rattle.page_sets_lines.specs.declared.line_steps.LineStep.TheVariants as steps
use Rattle.page_sets_lines.specs.declared.openers.Closer.TheVariants as ends
use Rattle.page_sets_lines.specs.declared.openers.LineOpener.TheVariants as lines
use Rattle.page_sets_lines.specs.declared.openers.Opener.TheVariants as begins
use Rattle.page_sets_mdoc_lines.specs.Parts.{word_delimiter, is_real, inside, outside}
use Rattle.page_sets_mdoc_lines.specs.declared.delimiters.Delimiter.{Delimiter}
use Rattle.page_sets_mdoc_lines.specs.declared.delimiters.Delimiter.TheVariants.{Opening, Middle, Closing}
use Rattle.page_sets_mdoc_lines.specs.declared.macros.Defaulted.{Defaulted}
use Rattle.page_sets_mdoc_lines.specs.declared.macros.Defaulted.TheVariants as defaults
use Rattle.page_sets_mdoc_lines.specs.declared.macros.Inline.{Inline}
use Rattle.page_sets_mdoc_lines.specs.declared.macros.Inline.TheVariants as inlines
use Rattle.page_sets_mdoc_lines.specs.declared.macros.Pair.{Pair}
use Rattle.page_sets_mdoc_lines.specs.declared.macros.Pair.TheVariants as pairs
use Rattle.page_sets_mdoc_lines.specs.declared.macros.System.{System}
use Rattle.page_sets_mdoc_lines.specs.declared.macros.System.TheVariants as systems

-- ---- Words and delimiters as they are printed. Source: mdoc(7), "MACRO SYNTAX" and "Delimiters".

-- delimiters are roman; there is no blank after an opening one, and none before a closing one
abbrev pub delimiter_word : ℕ → Delimiter → Argument (List ℕ) → Event (List ℕ)
delimiter_word number Opening word = word_event number roles.Delimiter (Some R) Apart Glued word
delimiter_word number Middle word = word_event number roles.Delimiter (Some R) Apart Apart word
delimiter_word number Closing word = word_event number roles.Delimiter (Some R) Glued Apart word

abbrev pub word_or_delimiter : ℕ → Option Font → Option Delimiter → Argument (List ℕ) → Event (List ℕ)
word_or_delimiter number font None word = word_event number roles.Argument font Apart Apart word
word_or_delimiter number font (Some delimiter) word = delimiter_word number delimiter word

-- a word in a font, or a delimiter in its place
abbrev pub printed_word : ℕ → Option Font → Argument (List ℕ) → Event (List ℕ)
printed_word number font word = word_or_delimiter number font (word_delimiter word) word

-- the words of a macro in a font, with the delimiters among them
abbrev pub printed : ℕ → Option Font → List (Argument (List ℕ)) → List (Event (List ℕ))
printed number font [] = []
printed number font (word ∷ words) = printed_word number font word ∷ printed number font words

abbrev pub step_event : Place → LineStep (List ℕ) → Event (List ℕ)
step_event place step = event_at place (kinds.Leaf (leaves.Step step))

abbrev pub opens : Option Delimiter → Bool
opens (Some Opening) = true
opens _ = false

unfoldable pub is_opening : Argument (List ℕ) → Bool
is_opening word = opens (word_delimiter word)

-- ---- The events of a macro among the words of a line. Source: mdoc(7), "MACRO REFERENCE".

-- ---- macros without words

-- a message that names the macro
abbrev pub empty_macro : Place → List ℕ → Event (List ℕ)
empty_macro place name = event_at place (kinds.Note EmptyMacro name false false)

abbrev pub refused : Place → List ℕ → List (Argument (List ℕ)) → List (Event (List ℕ))
refused place name words = empty_macro place name ∷ printed place.line None words

-- where all words are delimiters a macro that needs others is refused
abbrev pub with_words : Place → List ℕ → List (Argument (List ℕ)) → List (Event (List ℕ)) → List (Event (List ℕ))
with_words place name words events =
    if list_any is_real words then events else refused place name words

-- what a macro prints where all its words are delimiters: it is after the opening ones. It is made knowing whether no word comes after it.
abbrev pub lone : ℕ → (Bool → Event (List ℕ)) → List (Argument (List ℕ)) → List (Event (List ℕ))
lone number event [] = event true ∷ []
lone number event (word ∷ words) =
    if is_opening word then printed_word number None word ∷ lone number event words
    else event false ∷ printed number None (word ∷ words)

-- ---- `Nm Ar Pa Fl`

-- the first real word is the manual's name, if it has none yet; the macro's column goes with it
abbrev pub named : Place → List (Argument (List ℕ)) → List (Event (List ℕ))
named place [] = []
named place (word ∷ words) =
    if is_real word then word_event place.line (roles.Name place.column) (Some B) Apart Apart word ∷ printed place.line (Some B) words
    else printed_word place.line None word ∷ named place words

abbrev pub manual_name : Place → Bool → Event (List ℕ)
manual_name place is_last = step_event place steps.ManualName

abbrev pub default_text : Defaulted → GeneratedText
default_text defaults.Files = owns.Files
default_text defaults.Home = owns.Home

abbrev pub default_word : Place → Defaulted → Bool → Event (List ℕ)
default_word place default is_last = generated_word place (default_text default) (Some I) Apart Apart

-- each flag has a dash before it
abbrev pub flags : ℕ → List (Argument (List ℕ)) → List (Event (List ℕ))
flags number [] = []
flags number (word ∷ words) =
    if is_real word then generated_word (word_place number word) owns.Dash (Some B) Apart Glued ∷ printed_word number (Some B) word ∷ flags number words
    else printed_word number None word ∷ flags number words

-- a dash alone is glued to what a call right after it prints
abbrev pub lone_dash : Place → Bool → Bool → Event (List ℕ)
lone_dash place follows is_last =
    generated_word place (if is_last && follows then owns.JoinedFlag else owns.Flag) (Some B) Apart Apart

-- ---- `Xr`

-- the name of another manual, then its section in parentheses
abbrev pub section : ℕ → List (Argument (List ℕ)) → List (Event (List ℕ))
section number [] = []
section number (word ∷ words) =
    if is_real word then
    generated_word (word_place number word) owns.OpenParenthesis None Glued Glued
    ∷ printed_word number None word
    ∷ generated_word (word_place number word) owns.CloseParenthesis None Glued Apart
    ∷ printed number None words
    else printed_word number None word ∷ section number words

abbrev pub reference : ℕ → List (Argument (List ℕ)) → List (Event (List ℕ))
reference number [] = []
reference number (word ∷ words) =
    printed_word number None word ∷ (if is_real word then section number words else reference number words)

-- ---- `Fn`

-- there is a comma before each argument but the first
abbrev pub more_arguments : Place → List (Argument (List ℕ)) → List (Event (List ℕ))
more_arguments place [] = []
more_arguments place (word ∷ words) =
    if is_real word then generated_word place owns.Comma None Glued Apart ∷ printed_word place.line (Some I) word ∷ more_arguments place words
    else printed_word place.line (Some I) word ∷ more_arguments place words

abbrev pub arguments : Place → List (Argument (List ℕ)) → List (Event (List ℕ))
arguments place [] = []
arguments place (word ∷ words) =
    printed_word place.line (Some I) word ∷ (if is_real word then more_arguments place words else arguments place words)

-- the name of the function, and then its arguments
abbrev pub function_words : Place → List (Argument (List ℕ)) → List (Event (List ℕ))
function_words place [] = []
function_words place (word ∷ words) =
    printed_word place.line (Some B) word
    ∷ (if is_real word then generated_word place owns.OpenParenthesis None Glued Glued ∷ arguments place words else function_words place words)

-- the closing delimiters at the end come after the parentheses, and after what ends the function in the SYNOPSIS
abbrev pub function_end : Place → List (Argument (List ℕ)) → List (Event (List ℕ))
function_end place words = step_event place steps.FunctionEnd ∷ printed place.line None words

abbrev pub function : Place → List (Argument (List ℕ)) → List (Event (List ℕ))
function place words = function_words place (inside words) ++ function_end place (outside words)

-- ---- `Fa`, `Fo`

-- each is the next argument of the function that is open
abbrev pub next_arguments : Place → List (Argument (List ℕ)) → List (Event (List ℕ))
next_arguments place [] = []
next_arguments place (word ∷ words) =
    if is_real word then step_event place steps.NextArgument ∷ printed_word place.line (Some I) word ∷ next_arguments place words
    else printed_word place.line None word ∷ next_arguments place words

-- the first word that is no delimiter is the name of a function that goes on over lines
abbrev pub function_opened : Place → List (Argument (List ℕ)) → List (Event (List ℕ))
function_opened place [] = []
function_opened place (word ∷ words) =
    if is_real word then event_at place (kinds.Open (begins.Block (openers.Function word))) ∷ printed place.line None words
    else printed_word place.line None word ∷ function_opened place words

-- ---- `Bsx Dx Fx Nx Ox Ux Bx`

abbrev pub system_text : System → GeneratedText
system_text systems.BsdOs = owns.BsdOs
system_text systems.DragonFly = owns.DragonFly
system_text systems.FreeBsd = owns.FreeBsd
system_text systems.NetBsd = owns.NetBsd
system_text systems.OpenBsd = owns.OpenBsd
system_text systems.Unix = owns.Unix

-- a version is before its name
abbrev pub bsd : Place → List (Argument (List ℕ)) → List (Event (List ℕ))
bsd place [] = generated_word place owns.Bsd None Apart Apart ∷ []
bsd place (word ∷ words) =
    if is_real word then printed_word place.line None word ∷ generated_word place owns.Bsd None Glued Apart ∷ printed place.line None words
    else if is_opening word then printed_word place.line None word ∷ bsd place words
    else generated_word place owns.Bsd None Apart Apart ∷ printed place.line None (word ∷ words)

-- ---- `Lk`

abbrev pub colon : Place → Event (List ℕ)
colon place = generated_word place owns.Colon None Glued Apart

abbrev pub uri_event : Place → Argument (List ℕ) → Event (List ℕ)
uri_event place uri = step_event place (steps.Uri uri)

-- the texts of an address come before it
abbrev pub address : Place → Argument (List ℕ) → List (Argument (List ℕ)) → List (Event (List ℕ))
address place uri [] = uri_event place uri ∷ []
address place uri (text ∷ texts) =
    printed place.line (Some I) (text ∷ texts) ++ (colon place ∷ uri_event place uri ∷ [])

abbrev pub link_words : Place → List (Argument (List ℕ)) → List (Event (List ℕ))
link_words place [] = []
link_words place (word ∷ words) =
    if is_real word then address place word words
    else printed_word place.line None word ∷ link_words place words

abbrev pub link : Place → List (Argument (List ℕ)) → List (Event (List ℕ))
link place words = link_words place (inside words) ++ printed place.line None (outside words)

-- ---- words that are taken as they are: `An Pf Eo Ec`

-- an option that prints nothing may lack its last quote
abbrev pub missing_quote : ℕ → Argument (List ℕ) → List (Event (List ℕ))
missing_quote number option =
    if is_unclosed option.quoting then event_at (record { line = number; column = option.column - 1 }) (kinds.Note Unterminated [] false false) ∷ [] else []

-- the option counts as a word
abbrev pub author : Place → List ℕ → Option (Argument (List ℕ)) → List (Argument (List ℕ)) → List (Event (List ℕ))
author place name None words = with_words place name words (printed place.line (Some R) words)
author place name (Some option) words = missing_quote place.line option ++ printed place.line (Some R) words

abbrev pub prefix : Place → List ℕ → Option (Argument (List ℕ)) → List (Argument (List ℕ)) → List (Event (List ℕ))
prefix place name None words = refused place name words
prefix place name (Some word) words = word_event place.line roles.Argument None Apart Glued word ∷ printed place.line None words

-- ---- enclosures

abbrev pub opened : Place → List ℕ → Pair → Option (Argument (List ℕ)) → List (Argument (List ℕ)) → List (Event (List ℕ))
opened place name (pairs.Quotation quotation) taken words =
    event_at place (kinds.Open (begins.Block (openers.Quotation quotation))) ∷ printed place.line None words
opened place name pairs.Custom taken words = event_at place (kinds.Open (begins.Block (openers.Custom taken))) ∷ printed place.line None words
opened place name pairs.Extension taken words =
    event_at place (kinds.Open (begins.Block openers.Extension)) ∷ printed place.line None words
opened place name pairs.Function taken words = with_words place name words (function_opened place words)

abbrev pub closed : Place → Pair → Option (Argument (List ℕ)) → List (Argument (List ℕ)) → List (Event (List ℕ))
closed place (pairs.Quotation quotation) taken words =
    event_at place (kinds.Close (ends.Block (closers.Quotation quotation))) ∷ printed place.line None words
closed place pairs.Custom taken words = event_at place (kinds.Close (ends.Block (closers.Custom taken))) ∷ printed place.line None words
closed place pairs.Extension taken words =
    event_at place (kinds.Close (ends.Block closers.Extension)) ∷ printed place.line None words
closed place pairs.Function taken words =
    event_at place (kinds.Close (ends.Block closers.Function)) ∷ printed place.line None words

-- ---- all of them

-- a macro of a line: where it is, its name, the word that it takes as it is, its other words, and whether calls come after them
abbrev pub inline_events : Place → List ℕ → Inline → Option (Argument (List ℕ)) → List (Argument (List ℕ)) → Bool → List (Event (List ℕ))
inline_events place name (inlines.Words font) taken words follows = with_words place name words (printed place.line (Some font) words)
inline_events place name inlines.Author taken words follows = author place name taken words
inline_events place name inlines.Declaration taken words follows = with_words place name words (printed place.line (Some B) words)
inline_events place name inlines.TypeName taken words follows = with_words place name words (printed place.line (Some I) words)
inline_events place name inlines.Arguments taken words follows = with_words place name words (next_arguments place words)
inline_events place name inlines.Name taken words follows =
    if list_any is_real words then named place words else lone place.line (manual_name place) words
inline_events place name (inlines.Defaulted default) taken words follows =
    if list_any is_real words then printed place.line (Some I) words else lone place.line (default_word place default) words
inline_events place name inlines.Flag taken words follows =
    if list_any is_real words then flags place.line words else lone place.line (lone_dash place follows) words
inline_events place name inlines.Reference taken words follows = with_words place name words (reference place.line words)
inline_events place name inlines.Function taken words follows = with_words place name words (function place words)
inline_events place name (inlines.System system) taken words follows = generated_word place (system_text system) None Apart Apart ∷ printed place.line None words
inline_events place name inlines.Bsd taken words follows = bsd place words
inline_events place name inlines.Link taken words follows = with_words place name words (link place words)
inline_events place name inlines.NoSpace taken words follows = step_event place steps.Glue ∷ printed place.line None words
inline_events place name inlines.Apostrophe taken words follows =
    generated_word place owns.Apostrophe None Glued Glued ∷ printed place.line None words
inline_events place name inlines.NextColumn taken words follows = step_event place steps.NextColumn ∷ printed place.line None words
inline_events place name inlines.Prefix taken words follows = prefix place name taken words
inline_events place name (inlines.Enclosure marks) taken words follows =
    event_at place (kinds.LineScope (lines.Enclosure marks)) ∷ printed place.line None words
inline_events place name (inlines.Opens pair) taken words follows = opened place name pair taken words
inline_events place name (inlines.Closes pair) taken words follows = closed place pair taken words
