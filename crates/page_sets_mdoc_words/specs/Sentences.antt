-- Macros that print sentences of their own, and what a macro does in the section SYNOPSIS. Source: mdoc(7), `Ex`, `Rv`, `In`.
use Rattle.std.specs.List.{list_any}
use Rattle.std.specs.Prelude.{ℕ, List, [], ◌∷◌, Bool, true, false, not, ◌&&◌, Option, None, Some, if◌then◌else◌, ◌++◌}
use Rattle.page_core_base.specs.declared.cells.Font.TheVariants.{B}
use Rattle.page_core_base.specs.declared.places.Place.{Place}
use Rattle.page_roff_syntax.specs.declared.quotes.Argument.{Argument}
use Rattle.page_sets_names.specs.declared.generated_texts.GeneratedText.{GeneratedText}
use Rattle.page_sets_names.specs.declared.generated_texts.GeneratedText.TheVariants as owns
use Rattle.page_sets_lines.specs.Lines.{generated_word, word_event}
use Rattle.page_sets_lines.specs.declared.events.Event.{Event}
use Rattle.page_sets_lines.specs.declared.events.Join.{Join}
use Rattle.page_sets_lines.specs.declared.events.Join.TheVariants.{Apart, Parted, Glued}
use Rattle.page_sets_lines.specs.declared.events.Role.TheVariants as roles
use Rattle.page_sets_lines.specs.declared.line_steps.LineStep.TheVariants as steps
use Rattle.page_sets_lines.specs.declared.line_steps.SynopsisStep.{SynopsisStep}
use Rattle.page_sets_lines.specs.declared.line_steps.SynopsisStep.TheVariants.{Include, Break, NameBegins, NameEnds}
use Rattle.page_sets_mdoc_lines.specs.Parts.{is_real}
use Rattle.page_sets_mdoc_lines.specs.declared.blocks.Sentence.{Sentence}
use Rattle.page_sets_mdoc_lines.specs.declared.blocks.Sentence.TheVariants.{Exit, Return}
use Rattle.page_sets_mdoc_lines.specs.declared.macros.Inline.{Inline}
use Rattle.page_sets_mdoc_lines.specs.declared.macros.Inline.TheVariants as inlines
use Rattle.page_sets_mdoc_lines.specs.declared.macros.Pair.TheVariants as pairs
use Rattle.page_sets_mdoc_words.specs.Inlines.{step_event, printed_word, printed, inline_events}
use Rattle.page_sets_mdoc_words.specs.declared.sentences.NameCount.{NameCount}
use Rattle.page_sets_mdoc_words.specs.declared.sentences.NameCount.TheVariants as counts

-- ---- What a macro does in the section SYNOPSIS, before its words and after them. Source: mdoc(7), `Cd`, `Fd`, `Fn`, `Fo`, `Ft`, `Nm`, `Vt`.

-- what begins a row where it begins a line: a type or a function (`Ft Vt Fn Fo`)
abbrev pub begins_row : Inline → Bool
begins_row inlines.TypeName = true
begins_row inlines.Function = true
begins_row (inlines.Opens pairs.Function) = true
begins_row _ = false

abbrev pub step_if : Bool → SynopsisStep → Option SynopsisStep
step_if test step = if test then Some step else None

-- a declaration (`Cd`, `Fd`) is on rows of its own, wherever it is; the name of the manual begins a row where it begins a line; a macro that is refused begins none
abbrev pub before_words : Bool → Inline → Bool → Option SynopsisStep
before_words first inlines.Declaration real = step_if real Break
before_words first inlines.Name real = step_if first NameBegins
before_words first inline real = step_if (first && (begins_row inline && real)) Break

-- the row of a declaration ends with its words, whatever follows in its line
abbrev pub after_words : Bool → Inline → Bool → Option SynopsisStep
after_words first inlines.Declaration real = step_if real Break
after_words first inlines.Name real = step_if first NameEnds
after_words first inline real = None

abbrev pub synopsis_event : Place → SynopsisStep → Event (List ℕ)
synopsis_event place step = step_event place (steps.Synopsis step)

abbrev pub preceded : Place → Option SynopsisStep → List (Event (List ℕ)) → List (Event (List ℕ))
preceded place None events = events
preceded place (Some step) events = synopsis_event place step ∷ events

abbrev pub followed : Place → Option SynopsisStep → List (Event (List ℕ)) → List (Event (List ℕ))
followed place None events = events
followed place (Some step) events = events ++ (synopsis_event place step ∷ [])

-- events with one before them and one after them, where there are such
abbrev pub framed : Place → (before after : Option SynopsisStep) → List (Event (List ℕ)) → List (Event (List ℕ))
framed place before after events = preceded place before (followed place after events)

-- all events of a macro, where it begins its line or not: where it is, its name, the word that it takes as it is, its other words, and whether calls come after them
abbrev pub placed_events : Bool → Place → List ℕ → Inline → Option (Argument (List ℕ)) → List (Argument (List ℕ)) → Bool → List (Event (List ℕ))
placed_events first place name inline taken words follows =
    framed place (before_words first inline (list_any is_real words)) (after_words first inline (list_any is_real words))
    (inline_events place name inline taken words follows)

-- ---- Words of macros that begin a line and read all of it: the sentences of `Ex` and `Rv`, and the file of `In`. Source: mdoc(7), `Ex`, `In` and `Rv`.

-- ---- `Ex`, `Rv`

abbrev pub name_count : List (Argument (List ℕ)) → NameCount
name_count [] = counts.Zero
name_count (first ∷ []) = counts.One
name_count (first ∷ second ∷ []) = counts.Two
name_count (first ∷ second ∷ third ∷ names) = counts.More

abbrev pub is_zero : NameCount → Bool
is_zero counts.Zero = true
is_zero _ = false

abbrev pub is_plural : NameCount → Bool
is_plural counts.Two = true
is_plural counts.More = true
is_plural _ = false

abbrev pub is_more : NameCount → Bool
is_more counts.More = true
is_more _ = false

-- commas part three names or more
abbrev pub has_comma : (all left : NameCount) → Bool
has_comma all left = is_more all && not (is_zero left)

-- what is glued to a name: the parentheses of a function, and the comma
abbrev pub name_mark : Sentence → Bool → Option GeneratedText
name_mark Exit true = Some owns.Comma
name_mark Exit false = None
name_mark Return true = Some owns.CallComma
name_mark Return false = Some owns.Call

-- the rest of the sentence, of one name or of several
abbrev pub sentence_end : Sentence → Bool → GeneratedText
sentence_end Exit true = owns.UtilitiesExit
sentence_end Exit false = owns.UtilityExits
sentence_end Return true = owns.FunctionsReturn
sentence_end Return false = owns.FunctionReturns

-- a word that is not the last one: a blank is after it, also where `Sm off` asks for none
abbrev pub sentence_word : Place → GeneratedText → Event (List ℕ)
sentence_word place text = generated_word place text None Apart Parted

abbrev pub sentence_name : ℕ → Argument (List ℕ) → Event (List ℕ)
sentence_name number name = word_event number roles.Argument (Some B) Apart Parted name

-- the name of the manual, which stands where no name is given, has no such blank after it: there the rest of the sentence has it before it
abbrev pub end_join : (all : NameCount) → Join
end_join counts.Zero = Parted
end_join _ = Apart

abbrev pub marked : Place → Option GeneratedText → List (Event (List ℕ)) → List (Event (List ℕ))
marked place None events = events
marked place (Some text) events = generated_word place text None Glued Parted ∷ events

-- before the last of several names
abbrev pub joined : Place → NameCount → List (Event (List ℕ)) → List (Event (List ℕ))
joined place counts.One events = sentence_word place owns.And ∷ events
joined place _ events = events

-- the names that are left of this many, in bold, and the rest of the sentence
abbrev pub names_events : Place → Sentence → NameCount → List (Argument (List ℕ)) → List (Event (List ℕ))
names_events place sentence all [] = generated_word place (sentence_end sentence (is_plural all)) None (end_join all) Apart ∷ []
names_events place sentence all (name ∷ names) =
    sentence_name place.line name
    ∷ marked place (name_mark sentence (has_comma all (name_count names)))
    (joined place (name_count names) (names_events place sentence all names))

-- where no name is given, it is the name of the manual
abbrev pub given_names : Place → Sentence → List (Argument (List ℕ)) → List (Event (List ℕ))
given_names place sentence [] =
    step_event place steps.ManualName
    ∷ marked place (name_mark sentence false) (names_events place sentence counts.Zero [])
given_names place sentence (name ∷ names) =
    names_events place sentence (name_count (name ∷ names)) (name ∷ names)

abbrev pub sentence_events : Place → Sentence → List (Argument (List ℕ)) → List (Event (List ℕ))
sentence_events place sentence names = sentence_word place owns.The ∷ given_names place sentence names

-- ---- `In`

-- a file in angles; other words are as they are, and delimiters in their place
abbrev pub file_events : Place → List (Argument (List ℕ)) → List (Event (List ℕ))
file_events place [] = []
file_events place (file ∷ words) =
    printed_word place.line None file ∷ generated_word place owns.CloseAngle None Glued Apart ∷ printed place.line None words

abbrev pub include_events : Place → List (Argument (List ℕ)) → List (Event (List ℕ))
include_events place [] = []
include_events place (word ∷ words) =
    if is_real word then
    synopsis_event place Include
    ∷ generated_word place owns.OpenAngle None Apart Glued
    ∷ file_events place (word ∷ words)
    else printed_word place.line None word ∷ include_events place words
