-- What contracts of the code say by the definitions, and what is proved of these.
use Rattle.std.specs.List.{list_any}
use Rattle.std.specs.Prelude.{ℕ, ◌+◌, List, drop, take, ◌≡◌, ◌∷◌, Option, MatchOption, ◌<◌, None, Some, Bool, true, false, [], ◌++◌, length}
use Rattle.page_roff_syntax.specs.Arguments.{arguments}
use Rattle.page_roff_syntax.specs.laws.Views.{argument_view}
use Rattle.page_roff_syntax.specs.declared.quotes.Argument.{Argument}
use Rattle.page_sets_lines.specs.laws.Events.{given_view}
use Rattle.page_sets_lines.specs.laws.Views.{ArgumentFits, GivenFits}
use Rattle.page_sets_mdoc_lines.specs.Parts.{inside, outside, is_real, LineParts, parts, taken_first, if_parsed, word_call, InlineCall, front_len, has_calls, is_closing, call_first, tail_alone}
use Rattle.page_sets_mdoc_lines.specs.machine.Cursors.{IsCursorOf}
use Rattle.page_sets_mdoc_lines.specs.declared.macros.Inline.{Inline}
use Rattle.page_sets_mdoc_lines.specs.declared.rests.Rest.{Rest}
use Rattle.page_sets_mdoc_lines.specs.declared.rests.Rest.TheVariants.{Next, Tail}
use Rattle.page_sets_mdoc_lines.specs.declared.word_spans.ReadWord.{ReadWord}
use Rattle.page_sets_mdoc_lines.specs.declared.word_spans.WordSpan.{WordSpan}
use Rattle.page_sets_mdoc_lines.specs.declared.words.MacroWords.{MacroWords}
use Rattle.page_sets_mdoc_lines.specs.declared.words.Words.{Words}

-- the arguments that begin after this many bytes of a line
abbrev pub arguments_after : ℕ → List ℕ → List (Argument (List ℕ))
arguments_after start text = arguments (start + 1) (drop start text)

abbrev pub words_view : List ℕ → Words → List (Argument (List ℕ))
words_view text words = take words.count (arguments_after words.cursor.rest text)

-- they are in the line
abbrev pub AreIn : List ℕ → MacroWords → Type 0
AreIn text words =
    IsCursorOf text words.all.cursor × IsCursorOf text words.inside.cursor × IsCursorOf text words.outside.cursor

-- what is known of them is so
abbrev pub AreKnown : List ℕ → MacroWords → Type 0
AreKnown text words =
    (words_view text words.inside ≡ inside (words_view text words.all))
    × (words_view text words.outside ≡ outside (words_view text words.all))
    × (words.has_real ≡ list_any is_real (words_view text words.all))

-- this was read as the first of some arguments of a line: it is that one, and the line goes on with the others
pub record IsFirstOf (text : List ℕ) (arguments : List (Argument (List ℕ))) (first : ReadWord) : Type 0 where
  pub word : arguments ≡ argument_view first.word ∷ arguments_after first.after.rest text
  pub within : IsCursorOf text first.after
  pub fits : ArgumentFits (argument_view first.word)

-- the first of some arguments was read, if so many of them are words
abbrev pub FirstIs : List ℕ → List (Argument (List ℕ)) → ℕ → Option ReadWord → Type 0
FirstIs text arguments count first = MatchOption first (count ≡ 0) (λ first. IsFirstOf text arguments first)

-- the first of a macro's words was read, if it has one
abbrev pub IsFirstKnown : List ℕ → MacroWords → Type 0
IsFirstKnown text words =
    MatchOption words.first (words.all.count ≡ 0)
    (λ first. (0 < words.all.count) × IsFirstOf text (arguments_after words.all.cursor.rest text) first)

-- these were found of a macro in the line, with what is known of them
pub record AreFound (text : List ℕ) (words : MacroWords) : Type 0 where
  pub fits : GivenFits (given_view words.taken)
  pub stand : AreIn text words
  pub known : AreKnown text words
  pub first : IsFirstKnown text words

-- the parts of a line whose first macro takes this word
abbrev pub taken_onto : Option (Argument (List ℕ)) → LineParts → LineParts
taken_onto None parts = parts
taken_onto (Some word) parts = taken_first word parts

-- a macro takes this word of its arguments, or none, and these are left
abbrev pub TakesWord : Option Inline → List (Argument (List ℕ)) → Option (Argument (List ℕ)) → List (Argument (List ℕ)) → Type 0
TakesWord begun arguments taken others = (parsed : Bool) → parts begun parsed arguments ≡ taken_onto taken (parts None parsed others)

abbrev pub is_something : {A : Type 0} → Option A → Bool
is_something None = false
is_something (Some what) = true

-- whether a word calls a macro, where words can
abbrev pub is_call : Bool → Argument (List ℕ) → Bool
is_call parsed word = is_something (if_parsed parsed (word_call word))

-- without the words of the macro that begins
abbrev pub rest_parts : LineParts → LineParts
rest_parts parts = record { taken = None; words = []; calls = parts.calls; tail = parts.tail }

-- all arguments of the parts, in their order
abbrev pub as_list : Option (Argument (List ℕ)) → List (Argument (List ℕ))
as_list None = []
as_list (Some word) = word ∷ []

abbrev pub calls_arguments : List InlineCall → List (Argument (List ℕ))
calls_arguments [] = []
calls_arguments (call ∷ calls) = (call.name ∷ (as_list call.taken ++ call.words)) ++ calls_arguments calls

abbrev pub parts_arguments : LineParts → List (Argument (List ℕ))
parts_arguments parts = as_list parts.taken ++ (parts.words ++ (calls_arguments parts.calls ++ parts.tail))

-- what is known of a macro's words before they are read
abbrev pub span_of : LineParts → WordSpan
span_of parts = record {
  words = length parts.words;
  inside = front_len is_closing parts.words;
  has_real = list_any is_real parts.words;
  follows = has_calls parts.calls;
}

-- the parts of a line from the next call on, or from its last delimiters on
abbrev pub rest_view : List ℕ → Rest → LineParts
rest_view text (Next call) =
    call_first call.inline (argument_view call.name) (parts (Some call.inline) true (arguments_after call.after.rest text))
rest_view text (Tail cursor) = tail_alone (arguments_after cursor.rest text)

-- it is in the line
abbrev pub IsRestOf : List ℕ → Rest → Type 0
IsRestOf text (Next call) = IsCursorOf text call.after
IsRestOf text (Tail cursor) = IsCursorOf text cursor
