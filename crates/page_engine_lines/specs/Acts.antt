-- What roff gives of a page's lines, as acts of one block tree. Source: mandoc(1), "DIAGNOSTICS".
use Rattle.std.specs.Option.{option_or}
use Rattle.std.specs.Prelude.{◌+◌, List, [], ◌∷◌, ◌++◌, is_some, if◌then◌else◌, Option, None, ℕ, nat_lt, length, map}
use Rattle.page_core_base.specs.Bytes.{is_white}
use Rattle.page_core_base.specs.Messages.{Message, message_about}
use Rattle.page_core_base.specs.Rows.{Item}
use Rattle.page_core_base.specs.declared.note_kinds.NoteKind.TheVariants.{TrailingBlank}
use Rattle.page_roff_syntax.specs.Delimiters.{kept_len}
use Rattle.page_roff_effects.specs.States.{Given, says, takes}
use Rattle.page_roff_source.specs.Runs.{given, SourceLine, done, RoffEdge, end_notes}
use Rattle.page_sets.specs.Mdoc.{either_events}
use Rattle.page_sets.specs.declared.either.Either.{Either}
use Rattle.page_scopes_words.specs.Words.{at}
use Rattle.page_engine_lines.specs.Bodies.{language_of, BodyEdge, chosen_if}
use Rattle.page_engine_lines.specs.Edges.{LinesEdge}
use Rattle.page_engine_lines.specs.Trees.{Step, reports, events_steps, tree_after, tree_items, page_end_steps}

-- a message is at its place, a line is the events that the macros of a set make of it
abbrev pub given_steps : Either → List Given → List Step
given_steps set [] = []
given_steps set (says m ∷ more) = reports m ∷ given_steps set more
given_steps set (takes line ∷ more) = events_steps (either_events set line) ++ given_steps set more

-- ---- the language

-- what is given before the first line that decides the language, from this line on, and what it decides
abbrev pub before_language : List Given → List Given
before_language [] = []
before_language (says m ∷ more) = says m ∷ before_language more
before_language (takes line ∷ more) = if is_some (language_of line) then [] else takes line ∷ before_language more

abbrev pub from_language : List Given → List Given
from_language [] = []
from_language (says m ∷ more) = from_language more
from_language (takes line ∷ more) = if is_some (language_of line) then takes line ∷ more else from_language more

abbrev pub first_language : List Given → Option Either
first_language [] = None
first_language (says m ∷ more) = first_language more
first_language (takes line ∷ more) = option_or (language_of line) (first_language more)

-- A body reads what is given by its own set up to where the language is decided, if it is not decided yet: the acts up to there, and the body that
-- reads the rest.
abbrev pub front_steps : BodyEdge → List Given → List Step
front_steps b given = given_steps b.header.set (if b.header.is_decided then [] else before_language given)

abbrev pub reader : BodyEdge → List Given → BodyEdge
reader b given =
    if b.header.is_decided then b else chosen_if (tree_after b (front_steps b given)) (first_language given)

-- the acts from there on
abbrev pub rest_steps : BodyEdge → List Given → List Step
rest_steps b given = given_steps (reader b given).header.set (if b.header.is_decided then given else from_language given)

-- the messages of white space at a line's end
abbrev pub trailing_messages : ℕ → List ℕ → List Message
trailing_messages number text =
    if nat_lt (kept_len is_white text) (length text) then message_about TrailingBlank (at number (kept_len is_white text + 1)) [] ∷ [] else []

-- a line of the page as roff takes it, after the messages of its cutting
abbrev pub raw_line : ℕ → List ℕ → List Message → SourceLine
raw_line number text notes = record { text = text; number = number; notes = notes ++ trailing_messages number text }

-- ---- all lines

-- the pieces and messages of what is given, and then of further acts, by the block trees of the acts before the language is decided and after
abbrev pub given_then : BodyEdge → List Given → List Step → List Item
given_then b given more = tree_items b (front_steps b given) ++ tree_items (reader b given) (rest_steps b given ++ more)

-- of the lines, by the forest of them, and what decides those of the lines to come
abbrev pub lines_items : LinesEdge → List SourceLine → List Item
lines_items e lines = given_then e.body (given e.roff lines) []

abbrev pub lines_after : LinesEdge → List SourceLine → LinesEdge
lines_after e lines =
    let all = given e.roff lines in
    record { roff = done e.roff lines; body = tree_after (reader e.body all) (rest_steps e.body all) }

-- the acts at the page's end, on a line: what roff left open is reported, and then the body ends
abbrev pub end_steps : RoffEdge → ℕ → List Step
end_steps e line = map reports (end_notes e) ++ page_end_steps line

-- of lines, and of the page's end after them
abbrev pub page_items : LinesEdge → List SourceLine → ℕ → List Item
page_items e lines line = given_then e.body (given e.roff lines) (end_steps (done e.roff lines) line)
