-- What a source line gives, from one line for the set of macros to the next. Source: roff(7), "LANGUAGE SYNTAX".
use Rattle.std.specs.Prelude.{List, [], ◌∷◌, Option, Some, None}
use Rattle.page_core_base.specs.Texts.{TakenLine}
use Rattle.page_core_base.specs.Messages.{Message}
use Rattle.page_roff_effects.specs.States.{Given, says, takes}

-- the messages before the next line, or all that are left
abbrev pub notes_before : List Given → List Message
notes_before [] = []
notes_before (says note ∷ given) = note ∷ notes_before given
notes_before (takes line ∷ given) = []

abbrev pub next_line : List Given → Option TakenLine
next_line [] = None
next_line (says note ∷ given) = next_line given
next_line (takes line ∷ given) = Some line

-- what comes after the next line; nothing where there is none
abbrev pub after_line : List Given → List Given
after_line [] = []
after_line (says note ∷ given) = after_line given
after_line (takes line ∷ given) = given
