-- Where the events of a line are in it. Source: man(7), mdoc(7); roff(7), "LANGUAGE SYNTAX".
use Rattle.std.specs.Prelude.{◌≡◌, ℕ, zero, suc, ◌+◌, ◌≤◌, max, ◌==◌, ◌&&◌, Bool, false, true, List, [], ◌∷◌, ◌++◌, length, if◌then◌else◌, Some, codes}
use Rattle.page_core_base.specs.Texts.{TakenLine}
use Rattle.page_core_base.specs.declared.cells.Font.TheVariants.{B}
use Rattle.page_core_base.specs.declared.lines_taken.Form.TheVariants.{Control}
use Rattle.page_roff_syntax.specs.declared.quotes.Argument.{Argument}
use Rattle.page_roff_syntax.specs.declared.quotes.Quoting.TheVariants.{Unclosed}
use Rattle.page_sets_lines.specs.Lines.{generated_word, line_end, word_event, word_place}
use Rattle.page_sets_lines.specs.laws.Sets.{prints_text}
use Rattle.page_sets_lines.specs.declared.events.Event.{Event}
use Rattle.page_sets_lines.specs.declared.events.Join.TheVariants.{Apart, Glued}
use Rattle.page_sets_lines.specs.declared.events.Role.TheVariants as roles
use Rattle.page_sets_names.specs.declared.generated_texts.GeneratedText.TheVariants.{Dash}

-- the last byte of a text is a quote
abbrev pub ends_in_quote : List ℕ → Bool
ends_in_quote [] = false
ends_in_quote (byte ∷ []) = byte == 34
ends_in_quote (byte ∷ next ∷ bytes) = ends_in_quote (next ∷ bytes)

-- the last column at which an event of a text may be: that of its last byte, or, of what prints, the next one where that byte is a quote, after which
-- an argument without bytes begins; of a text without bytes it is the first column
abbrev pub last_column : Bool → List ℕ → ℕ
last_column prints text = max 1 (if prints && ends_in_quote text then length text + 1 else length text)

-- an event is in a line
pub record IsInLine (line : TakenLine) (event : Event (List ℕ)) : Type 0 where
  pub number : event.place.line ≡ line.number
  pub begins : 1 ≤ event.place.column
  pub ends : event.place.column ≤ last_column (prints_text event.kind) line.text

-- ---- a line that has an event at the column after its last byte

-- a quote after so many blanks (32)
abbrev pub quote_after : ℕ → List ℕ
quote_after zero = 34 ∷ []
quote_after (suc blanks) = 32 ∷ quote_after blanks

-- `Fl` with an argument that lacks its last quote, and has no byte
abbrev pub flag_line : (number blanks : ℕ) → TakenLine
flag_line number blanks = record { form = Control; text = codes ".Fl" ++ quote_after blanks; number = number; name_end = 3 }

-- it is in the column after the quote
abbrev pub last_argument : TakenLine → Argument (List ℕ)
last_argument line = record { text = []; column = length line.text + 1; quoting = Unclosed }

-- the dash before it is there, too
abbrev pub flag_events : TakenLine → List (Event (List ℕ))
flag_events line =
    generated_word (word_place line.number (last_argument line)) Dash (Some B) Apart Glued
    ∷ word_event line.number roles.Argument (Some B) Apart Apart (last_argument line)
    ∷ line_end line.number true
    ∷ []
