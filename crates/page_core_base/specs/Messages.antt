-- Messages: what a message says, its level and its text; when a call may answer a fault. Source: mandoc(1), DIAGNOSTICS.
use Prim.Native.String.{String}
use Rattle.std.specs.Prelude.{ℕ, List, [], ◌∷◌, Option, Some, None, if◌then◌else◌, take, Bool, nat_lt, codes, ◌<◌, ◌-◌, ◌^◌}
use Rattle.std.specs.Str.{bytes_eq}
use Rattle.std.specs.Str.Lossy.{utf8_valid_len}
use Rattle.page_core_base.specs.declared.faults.Fault.{Fault}
use Rattle.page_core_base.specs.declared.faults.Fault.TheVariants.{Memory, Read, WriteText, WriteNotes, TooLong, Settings, Failed, Ended, BadIndex}
use Rattle.page_core_base.specs.declared.note_kinds.Level.{Level}
use Rattle.page_core_base.specs.declared.note_kinds.Level.TheVariants.{Base, Style, Warning, Error, Unsupp}
use Rattle.page_core_base.specs.declared.note_kinds.NoteKind.{NoteKind}
use Rattle.page_core_base.specs.declared.note_kinds.NoteKind.TheVariants.{TrailingBlank, MissingTitle, UnknownSection, MissingDate, MissingOs, LateMacro, NoBody, BeforeSection, SkipPara, LineScope, EmptyMacro, BadNest, BlankFill, TabFill, UndefString, UndefEscape, BadEscape, NoGlyph, UnknownFont, Unterminated, MissingWidth, BadChar, UnknownMacro, ItemOutside, NotOpen, FewerRs, MissingEnd, ArgOutside, NotNumeric, DivZero, NoListType, MissingName, BadCondition, Loop, Limit, UnsuppRequest, UnsuppEscape, Table}
use Rattle.page_core_base.specs.declared.places.Place.{Place}

-- ---- Tables of names: rows of a name and what it stands for.

-- what the first row of a name says
abbrev pub row_in : {V : Type 0} → List (List ℕ × V) → List ℕ → Option V
row_in [] name = None
row_in (row ∷ rows) name = if bytes_eq row.0 name then Some row.1 else row_in rows name

-- ---- Messages: what a message says, its level and its text. Source: mandoc(1), "DIAGNOSTICS" and -W.

-- a message: its kind, the line and the column that it names, and its detail
pub record Message : Type 0 where
  pub kind : NoteKind
  pub line : ℕ
  pub column : ℕ
  pub detail : List ℕ

-- the front of a text of at most n bytes, up to a character's end
unfoldable pub text_front : ℕ → List ℕ → List ℕ
text_front n text = take (utf8_valid_len (take n text)) (take n text)

-- a message about a place; its detail has at most 64 bytes, up to a character's end
abbrev pub message_about : NoteKind → Place → List ℕ → Message
message_about kind place detail = record { kind = kind; line = place.line; column = place.column; detail = text_front 64 detail }

-- the place of a level in their order
abbrev pub rank_of : Level → ℕ
rank_of Base = 0
rank_of Style = 1
rank_of Warning = 2
rank_of Error = 3
rank_of Unsupp = 4

abbrev pub is_below : Level → Level → Bool
is_below a b = nat_lt (rank_of a) (rank_of b)

abbrev pub level_name : Level → List ℕ
level_name Base = codes "BASE"
level_name Style = codes "STYLE"
level_name Warning = codes "WARNING"
level_name Error = codes "ERROR"
level_name Unsupp = codes "UNSUPP"

-- a kind of message: its level and its text
pub record KindRow : Type 0 where
  pub level : Level
  pub text : List ℕ

abbrev pub kind_row : Level → String → KindRow
kind_row level text = record { level = level; text = codes text }

-- the table of the kinds
abbrev pub row_of_kind : NoteKind → KindRow
row_of_kind TrailingBlank = kind_row Style "whitespace at end of input line"
row_of_kind MissingTitle = kind_row Warning "missing manual title, using \"\""
row_of_kind UnknownSection = kind_row Warning "unknown manual section"
row_of_kind MissingDate = kind_row Warning "missing date, using \"\""
row_of_kind MissingOs = kind_row Warning "missing Os macro, using \"\""
row_of_kind LateMacro = kind_row Warning "skipping late prologue macro"
row_of_kind NoBody = kind_row Warning "no document body"
row_of_kind BeforeSection = kind_row Warning "content before first section header"
row_of_kind SkipPara = kind_row Warning "skipping paragraph macro"
row_of_kind LineScope = kind_row Warning "line scope broken"
row_of_kind EmptyMacro = kind_row Warning "skipping empty macro"
row_of_kind BadNest = kind_row Warning "blocks badly nested"
row_of_kind BlankFill = kind_row Warning "blank line in fill mode, using .sp"
row_of_kind TabFill = kind_row Warning "tab in filled text"
row_of_kind UndefString = kind_row Warning "undefined string, using \"\""
row_of_kind UndefEscape = kind_row Warning "undefined escape, printing literally"
row_of_kind BadEscape = kind_row Warning "invalid escape sequence"
row_of_kind NoGlyph = kind_row Warning "unknown character, using <?>"
row_of_kind UnknownFont = kind_row Warning "unknown font, skipping request"
row_of_kind Unterminated = kind_row Warning "unterminated quoted argument"
row_of_kind MissingWidth = kind_row Warning "missing -width in -tag list, using 6n"
row_of_kind BadChar = kind_row Error "skipping bad character"
row_of_kind UnknownMacro = kind_row Error "skipping unknown macro"
row_of_kind ItemOutside = kind_row Error "skipping item outside list"
row_of_kind NotOpen = kind_row Error "skipping end of block that is not open"
row_of_kind FewerRs = kind_row Error "fewer RS blocks open, skipping"
row_of_kind MissingEnd = kind_row Error "appending missing end of block"
row_of_kind ArgOutside = kind_row Error "using macro argument outside macro"
row_of_kind NotNumeric = kind_row Error "argument is not numeric, using 0"
row_of_kind DivZero = kind_row Error "divide by zero"
row_of_kind NoListType = kind_row Error "missing list type, using -item"
row_of_kind MissingName = kind_row Error "missing manual name, using \"\""
row_of_kind BadCondition = kind_row Error "unknown condition, using false"
row_of_kind Loop = kind_row Error "input stack limit exceeded, infinite loop?"
row_of_kind Limit = kind_row Error "limit exceeded, skipping"
row_of_kind UnsuppRequest = kind_row Unsupp "unsupported roff request"
row_of_kind UnsuppEscape = kind_row Unsupp "unsupported escape sequence"
row_of_kind Table = kind_row Unsupp "unsupported table, equation or picture"

abbrev pub level_of : NoteKind → Level
level_of kind = (row_of_kind kind).level

abbrev pub text_of : NoteKind → List ℕ
text_of kind = (row_of_kind kind).text

-- ---- When a call may answer a fault.

-- a count of failures rose, or is at its end
abbrev pub Rose : ℕ → ℕ → Type 0
Rose old new = old < 2 ^ 64 - 1 → old < new

-- the fault of a call over a sink of rows and a sink of notes: the count of the one that failed rose
abbrev pub IsSinkFault : Fault → ℕ → ℕ → ℕ → ℕ → Type 0
IsSinkFault WriteText rows rows' notes notes' = Rose rows rows'
IsSinkFault WriteNotes rows rows' notes notes' = Rose notes notes'
IsSinkFault Memory rows rows' notes notes' = ⊥
IsSinkFault Read rows rows' notes notes' = ⊥
IsSinkFault TooLong rows rows' notes notes' = ⊥
IsSinkFault (Settings s) rows rows' notes notes' = ⊥
IsSinkFault Failed rows rows' notes notes' = ⊥
IsSinkFault Ended rows rows' notes notes' = ⊥
IsSinkFault (BadIndex n) rows rows' notes notes' = ⊥
