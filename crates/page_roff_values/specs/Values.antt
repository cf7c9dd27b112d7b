-- The value of a text: the finished line, its messages, and how many interpolations were made. Source: roff(7), "Escape sequences".
use Rattle.std.specs.Fmt.{decimal, signed_decimal}
use Rattle.std.specs.Prelude.{ℕ, List, [], ◌∷◌, ◌==◌, if◌then◌else◌, ◌++◌, drop, zero, suc, ◌-◌, nat_le, ◌&&◌, Option, Some, None, Bool, length, codes, ℤ, pos, unwrap_or, ◌+◌, true, false, nat_lt, get_or, take, ◌*◌}
use Rattle.std.specs.Str.{bytes_eq, is_utf8}
use Rattle.page_core_base.specs.Bytes.{ascii}
use Rattle.page_core_base.specs.Limits.{LINE, EXPAND, name_of}
use Rattle.page_core_base.specs.Messages.{Message, message_about}
use Rattle.page_core_base.specs.declared.limits.Limit.TheVariants as limits
use Rattle.page_core_base.specs.declared.note_kinds.NoteKind.{NoteKind}
use Rattle.page_core_base.specs.declared.note_kinds.NoteKind.TheVariants.{Limit, Loop, UndefString, ArgOutside}
use Rattle.page_core_base.specs.declared.page_settings.Output.{Output}
use Rattle.page_core_numbers.specs.Columns.{columns_of}
use Rattle.page_roff_names.specs.Names.{Definitions, number_of, string_of}
use Rattle.page_roff_parts.specs.Parts.{without_lone, parts}
use Rattle.page_roff_parts.specs.declared.parts.Call.{Call}
use Rattle.page_roff_parts.specs.declared.parts.Call.TheVariants.{String, Register, Argument, Width}
use Rattle.page_roff_parts.specs.declared.parts.Part.{Part}
use Rattle.page_roff_parts.specs.declared.parts.Part.TheVariants.{Copied, Called}
use Rattle.std.specs.Option.{option_or}
use Rattle.std.specs.Int.{is_in_range}

-- ---- The arguments of the macro that runs: roff(7), "Macro syntax", and the escape `\$`.

-- a byte in front of the first text of a list
abbrev pub begin_first : ℕ → List (List ℕ) → List (List ℕ)
begin_first byte [] = (byte ∷ []) ∷ []
begin_first byte (text ∷ texts) = (byte ∷ text) ∷ texts

-- the arguments in a list of bytes, where each is followed by a line feed
unfoldable pub arguments_in : List ℕ → List (List ℕ)
arguments_in [] = []
arguments_in (byte ∷ bytes) =
    if byte == ascii "\n" then [] ∷ arguments_in bytes else begin_first byte (arguments_in bytes)

-- the lines of a macro's body, each with a line feed at its end
abbrev pub lines_in : List ℕ → List (List ℕ)
lines_in bytes = arguments_in bytes

-- each argument with a blank before it; the same with quotes around each
abbrev pub spaced : List (List ℕ) → List ℕ
spaced [] = []
spaced (argument ∷ arguments) = ascii " " ∷ (argument ++ spaced arguments)

abbrev pub spaced_quoted : List (List ℕ) → List ℕ
spaced_quoted [] = []
spaced_quoted (argument ∷ arguments) = ascii " " ∷ ascii "\"" ∷ (argument ++ (ascii "\"" ∷ spaced_quoted arguments))

-- `\$*`: all arguments, separated by blanks
abbrev pub joined : List (List ℕ) → List ℕ
joined arguments = drop 1 (spaced arguments)

-- `\$@`: all arguments, each in quotes, separated by blanks
abbrev pub quoted : List (List ℕ) → List ℕ
quoted arguments = drop 1 (spaced_quoted arguments)

-- the argument of this number, from 0; nothing where there are fewer
abbrev pub argument_at : ℕ → List (List ℕ) → List ℕ
argument_at n [] = []
argument_at zero (argument ∷ arguments) = argument
argument_at (suc n) (argument ∷ arguments) = argument_at n arguments

-- what stands for the character after `\$`: 1 to 9, * or @
abbrev pub argument_named : ℕ → List (List ℕ) → Option (List ℕ)
argument_named name arguments =
    if is_in_range (ascii "1") (ascii "9") name then Some (argument_at (name - ascii "1") arguments)
    else (if name == ascii "*" then Some (joined arguments)
    else (if name == ascii "@" then Some (quoted arguments) else None))

-- the value of an escape `\$` as it is written; another character has none, and outside a macro none has one
abbrev pub argument_of : List ℕ → Option (List (List ℕ)) → Option (List ℕ)
argument_of escape None = None
argument_of (a ∷ b ∷ name ∷ []) (Some arguments) = argument_named name arguments
argument_of _ (Some arguments) = None

-- ---- What interpolations read: roff(7), "Escape sequences", and the read-only number registers.

-- Whether it is copy mode; the names of the page; the arguments of the macro that runs, if one does; how many basic units wide a finished
-- text is.
pub record Surroundings : Type 0 where
  pub copy : Bool
  pub definitions : Definitions
  pub arguments : Option (List (List ℕ))
  pub units : List ℕ → ℕ

abbrev pub argument_count : Option (List (List ℕ)) → ℕ
argument_count None = 0
argument_count (Some arguments) = length arguments

-- the registers that a page can't set
abbrev pub read_only : List ℕ → Option (List (List ℕ)) → Option ℤ
read_only name arguments =
    if bytes_eq name (codes ".$") then Some (pos (argument_count arguments))
    else (if bytes_eq name (codes ".g") then Some (pos 1)
    else (if bytes_eq name (codes ".H") then Some (pos 24)
    else (if bytes_eq name (codes ".V") then Some (pos 40) else None)))

-- the number in a register, if there is such a register
abbrev pub register_found : List ℕ → Surroundings → Option ℤ
register_found name env = option_or (read_only name env.arguments) (number_of name env.definitions)

-- a register that there is not has 0
abbrev pub register_of : List ℕ → Surroundings → ℤ
register_of name env = unwrap_or (register_found name env) (pos 0)

-- ---- The value of a text: the finished line, its messages, and how many interpolations were made. Source: roff(7), "Escape sequences".

-- how many interpolations may be inside one another
unfoldable pub NEST : ℕ
NEST = 16

-- Where a text is: its source line, how many bytes of the line are before it, and the column of the outermost `\w` that it
-- is in, if it is in one.
pub record TextPlace : Type 0 where
  pub line : ℕ
  pub bytes_before : ℕ
  pub width_column : Option ℕ

-- a line so far: where it is, what is finished of it, how many interpolations it made, whether it has ended
pub record TextSoFar : Type 0 where
  pub around : TextPlace
  pub text : List ℕ
  pub count : ℕ
  pub ended : Bool

-- the messages of a part of a line, and the line with it
pub record LaidText : Type 0 where
  pub notes : List Message
  pub edge : TextSoFar

abbrev pub nothing : TextSoFar → LaidText
nothing s = record { notes = []; edge = s }

abbrev pub join : LaidText → LaidText → LaidText
join a b = record { notes = a.notes ++ b.notes; edge = b.edge }

abbrev pub unless : Bool → LaidText → LaidText → LaidText
unless true a b = a
unless false a b = join a b

-- one thing, and then another unless the line has ended
unfoldable pub seq : LaidText → (TextSoFar → LaidText) → LaidText
seq a f = unless a.edge.ended a (f a.edge)

-- a message's column is the byte after what is finished; in a width it is that of the width
abbrev pub column_of : TextSoFar → ℕ
column_of s = unwrap_or s.around.width_column (s.around.bytes_before + length s.text + 1)

-- how many bytes are finished: those that are before the text count too, but not in a width, whose text is measured by itself
abbrev pub bytes_before_in : Option ℕ → ℕ → ℕ
bytes_before_in None bytes_before = bytes_before
bytes_before_in (Some column) bytes_before = 0

abbrev pub finished_len : TextSoFar → ℕ
finished_len s = bytes_before_in s.around.width_column s.around.bytes_before + length s.text

abbrev pub message_at : NoteKind → List ℕ → TextSoFar → Message
message_at kind detail s = message_about kind (record { line = s.around.line; column = column_of s }) detail

abbrev pub says : NoteKind → List ℕ → TextSoFar → LaidText
says kind detail s = record { notes = message_at kind detail s ∷ []; edge = s }

-- the line ends here, with a message
abbrev pub ends : NoteKind → List ℕ → TextSoFar → LaidText
ends kind detail s = record { notes = message_at kind detail s ∷ []; edge = record s { ended = true } }

abbrev pub adds : List ℕ → TextSoFar → TextSoFar
adds run s = record s { text = s.text ++ run }

-- the last place up to n where a character ends
abbrev pub character_end : List ℕ → ℕ → ℕ
character_end text zero = zero
character_end text (suc n) =
    if nat_le 0x80 (get_or text (suc n) 0) && nat_lt (get_or text (suc n) 0) 0xC0 then character_end text n else suc n

-- how many bytes of a text are kept where there is room for a count of them: all, or up to a character's end
abbrev pub kept : List ℕ → ℕ → ℕ
kept text room = if nat_le (length text) room then length text else character_end text room

-- Bytes are copied. Beyond LINE the line is cut at a character's end, and ends.
unfoldable pub put : List ℕ → TextSoFar → LaidText
put run s =
    let end = kept run (LINE - finished_len s) in
    if nat_lt end (length run) then ends Limit (codes "LINE") (adds (take end run) s) else nothing (adds (take end run) s)

-- parts, from the left; what an interpolation does is given
unfoldable pub lay : (Call (List ℕ) → TextSoFar → LaidText) → List (Part (List ℕ)) → TextSoFar → LaidText
lay call [] s = nothing s
lay call (Copied run ∷ rest) s = seq (put run s) (lay call rest)
lay call (Called name ∷ rest) s = seq (call name s) (lay call rest)

abbrev pub counts : TextSoFar → TextSoFar
counts s = record s { count = s.count + 1 }

-- An interpolation counts one. The one beyond EXPAND ends the line.
unfoldable pub charge : (TextSoFar → LaidText) → TextSoFar → LaidText
charge f s = if nat_lt s.count EXPAND then f (counts s) else ends Loop (name_of limits.Expand) s

-- a value is expanded by itself; where there is none, a message
abbrev pub value_or : NoteKind → List ℕ → Option (List ℕ) → (List ℕ → TextSoFar → LaidText) → TextSoFar → LaidText
value_or kind detail (Some text) f s = f (without_lone text) s
value_or kind detail None f s = says kind detail s

-- ---- widths: roff(7), `\w`

-- a text whose width is measured begins with nothing, and messages in it have the column of the `\w`
abbrev pub inside : TextSoFar → TextSoFar
inside s = record s { around = record s.around { width_column = Some (column_of s) }; text = [] }

-- the line after the text; where the text has ended the line, it ends before the `\w`
abbrev pub outside : TextSoFar → TextSoFar → TextSoFar
outside s t = record { around = s.around; text = s.text; count = t.count; ended = t.ended }

abbrev pub leaves : TextSoFar → LaidText → LaidText
leaves s a = record { notes = a.notes; edge = outside s a.edge }

-- basic units, 24 a column; bytes that are not UTF-8 have none
abbrev pub units_of : Output → List ℕ → ℕ
units_of output text = if is_utf8 text then 24 * columns_of output text else 0

-- The text is expanded by itself, and the line goes on with its width.
unfoldable pub width : (List ℕ → ℕ) → (TextSoFar → LaidText) → TextSoFar → LaidText
width units f s =
    let a = f (inside s) in
    seq (leaves s a) (put (decimal (units a.edge.text)))

-- ---- values

-- what an interpolation gives; `f` expands a text by itself
unfoldable pub interpolated : Surroundings → (List ℕ → TextSoFar → LaidText) → Call (List ℕ) → TextSoFar → LaidText
interpolated env f (String name) s = value_or UndefString name (string_of name env.definitions) f s
interpolated env f (Register name) s = put (signed_decimal (register_of name env)) s
interpolated env f (Argument escape) s = value_or ArgOutside escape (argument_of escape env.arguments) f s
interpolated env f (Width text) s = width env.units (f text) s

-- An interpolation in which this many more may be inside one another. One too deep gives nothing.
unfoldable pub call_at : Surroundings → ℕ → Call (List ℕ) → TextSoFar → LaidText
call_at env zero call s = charge (says Loop (name_of limits.Nest)) s
call_at env (suc depth) call s =
    charge (interpolated env (λ text. lay (call_at env depth) (parts env.copy text)) call) s

-- The value of a text in which this many interpolations may be inside one another, after what is finished of its line.
unfoldable pub value : Surroundings → ℕ → List ℕ → TextSoFar → LaidText
value env depth text s = lay (call_at env depth) (parts env.copy text) s

-- the beginning of a line
abbrev pub start : ℕ → TextSoFar
start line =
    record { around = record { line = line; bytes_before = 0; width_column = None }; text = []; count = 0; ended = false }

-- a whole line
abbrev pub expanded : Surroundings → ℕ → List ℕ → LaidText
expanded env line text = value env NEST text (start line)

-- this many bytes of the line are before the text that comes
abbrev pub after_bytes : ℕ → TextSoFar → TextSoFar
after_bytes bytes_before s = record s { around = record s.around { bytes_before = bytes_before } }
