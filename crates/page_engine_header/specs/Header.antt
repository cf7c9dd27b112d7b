-- The header and the footer of a page: their fields, and what the text of a field prints. Source: man(7), `TH`; mdoc(7), `Dd`, `Dt`, `Os`.
use Rattle.std.specs.List.{sum_by, starts_with, ends_with}
use Rattle.std.specs.Prelude.{ℕ, List, [], if◌then◌else◌, flat_map, length, replicate, codes, ◌+◌, ◌∷◌, map, ◌++◌, drop, ◌==◌, ◌-◌, take, nat_eq, true, false, nat_lt, ◌/◌, max, zero, suc, ◌&&◌, not, Bool}
use Rattle.page_core_base.specs.Bytes.{ascii}
use Rattle.page_core_base.specs.Limits.{FIELD, CELLS}
use Rattle.page_core_base.specs.Messages.{text_front}
use Rattle.page_core_base.specs.Rows.{Item, shown, says}
use Rattle.page_core_base.specs.declared.cells.Font.{Font}
use Rattle.page_core_base.specs.declared.cells.Font.TheVariants.{R}
use Rattle.page_core_base.specs.declared.note_kinds.NoteKind.{NoteKind}
use Rattle.page_core_base.specs.declared.note_kinds.NoteKind.TheVariants.{Limit, MissingTitle, UnknownSection, MissingDate, MissingOs}
use Rattle.page_core_base.specs.declared.page_settings.Output.{Output}
use Rattle.page_core_base.specs.declared.pieces.Piece.TheVariants.{Char, Break, Indent, Literal, Space}
use Rattle.page_core_base.specs.declared.places.Place.{Place}
use Rattle.page_core_escapes.specs.Tokens.{TextToken, plain, tokens_of}
use Rattle.page_core_numbers.specs.Columns.{characters_columns}
use Rattle.page_roff_syntax.specs.Arguments.{argument_value}
use Rattle.page_roff_syntax.specs.declared.quotes.Argument.{Argument}
use Rattle.page_sets_names.specs.declared.macro_names.Prologue.{Prologue}
use Rattle.page_sets_names.specs.declared.macro_names.Prologue.TheVariants.{TH, Dd, Dt, Os}
use Rattle.page_scopes_words.specs.Fonts.{token_fonts, roman_fonts}
use Rattle.page_scopes_words.specs.Words.{token_printed}
use Rattle.page_scopes_words.specs.declared.fonts.Fonts.{Fonts}
use Rattle.page_engine_header.specs.declared.fields.Fields.{Fields}
use Rattle.page_engine_header.specs.declared.headers.Measure.{Measure}

-- ---- What the text of a field prints: its characters, each in a font. Source: man(7), TH; roff(7), "ESCAPE
-- SEQUENCES"; mandoc_char(7).

-- the columns of what tokens print
abbrev pub tokens_columns : Output → List TextToken → ℕ
tokens_columns output [] = 0
tokens_columns output (token ∷ tokens) =
    characters_columns (token_printed output token) + tokens_columns output tokens

-- characters in a font
abbrev pub in_font : Font → Place → List ℕ → List Item
in_font font place cs = map (λ c. shown (Char c font place)) cs

-- what tokens print, each in the font in use
abbrev pub tokens_items : Output → Place → Fonts → List TextToken → List Item
tokens_items output place fonts [] = []
tokens_items output place fonts (token ∷ tokens) =
    in_font fonts.font place (token_printed output token)
    ++ tokens_items output place (token_fonts token fonts) tokens

-- ---- The fields of a page's header and footer. Source: man(7), TH; mdoc(7), Dd, Dt and Os; roff(7), "Macro syntax".

-- ---- one field

-- The front of what an argument says that there is room for, up to a character's end. Its escapes count as they are written, and a pair of
-- quotes in a quoted argument is one byte.
abbrev pub said : ℕ → Argument (List ℕ) → List ℕ
said room argument = text_front room (argument_value argument)

abbrev pub said_len : Argument (List ℕ) → ℕ
said_len argument = length (argument_value argument)

-- the first argument as a field: at most FIELD bytes
abbrev pub first_field : List (Argument (List ℕ)) → List ℕ
first_field [] = []
first_field (argument ∷ arguments) = said FIELD argument

-- a field, or another where it is empty
abbrev pub or_else : List ℕ → List ℕ → List ℕ
or_else text other = if length text == 0 then other else text

-- ---- words that are one field

-- arguments with a blank before each, as far as there is room for them
abbrev pub words_text : ℕ → List (Argument (List ℕ)) → List ℕ
words_text room [] = []
words_text room (argument ∷ others) =
    take room (codes " ") ++ (said (room - 1) argument ++ words_text (room - 1 - said_len argument) others)

-- arguments joined by one blank: at most FIELD bytes
abbrev pub joined : List (Argument (List ℕ)) → List ℕ
joined [] = []
joined (argument ∷ others) = said FIELD argument ++ words_text (FIELD - said_len argument) others

-- their bytes
abbrev pub joined_len : List (Argument (List ℕ)) → ℕ
joined_len [] = 0
joined_len (argument ∷ others) = said_len argument + sum_by (λ a. 1 + said_len a) others

-- the bytes of a date's keyword at a text's front, and where a text ends without the keyword's end
abbrev pub keyword_len : List ℕ → ℕ
keyword_len text = if starts_with nat_eq text (codes "$Mdocdate: ") then 11 else 0

abbrev pub keyword_end : List ℕ → ℕ
keyword_end text = if ends_with nat_eq text (codes " $") then length text - 2 else length text

-- a date without the keyword of a revision that is around it: `$Mdocdate: June 1 2020 $`
abbrev pub without_keyword : List ℕ → List ℕ
without_keyword text = take (keyword_end text - keyword_len text) (drop (keyword_len text) text)

-- an argument in brackets after a blank, as far as there is room for it; there is room for the first bracket
abbrev pub in_brackets : ℕ → Argument (List ℕ) → List ℕ
in_brackets room argument =
    codes " (" ++ (said (room - 2) argument ++ take (room - 2 - said_len argument) (codes ")"))

-- ---- the volume

-- the volume of a section, by its first byte: the digits from 1 on
abbrev pub volume_of : List ℕ → List ℕ
volume_of [] = []
volume_of (byte ∷ bytes) =
    if byte == ascii "1" then codes "General Commands Manual"
    else if byte == ascii "2" then codes "System Calls Manual"
    else if byte == ascii "3" then codes "Library Functions Manual"
    else if byte == ascii "4" then codes "Device Drivers Manual"
    else if byte == ascii "5" then codes "File Formats Manual"
    else if byte == ascii "6" then codes "Games Manual"
    else if byte == ascii "7" then codes "Miscellaneous Information Manual"
    else if byte == ascii "8" then codes "System Manager's Manual"
    else if byte == ascii "9" then codes "Kernel Developer's Manual"
    else []

-- a text, and the next argument in brackets after it, unless it is empty: one field
abbrev pub bracketed : List ℕ → List (Argument (List ℕ)) → List ℕ
bracketed text [] = text
bracketed text (argument ∷ others) =
    if length argument.text == 0 then text else text ++ in_brackets (FIELD - length text) argument

-- ---- what each macro sets

abbrev pub fields_after : Prologue → List ℕ → List (Argument (List ℕ)) → Fields → Fields
-- TH title section date source volume: the source is else the operating system's, the volume else the section's
fields_after TH os arguments f = record f {
  title = first_field arguments;
  section = first_field (drop 1 arguments);
  date = first_field (drop 2 arguments);
  source = or_else (first_field (drop 3 arguments)) os;
  volume = or_else (first_field (drop 4 arguments)) (volume_of (first_field (drop 1 arguments)));
}
-- Dt title section [arch]: the volume is the section's, and the architecture in brackets after it
fields_after Dt os arguments f = record f {
  title = first_field arguments;
  section = first_field (drop 1 arguments);
  volume = bracketed (volume_of (first_field (drop 1 arguments))) (drop 2 arguments);
}
-- Dd date; Os system: all words, and without words the system is that of the settings
fields_after Dd os arguments f = record f { date = without_keyword (joined arguments) }
fields_after Os os arguments f = record f { source = or_else (joined arguments) os; os_came = true }

-- before any of them
abbrev pub no_fields : List ℕ → Fields
no_fields os = record { title = []; section = []; date = []; source = os; volume = []; os_came = false }

-- ---- fields that are cut

-- a field that is longer is reported at its macro
abbrev pub cut_item : Place → ℕ → List Item
cut_item place len = if nat_lt FIELD len then says Limit place (codes "FIELD") ∷ [] else []

abbrev pub argument_cut : Place → Argument (List ℕ) → List Item
argument_cut place argument = cut_item place (said_len argument)

-- of TH its five fields, of Dt the title, the section and the volume with the architecture in brackets, of the others all words
abbrev pub cut_items : Prologue → Place → List (Argument (List ℕ)) → List Item
cut_items TH place arguments = flat_map (argument_cut place) (take 5 arguments)
cut_items Dt place (title ∷ section ∷ arch ∷ others) =
    argument_cut place title ++ (argument_cut place section ++ cut_item place (length (volume_of (said FIELD section)) + 3 + said_len arch))
cut_items Dt place arguments = flat_map (argument_cut place) arguments
cut_items _ place arguments = cut_item place (joined_len arguments)

-- ---- The header and the footer of a page. Source: man(7), TH; mandoc(1), "ASCII Output" and "DIAGNOSTICS".

-- ---- a part of a row

-- a title with its section: title(section)
abbrev pub name_tokens : List ℕ → List ℕ → List TextToken
name_tokens title section =
    tokens_of false title ++ (plain (codes "(") ∷ (tokens_of false section ++ plain (codes ")") ∷ []))

-- ---- a row of three parts

-- where parts of these columns are placed in a row of a width: the first at the left, the second in the middle, the third at the right, with a
-- blank at least before the second and the third. This holds of empty parts, too
abbrev pub second_start : (width first second : ℕ) → ℕ
second_start width first second = max (first + 1) ((width - second) / 2)

-- each part begins in roman
abbrev pub part_items : Measure → Place → List TextToken → List Item
part_items m place part = tokens_items m.output place roman_fonts part

abbrev pub blanks : Place → ℕ → List Item
blanks place count = in_font R place (replicate count (ascii " "))

-- the characters of a row: its parts, and blanks between them up to where the second and the third begin
unfoldable pub row_characters : Measure → Place → (first second third : List TextToken) → List Item
row_characters m place first second third =
    let start = second_start m.width (tokens_columns m.output first) (tokens_columns m.output second) in
    let last = max (start + tokens_columns m.output second + 1) (m.width - tokens_columns m.output third) in
    part_items m place first ++ (blanks place (start - tokens_columns m.output first)
    ++ (part_items m place second ++ (blanks place (last - (start + tokens_columns m.output second)) ++ part_items m place third)))

-- characters where a row has room for so many more: one that is full ends before the next character, which begins another row
unfoldable pub in_rows : ℕ → List Item → List Item
in_rows room [] = []
in_rows zero (item ∷ items) = shown Break ∷ item ∷ in_rows (CELLS - 1) items
in_rows (suc room) (item ∷ items) = item ∷ in_rows room items

-- a row that is kept as it is, from the left edge of the page on. One that has more characters than a row holds goes on in the next rows,
-- from that edge on
unfoldable pub row_items : Measure → Place → (first second third : List TextToken) → List Item
row_items m place first second third =
    shown (Literal true) ∷ shown (Indent 0 0)
    ∷ (in_rows CELLS (row_characters m place first second third) ++ (shown Break ∷ shown (Literal false) ∷ []))

abbrev pub header_row : Measure → Place → Fields → List Item
header_row m place f =
    row_items m place (name_tokens f.title f.section) (tokens_of false f.volume) (name_tokens f.title f.section)

abbrev pub footer_row : Measure → Place → Fields → List Item
footer_row m place f =
    row_items m place (tokens_of false f.source) (tokens_of false f.date) (name_tokens f.title f.section)

-- ---- the header

-- an empty field is reported
abbrev pub if_empty : List ℕ → NoteKind → Place → List ℕ → List Item
if_empty f kind place detail = if length f == 0 then says kind place detail ∷ [] else []

-- a page of mdoc(7) has its section's volume, whatever is in brackets after it; and it has the macro Os, or the settings' system: the source where none came
abbrev pub missing_items : (is_mdoc : Bool) → Place → Fields → List Item
missing_items is_mdoc place f =
    if_empty f.title MissingTitle place [] ++ (if_empty (if is_mdoc then volume_of f.section else f.volume) UnknownSection place f.section
    ++ (if_empty f.date MissingDate place [] ++ (if is_mdoc && not f.os_came then if_empty f.source MissingOs place [] else [])))

-- the header, a blank row and what is missing; then text is at the indent
abbrev pub header_items : (is_mdoc : Bool) → Measure → Place → Fields → List Item
header_items is_mdoc m place f =
    header_row m place f ++ (shown (Space 1) ∷ (missing_items is_mdoc place f ++ shown (Indent m.indent m.indent) ∷ []))
