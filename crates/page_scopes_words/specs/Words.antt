-- A token of a text as a piece and messages, what is known between two tokens, and the end of a sentence. Source: roff(7), "Filling and adjusting", "Escape sequences".
use Rattle.std.specs.List.{list_any}
use Rattle.std.specs.Option.{option_to_list, option_map_or}
use Rattle.std.specs.Prelude.{codes, flat_map, ℕ, List, Bool, if◌then◌else◌, [], ◌∷◌, take, ◌==◌, ◌&&◌, Option, None, Some, map, true, false, ℤ, pos, int_div, ◌/◌, negsuc, min, nat_lt, ◌++◌, replicate, is_some, ◌+◌, ◌||◌, length, max, ◌-◌, slice_get}
use Rattle.page_core_base.specs.Bytes.{is_white, ascii}
use Rattle.page_core_base.specs.Limits.{BLANKS, name_of}
use Rattle.page_core_base.specs.Rows.{Item, noted, says, shown}
use Rattle.page_core_base.specs.Texts.{characters_of, unpaired}
use Rattle.page_core_base.specs.declared.cells.Font.{Font}
use Rattle.page_core_base.specs.declared.cells.Font.TheVariants.{R}
use Rattle.page_core_base.specs.declared.limits.Limit.TheVariants as limits
use Rattle.page_core_base.specs.declared.note_kinds.NoteKind.TheVariants.{UnknownFont, UndefEscape, BadEscape, UnsuppEscape, Limit}
use Rattle.page_core_base.specs.declared.page_settings.Output.{Output}
use Rattle.page_core_base.specs.declared.page_settings.Output.TheVariants.{Ascii}
use Rattle.page_core_base.specs.declared.pieces.Piece.{Piece}
use Rattle.page_core_base.specs.declared.pieces.Piece.TheVariants.{Text, Char, Tab, Glyph}
use Rattle.page_core_base.specs.declared.places.Place.{Place}
use Rattle.page_core_tables.specs.Glyphs.{char_printed}
use Rattle.page_core_escapes.specs.Meanings as meanings
use Rattle.page_core_escapes.specs.Meanings.{Face, Meaning}
use Rattle.page_core_escapes.specs.Tokens.{TextToken, white, plain, quotes, escaped, token_bytes}
use Rattle.page_core_numbers.specs.Columns.{characters_columns, printed_escape}
use Rattle.page_core_numbers.specs.Expressions.{expression_of, messages_at}
use Rattle.page_core_numbers.specs.declared.scales.Scale.{Scale}
use Rattle.page_core_numbers.specs.declared.scales.Scale.TheVariants.{En, Vertical, Em}
use Rattle.page_roff_syntax.specs.Delimiters.{kept}
use Rattle.page_scopes_words.specs.Fonts.{fonts_after}
use Rattle.page_scopes_words.specs.declared.pens.Pen.{Pen}
use Rattle.page_scopes_words.specs.declared.pens.TextStyle.{TextStyle}

-- ---- A token as a piece and messages, and white space that is kept. Source: roff(7), "ESCAPE SEQUENCES", `\c`; mandoc(1), "DIAGNOSTICS".

abbrev pub at : ℕ → ℕ → Place
at line column = record { line = line; column = column }

-- ---- messages of an escape

-- a part of a text as messages show it: in a quoted argument a pair of quotes is one quote
abbrev pub shown_part : (quoted : Bool) → List ℕ → List ℕ
shown_part quoted bytes = if quoted then unpaired bytes else bytes

abbrev pub face_notes : (quoted : Bool) → Place → Face → List Item
face_notes quoted place (meanings.unknown name) = says UnknownFont place (shown_part quoted name) ∷ []
face_notes quoted place _ = []

-- those of the number in `\h` are below, with its value
abbrev pub meaning_notes : (quoted : Bool) → Place → List ℕ → Meaning → List Item
meaning_notes quoted place bytes (meanings.undefined c) = says UndefEscape place (shown_part quoted bytes) ∷ []
meaning_notes quoted place bytes meanings.bad = says BadEscape place (shown_part quoted bytes) ∷ []
meaning_notes quoted place bytes meanings.unsupported = says UnsuppEscape place (take 2 bytes) ∷ []
meaning_notes quoted place bytes (meanings.face face) = face_notes quoted place face
meaning_notes quoted place bytes _ = []

-- ---- what a token of a word prints

-- the name of a glyph: in a quoted argument a pair of quotes is one quote. No glyph has a quote in its name: of such a name there is as much
-- as a message shows
abbrev pub glyph_name : (quoted : Bool) → List ℕ → List ℕ
glyph_name quoted name = if quoted && list_any (λ byte. byte == ascii "\"") name then take 64 (unpaired name) else name

-- an undefined escape is its character; that of a tab is a tab. A glyph, and the blanks of `\h`, are below
abbrev pub token_piece : Font → Place → TextToken → Option (Piece (List ℕ))
token_piece font place (plain bytes) = Some (Text bytes font place)
token_piece font place (quotes bytes) = Some (Char (ascii "\"") font place)
token_piece font place (escaped bytes (meanings.character c)) = Some (Char c font place)
token_piece font place (escaped bytes meanings.tab) = Some (Tab font place)
token_piece font place (escaped bytes meanings.blank) = Some (Text (codes " ") font place)
token_piece font place (escaped bytes (meanings.undefined c)) = Some (if c == 9 then Tab font place else Char c font place)
token_piece font place _ = None

-- ---- the characters that a token prints

-- what characters that print themselves print in an output
abbrev pub plain_printed : Output → List ℕ → List ℕ
plain_printed output cs = flat_map (λ c. (char_printed output c).characters) cs

-- a token; a tab is a blank
abbrev pub token_printed : Output → TextToken → List ℕ
token_printed output (white bytes) = replicate (length bytes) (ascii " ")
token_printed output (plain bytes) = plain_printed output (characters_of bytes)
token_printed output (quotes bytes) = codes "\""
token_printed output (escaped bytes meaning) = printed_escape output meaning

-- ---- white space

-- blanks and tabs as cells
abbrev pub white_cells : Place → List ℕ → List Item
white_cells place bytes = map (λ byte. shown (if byte == ascii "\t" then Tab R place else Text (codes " ") R place)) bytes

abbrev pub has_tab : List ℕ → Bool
has_tab bytes = list_any (λ byte. byte == 9) bytes

-- ---- the next line

-- an escape glues the next line's text
abbrev pub is_glue : TextToken → Bool
is_glue (escaped bytes meanings.glue) = true
is_glue _ = false

-- ---- The value of an expression in basic units, in columns and in rows, and its messages. Source: roff(7), "Numerical expressions", "Scaling Widths", `sp`.

-- the expression at a text's front; a number without a unit is in this one
abbrev pub number_value : Scale → List ℕ → ℤ
number_value scale text = (expression_of scale text).value

-- its messages are all at one place
abbrev pub number_notes : Scale → Place → List ℕ → List Item
number_notes scale place text = map noted (messages_at place.line place.column (expression_of scale text).troubles)

-- ---- columns: a column has 24 basic units, and their count is cut towards 0

abbrev pub columns_in : ℤ → ℤ
columns_in units = int_div units (pos 24)

-- a number of columns without a unit is in `n`
abbrev pub columns_value : List ℕ → ℤ
columns_value text = columns_in (number_value En text)

abbrev pub columns_notes : Place → List ℕ → List Item
columns_notes place text = number_notes En place text

-- ---- rows: a row has 40 basic units, and below 0 there is none

abbrev pub rows_in : ℤ → ℕ
rows_in (pos units) = units / 40
rows_in (negsuc units) = 0

-- a number of rows without a unit is in `v`; above 100 rows it is cut
abbrev pub rows_value : List ℕ → ℕ
rows_value text = min (rows_in (number_value Vertical text)) BLANKS

abbrev pub rows_notes : Place → List ℕ → List Item
rows_notes place text =
    number_notes Vertical place text
    ++ (if nat_lt BLANKS (rows_in (number_value Vertical text)) then says Limit place (name_of limits.Blanks) ∷ [] else [])

-- ---- What a token of a word reports and prints, with its numbers. Source: roff(7), "ESCAPE SEQUENCES"; mandoc(1), "DIAGNOSTICS".

-- ---- messages

-- the number in `\h` is in `m` where it has no unit
abbrev pub token_notes : (quoted : Bool) → Place → TextToken → List Item
token_notes quoted place (escaped bytes (meanings.blanks expression)) = number_notes Em place expression
token_notes quoted place (escaped bytes meaning) = meaning_notes quoted place bytes meaning
token_notes quoted place _ = []

-- those of tokens, all at one place
abbrev pub tokens_notes : (quoted : Bool) → Place → List TextToken → List Item
tokens_notes quoted place [] = []
tokens_notes quoted place (token ∷ tokens) = token_notes quoted place token ++ tokens_notes quoted place tokens

-- ---- what a token prints

-- blanks that are cells
abbrev pub blank_cells : ℕ → Font → Place → List Item
blank_cells count font place = replicate count (shown (Text (codes " ") font place))

-- `blank_cells` in one text, where there are any
abbrev pub blank_text : ℕ → Font → Place → List Item
blank_text count font place = if count == 0 then [] else shown (Text (replicate count (ascii " ")) font place) ∷ []

-- `\h` is as many blanks as it has columns
abbrev pub blank_count : List ℕ → ℕ
blank_count expression = characters_columns (printed_escape Ascii (meanings.blanks expression))

abbrev pub token_items : (quoted : Bool) → Font → Place → TextToken → List Item
token_items quoted font place (escaped bytes (meanings.blanks expression)) = blank_text (blank_count expression) font place
token_items quoted font place (escaped bytes (meanings.glyph name)) = shown (Glyph (glyph_name quoted name) font place) ∷ []
token_items quoted font place token = map shown (option_to_list (token_piece font place token))

abbrev pub token_prints : TextToken → Bool
token_prints (escaped bytes (meanings.blanks expression)) = nat_lt 0 (blank_count expression)
token_prints (escaped bytes (meanings.glyph name)) = true
token_prints (escaped bytes meaning) = is_some (token_piece R (at 0 0) (escaped bytes meaning))
token_prints token = true

-- ---- What is known between two tokens of a text, as it is read. Source: roff(7), "LANGUAGE SYNTAX", `\f`, `\c`.

-- ---- after tokens of a word

abbrev pub pen_after : Pen → TextToken → Pen
pen_after pen token = record pen {
  fonts = fonts_after token pen.fonts;
  column = pen.column + length (token_bytes token);
  has_cell = pen.has_cell || token_prints token;
  is_cut = is_glue token;
}

abbrev pub pen_through : Pen → List TextToken → Pen
pen_through pen [] = pen
pen_through pen (token ∷ tokens) = pen_through (pen_after pen token) tokens

-- ---- after a word

-- a word begins without a cell
abbrev pub word_begun : Pen → Pen
word_begun pen = record pen { has_cell = false; is_cut = false }

-- there is one blank after a word
abbrev pub word_ended : Pen → Pen → Pen
word_ended before pen = record pen {
  gap = 1;
  is_after_word = true;
  has_cell = before.has_cell || pen.has_cell;
  ends_blank = false;
}

abbrev pub body_after : Pen → List TextToken → Pen
body_after pen word = word_ended pen (pen_through (word_begun pen) word)

-- in a row that is kept the blanks before a word are cells, where a word is before it
abbrev pub has_gap_cells : TextStyle → Pen → Bool
has_gap_cells style pen = style.is_literal && (pen.is_after_word && nat_lt 0 pen.gap)

abbrev pub gap_after : TextStyle → Pen → Pen
gap_after style pen = record pen { has_cell = pen.has_cell || has_gap_cells style pen }

abbrev pub word_after : TextStyle → Pen → List TextToken → Pen
word_after style pen word = body_after (gap_after style pen) word

-- ---- after white space

abbrev pub white_after : TextStyle → Pen → List ℕ → Pen
white_after style pen bytes = record pen {
  column = pen.column + length bytes;
  gap = if style.is_literal then 0 else max pen.gap 1;
  has_cell = pen.has_cell || style.is_literal;
  is_cut = false;
  ends_blank = true;
}

abbrev pub indented_pen : Pen → List ℕ → Pen
indented_pen pen bytes = record pen { column = pen.column + length bytes; has_cell = true }

-- ---- The end of a sentence at a line's end. Source: roff(7), "Sentences"; mandoc(1).

-- a full stop, an exclamation mark or a question mark
abbrev pub is_end : ℕ → Bool
is_end byte = byte == ascii "." || (byte == ascii "!" || byte == ascii "?")

-- what may be after it: ) ] ' "
abbrev pub is_closer : ℕ → Bool
is_closer byte = (byte == ascii ")" || byte == ascii "]") || (byte == ascii "'" || byte == ascii "\"")

abbrev pub ends_with : (ℕ → Bool) → List ℕ → Bool
ends_with holds text = option_map_or holds (slice_get text (length text - 1)) false

-- a text with or without white space at its end, as its tokens are read; the blanks that an escape takes are bytes of its last word
abbrev pub ends_sentence : (ends_blank : Bool) → List ℕ → Bool
ends_sentence ends_blank text = ends_with is_end (kept is_closer (if ends_blank then kept is_white text else text))
