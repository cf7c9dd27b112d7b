-- A text as pieces and messages: its words, and the white space between them. Source: roff(7), "Filling and adjusting".
use Rattle.std.specs.Prelude.{ℕ, List, [], ◌∷◌, Bool, ◌++◌, map, if◌then◌else◌, ◌==◌, ◌+◌, length, not, ◌&&◌, false}
use Rattle.page_core_base.specs.Rows.{Item, shown, part_pieces, parts_of}
use Rattle.page_core_base.specs.declared.cells.Font.{Font}
use Rattle.page_core_base.specs.declared.cells.Font.TheVariants.{R}
use Rattle.page_core_base.specs.declared.pieces.Piece.TheVariants.{Text, Blank, Break}
use Rattle.page_core_base.specs.declared.places.Place.{Place}
use Rattle.page_core_escapes.specs.Tokens.{TextToken, white, tokens_of, plain, tokens_len}
use Rattle.page_scopes_words.specs.Words.{tokens_notes, token_items, pen_after, pen_through, word_begun, blank_cells, at, gap_after, white_cells, has_tab, white_after, word_after, indented_pen, has_gap_cells, body_after}
use Rattle.page_scopes_words.specs.declared.pens.Pen.{Pen}
use Rattle.page_scopes_words.specs.declared.pens.TextStyle.{TextStyle}

-- ---- The words of a text, each with the blanks and tabs before it. Source: roff(7), "LANGUAGE SYNTAX".

-- a word, and the white space before it
pub record Spaced : Type 0 where
  pub white : List ℕ
  pub word : List TextToken

-- A text: the word at its front, which is empty where white space is there, and those after it. The last of them is empty where white space is at
-- the text's end.
pub record Parted : Type 0 where
  pub word : List TextToken
  pub others : List Spaced

abbrev pub after_token : TextToken → Parted → Parted
after_token (white bytes) text = record { word = []; others = record { white = bytes; word = text.word } ∷ text.others }
after_token token text = record { word = token ∷ text.word; others = text.others }

abbrev pub parted : List TextToken → Parted
parted [] = record { word = []; others = [] }
parted (token ∷ tokens) = after_token token (parted tokens)

-- the words of a text, which is quoted or not
abbrev pub words_of : Bool → List ℕ → Parted
words_of quoted text = parted (tokens_of quoted text)

-- ---- A word as pieces and messages. Source: roff(7), "ESCAPE SEQUENCES"; mandoc(1), "DIAGNOSTICS".

-- ---- what tokens of a word print

-- bytes that print themselves, at whose hyphens a row may end
abbrev pub parts_items : Font → Place → List ℕ → List Item
parts_items font place bytes = map shown (part_pieces font place (parts_of bytes))

-- a token of a word that is parted or not
abbrev pub printed_items : (quoted splits : Bool) → Font → Place → TextToken → List Item
printed_items quoted splits font place (plain bytes) = if splits then parts_items font place bytes else shown (Text bytes font place) ∷ []
printed_items quoted splits font place token = token_items quoted font place token

-- each token prints in the font that those before it leave
abbrev pub tokens_items : (quoted : Bool) → Place → Pen → List TextToken → List Item
tokens_items quoted place pen [] = []
tokens_items quoted place pen (token ∷ tokens) =
    printed_items quoted pen.splits pen.fonts.value.font place token ++ tokens_items quoted place (pen_after pen token) tokens

-- ---- a word

-- a word that prints nothing is a text without characters
abbrev pub empty_items : Bool → Place → List Item
empty_items has_cell place = if has_cell then [] else shown (Text [] R place) ∷ []

abbrev pub body_items : (quoted : Bool) → Place → Pen → List TextToken → List Item
body_items quoted place pen word =
    tokens_items quoted place (word_begun pen) word ++ empty_items (pen_through (word_begun pen) word).has_cell place

-- the blanks before a word part it, or are kept where a word is before it
abbrev pub gap_items : TextStyle → Bool → Place → Pen → List Item
gap_items style has_tab place pen =
    if style.is_literal then (if pen.is_after_word then blank_cells pen.gap R place else [])
    else if pen.gap == 0 then [] else shown (Blank pen.gap has_tab) ∷ []

-- a word's messages come first; then the blanks before it, and what it prints
abbrev pub word_items : TextStyle → ℕ → Bool → Pen → List TextToken → List Item
word_items style line has_tab pen word =
    tokens_notes style.is_quoted (at line pen.column) word
    ++ (gap_items style has_tab (at line pen.column) pen ++ body_items style.is_quoted (at line pen.column) (gap_after style pen) word)

-- ---- A text as pieces and messages: its words, and the white space between them. Source: roff(7), "LANGUAGE SYNTAX"; mandoc(1), "DIAGNOSTICS".

-- ---- the column of a text's last word

-- that of the last of some parts that has a word, where the first of them is at a column; else that of the last word before them
abbrev pub last_of : (column last : ℕ) → List Spaced → ℕ
last_of column last [] = last
last_of column last (part ∷ parts) =
    last_of (column + (length part.white + tokens_len part.word)) (if length part.word == 0 then last else column + length part.white) parts

-- that of a text at a column; where it is white space alone, that of the last word before it. A text without bytes is a word that prints nothing
abbrev pub last_word : (column last : ℕ) → Parted → ℕ
last_word column last text =
    last_of (column + tokens_len text.word) (if length text.word == 0 && not (length text.others == 0) then last else column) text.others

-- ---- a word after white space, which parts it, or is kept

-- the place of what is after white space
abbrev pub place_after : ℕ → Pen → List ℕ → Place
place_after line pen blanks = at line (pen.column + length blanks)

-- the place of white space that is kept: that of the word after it, and at the text's end, where there is none, that of the last word
abbrev pub white_place : (line last : ℕ) → Pen → Spaced → Place
white_place line last pen part = if length part.word == 0 then at line last else place_after line pen part.white

abbrev pub white_items : TextStyle → Place → List ℕ → List Item
white_items style place blanks = if style.is_literal then white_cells place blanks else []

-- at the text's end there is no word
abbrev pub spaced_items : TextStyle → (line last : ℕ) → Pen → Spaced → List Item
spaced_items style line last pen part =
    white_items style (white_place line last pen part) part.white
    ++ (if length part.word == 0 then [] else word_items style line (has_tab part.white) (white_after style pen part.white) part.word)

abbrev pub spaced_after : TextStyle → Pen → Spaced → Pen
spaced_after style pen part =
    if length part.word == 0 then white_after style pen part.white else word_after style (white_after style pen part.white) part.word

abbrev pub others_items : TextStyle → (line last : ℕ) → Pen → List Spaced → List Item
others_items style line last pen [] = []
others_items style line last pen (part ∷ parts) =
    spaced_items style line last pen part ++ others_items style line last (spaced_after style pen part) parts

abbrev pub others_after : TextStyle → Pen → List Spaced → Pen
others_after style pen [] = pen
others_after style pen (part ∷ parts) = others_after style (spaced_after style pen part) parts

-- ---- white space at a text's front

-- in a text line that is filled it ends the row, and is kept as cells of the first word, whose messages come first
abbrev pub is_indented : TextStyle → Bool
is_indented style = style.is_line && not style.is_literal

abbrev pub indented_items : (quoted : Bool) → ℕ → Pen → Spaced → List Item
indented_items quoted line pen part =
    shown Break
    ∷ (tokens_notes quoted (place_after line pen part.white) part.word
    ++ (white_cells (place_after line pen part.white) part.white
    ++ body_items quoted (place_after line pen part.white) (indented_pen pen part.white) part.word))

-- in a row that is kept a blank parts it from the word before it; where no word follows, the blank is at the last word, too
abbrev pub gap_place : (line last : ℕ) → Pen → Spaced → Place
gap_place line last pen part = at line (if length part.word == 0 then last else pen.column)

abbrev pub leading_items : TextStyle → (line last : ℕ) → Pen → Spaced → List Item
leading_items style line last pen part =
    if is_indented style then indented_items style.is_quoted line pen part
    else (if has_gap_cells style pen then blank_cells 1 R (gap_place line last pen part) else []) ++ spaced_items style line last pen part

abbrev pub leading_after : TextStyle → Pen → Spaced → Pen
leading_after style pen part =
    if is_indented style then body_after (indented_pen pen part.white) part.word else spaced_after style pen part

-- ---- a text; one without bytes is a word that prints nothing

abbrev pub parted_items : TextStyle → (line last : ℕ) → Pen → List TextToken → List Spaced → List Item
parted_items style line last pen [] [] = word_items style line false pen []
parted_items style line last pen [] (part ∷ parts) =
    leading_items style line last pen part ++ others_items style line last (leading_after style pen part) parts
parted_items style line last pen (token ∷ tokens) parts =
    word_items style line false pen (token ∷ tokens) ++ others_items style line last (word_after style pen (token ∷ tokens)) parts

abbrev pub parted_after : TextStyle → Pen → List TextToken → List Spaced → Pen
parted_after style pen [] [] = word_after style pen []
parted_after style pen [] (part ∷ parts) = others_after style (leading_after style pen part) parts
parted_after style pen (token ∷ tokens) parts = others_after style (word_after style pen (token ∷ tokens)) parts

-- its last word is at a column
abbrev pub words_items : TextStyle → (line last : ℕ) → Pen → Parted → List Item
words_items style line last pen text = parted_items style line last pen text.word text.others

-- the last word of its line before it is at a column
abbrev pub text_items : TextStyle → (line last : ℕ) → Pen → Parted → List Item
text_items style line last pen text = words_items style line (last_word pen.column last text) pen text

abbrev pub text_after : TextStyle → Pen → Parted → Pen
text_after style pen text = parted_after style pen text.word text.others
