-- Parts of a word that come after another one: a machine, which no public clause cites.
use Rattle.std.specs.Prelude.{ℕ, List, map, ◌≡◌, ◌≤◌, ◌<◌, ◌+◌, ◌^◌, Bool, true, false, [], ◌∷◌, ◌++◌, length, drop, nat_lt, ◌==◌, not}
use Rattle.page_core_base.specs.Rows.{Item, shown, later_pieces, parts_of}
use Rattle.page_core_base.specs.declared.cells.Font.{Font}
use Rattle.page_core_base.specs.declared.places.Place.{Place}
use Rattle.page_core_base.specs.laws.Views.{is_word, is_lettered, is_lettered_word, lettered_cells, lettered_pieces, word_letters, font_cells, is_kept}
use Rattle.page_core_escapes.specs.laws.Views.{begins_word}
use Rattle.page_core_escapes.specs.Tokens.{plain, token_len, TextToken, token_at}
use Rattle.page_core_base.specs.Limits.{LINE}
use Rattle.page_scopes_text.specs.Texts.{Parted, words_of, others_after, others_items, word_items, Spaced, printed_items, tokens_items}
use Rattle.page_scopes_words.specs.Words.{word_after, is_glue, token_notes, token_prints, pen_through, tokens_notes, body_after}
use Rattle.page_scopes_words.specs.declared.pens.Pen.{Pen}
use Rattle.page_scopes_words.specs.declared.pens.TextStyle.{TextStyle}
use Rattle.std.specs.List.{list_all}
use Rattle.page_core_base.specs.declared.cells.Cell.{Cell}
use Rattle.page_core_base.specs.declared.cells.Font.TheVariants.{R}
use Rattle.page_core_base.specs.declared.pieces.Piece.{Piece}
use Rattle.page_scopes_words.specs.machine.Letters.{letters_in, GivesLetters, resting}
use Rattle.page_scopes_words.specs.declared.settings.Setting.{Setting}
use Rattle.page_scopes_words.specs.declared.fonts.Fonts.{Fonts}
use Rattle.page_scopes_words.specs.Fonts.{fonts_after}

-- what is left of bytes that print themselves, after one of their parts
abbrev pub later_items : Font → Place → List ℕ → List Item
later_items font place bytes = map shown (later_pieces font place (parts_of bytes))

-- ---- A machine, which only calls between our crates cite: how the code's own reading of a text goes on from its front. Source: roff(7).

-- a text of a line, up to whose end columns have room
pub record Fits (pen : Pen) (text : List ℕ) : Type 0 where
  pub short : length text ≤ LINE
  pub room : pen.column + length text < 2 ^ 32

-- of a text this much is left, where the pen is
pub record Within (pen : Pen) (text : List ℕ) (next : Pen) (rest : List ℕ) : Type 0 where
  pub less : length rest ≤ length text
  pub column : next.column + length rest ≡ pen.column + length text

-- the word at a text's front was read
pub record ReadsWord (quoted : Bool) (pen : Pen) (text : List ℕ) (next : Pen) (rest : List ℕ) : Type 0 where
  pub within : Within pen text next rest
  pub ends : begins_word rest ≡ false
  pub others : (words_of quoted rest).others ≡ (words_of quoted text).others

-- the white space at a text's front was read, and the word after it
pub record ReadsSpaced (quoted : Bool) (pen : Pen) (text : List ℕ) (next : Pen) (rest : List ℕ) : Type 0 where
  pub within : Within pen text next rest
  pub some : length rest < length text
  pub ends : begins_word rest ≡ false
  pub others : (words_of quoted rest).others ≡ (words_of quoted (drop (token_len quoted text) text)).others

-- a word at a text's front was read, all of which prints itself
pub record ReadsPlain (quoted : Bool) (text word rest : List ℕ) : Type 0 where
  pub len : length word + length rest ≡ length text
  pub is_a_word : is_word word ≡ true
  pub only : (words_of quoted text).word ≡ plain word ∷ []
  pub ends : begins_word rest ≡ false
  pub others : (words_of quoted rest).others ≡ (words_of quoted text).others

-- what the word at a text's front gives, and those after it
abbrev pub first_items : TextStyle → (line last : ℕ) → (has_tab : Bool) → Pen → Parted → List Item
first_items style line last has_tab pen text =
    word_items style line has_tab pen text.word ++ others_items style line last (word_after style pen text.word) text.others

-- the pen after them
abbrev pub first_after : TextStyle → Pen → Parted → Pen
first_after style pen text = others_after style (word_after style pen text.word) text.others

-- ---- Words of letters in their fonts, which are read once and given at once: a fast way of the code, which no public clause cites.
-- Source: roff(7), `\f`.

-- a token that prints these letters or nothing, and has no message
pub record Lettered (token : TextToken) (letters : List ℕ) : Type 0 where
  pub notes : (quoted : Bool) (place : Place) → token_notes quoted place token ≡ []
  pub glues : is_glue token ≡ false
  pub prints : token_prints token ≡ nat_lt 0 (length letters)
  pub items : (quoted : Bool) (font : Font) (place : Place) → (pieces : List (Piece (List ℕ)))
      × (printed_items quoted true font place token ≡ map shown pieces) × (list_all is_lettered pieces ≡ true) × (word_letters pieces ≡ letters_in font letters)

-- a pen inside a word that is filled, after one blank
abbrev pub inside : Setting Fonts → ℕ → Bool → Pen
inside fonts column has_cell = record {
  fonts = fonts;
  column = column;
  gap = 1;
  is_after_word = true;
  has_cell = has_cell;
  is_cut = false;
  ends_blank = true;
  splits = true;
}

-- a part of the word at a text's front was read as letters, which are these cells; what is left is the text's rest
pub record ReadsLetters (quoted : Bool) (fonts : Setting Fonts) (text : List ℕ) (next : Setting Fonts) (rest : List ℕ) (cells : List Cell) : Type 0 where
  pub less : length rest ≤ length text
  pub others : (words_of quoted rest).others ≡ (words_of quoted text).others
  pub notes : (place : Place) → tokens_notes quoted place (words_of quoted text).word ≡ tokens_notes quoted place (words_of quoted rest).word
  pub items : (place : Place) (column after : ℕ) → after + length rest ≡ column + length text → (pieces : List (Piece (List ℕ)))
      × (list_all is_lettered pieces ≡ true) × (word_letters pieces ≡ cells)
      × (tokens_items quoted place (inside fonts column false) (words_of quoted text).word
      ≡ map shown pieces ++ tokens_items quoted place (inside next after (nat_lt 0 (length cells))) (words_of quoted rest).word)
  pub pens : (column after : ℕ) → after + length rest ≡ column + length text
      → pen_through (inside fonts column false) (words_of quoted text).word ≡ pen_through (inside next after (nat_lt 0 (length cells))) (words_of quoted rest).word

-- words of letters, which are these cells, are given between two places of a text
abbrev pub GivesWords : TextStyle → (line last : ℕ) → Pen → List Spaced → Pen → List Spaced → List Cell → Type 0
GivesWords style line last pen parts next others cells =
    (words : List (List (Piece (List ℕ)))) × (list_all is_lettered_word words ≡ true) × (lettered_cells words ≡ cells)
    × (others_items style line last pen parts ≡ map shown (lettered_pieces 1 words) ++ others_items style line last next others)

-- words of letters at a text's front were read, each after one blank
pub record ReadsWords (style : TextStyle) (fonts : Setting Fonts) (text : List ℕ) (next : Setting Fonts) (rest : List ℕ) (cells : List Cell) : Type 0 where
  pub less : length rest ≤ length text
  pub ends : begins_word rest ≡ false
  pub gives : (line last column after : ℕ) → after + length rest ≡ column + length text
      → GivesWords style line last (resting fonts column) (words_of style.is_quoted text).others (resting next after) (words_of style.is_quoted rest).others cells
  pub pens : (column after : ℕ) → after + length rest ≡ column + length text
      → others_after style (resting next after) (words_of style.is_quoted rest).others ≡ others_after style (resting fonts column) (words_of style.is_quoted text).others

-- the first word of a text prints something, and has no message
abbrev pub PrintsFirst : Bool → Setting Fonts → List ℕ → Type 0
PrintsFirst quoted fonts text =
    ((column : ℕ) → (pen_through (inside fonts column false) (words_of quoted text).word).has_cell ≡ true)
    × ((place : Place) → tokens_notes quoted place (words_of quoted text).word ≡ [])

-- words of letters, which are these cells, were read at a text's front, after a blank
pub record ReadsAfterBlank (style : TextStyle) (fonts : Setting Fonts) (text : List ℕ) (next : Setting Fonts) (rest : List ℕ) (cells : List Cell) : Type 0 where
  pub prints : PrintsFirst style.is_quoted fonts text
  pub some : 0 < length cells
  pub words : ReadsWords style fonts (32 ∷ text) next rest (record { c = 32; font = R } ∷ cells)

-- letters were added, by which a token was taken
abbrev pub TakesToken : TextToken → Font → List Cell → List Cell → Type 0
TakesToken token font before after = (letters : List ℕ) × Lettered token letters × (after ≡ before ++ letters_in font letters)

-- the token at a text's front was taken as letters
pub record ReadsToken (quoted : Bool) (fonts : Setting Fonts) (before : List Cell) (text : List ℕ) (next : Setting Fonts) (after : List Cell) (rest : List ℕ) : Type 0 where
  pub takes : TakesToken (token_at quoted text) fonts.value.font before after
  pub some : 0 < token_len quoted text
  pub within : token_len quoted text ≤ length text
  pub next_fonts : next ≡ fonts_after (token_at quoted text) fonts
  pub left : rest ≡ drop (token_len quoted text) text

-- the token at a text's front is an escape that asks for a font, by which no letters are added
abbrev pub ReadsFont : Setting Fonts → List ℕ → Setting Fonts → List ℕ → Type 0
ReadsFont fonts text next rest = (quoted : Bool) (cells : List Cell) → ReadsToken quoted fonts cells text next cells rest

-- letters were added
abbrev pub Grows : List Cell → List Cell → Type 0
Grows before after = (cells : List Cell) × (after ≡ before ++ cells)

-- letters were added, as which the word at a text's front was read
abbrev pub AddsWord : Bool → Setting Fonts → List Cell → List ℕ → Setting Fonts → List Cell → List ℕ → Type 0
AddsWord quoted fonts before text next after rest =
    (cells : List Cell) × (after ≡ before ++ cells) × ReadsLetters quoted fonts text next rest cells

-- letters were added, as which words at a text's front were read
abbrev pub AddsWords : TextStyle → Setting Fonts → List Cell → List ℕ → Setting Fonts → List Cell → List ℕ → Type 0
AddsWords style fonts before text next after rest =
    (cells : List Cell) × (after ≡ before ++ cells) × ReadsWords style fonts text next rest cells

-- letters were added, as which words at a text's front were read, after a blank
abbrev pub AddsAfterBlank : TextStyle → Setting Fonts → List Cell → List ℕ → Setting Fonts → List Cell → List ℕ → Type 0
AddsAfterBlank style fonts before text next after rest =
    (cells : List Cell) × (after ≡ before ++ cells) × ReadsAfterBlank style fonts text next rest cells

-- ---- Texts that begin with words of letters, after blanks: a fast way of the code, which no public clause cites. Source: roff(7), "LANGUAGE SYNTAX".

-- blanks are before the next word, which may be parted, in rows that are filled
pub record GoesOn (style : TextStyle) (pen : Pen) : Type 0 where
  pub filled : style.is_literal ≡ false
  pub gap : 0 < pen.gap
  pub splits : pen.splits ≡ true
  pub column : 0 < pen.column

-- words with a blank between two are given in the roman font, and one word in any
abbrev pub is_in_font : Font → List ℕ → Bool
is_in_font R text = true
is_in_font _ text = list_all (λ byte. not (byte == 32)) text

-- words of letters at a text's front were given after the pen's blanks; they were read as if one blank were before them
pub record GivesFront {S : Type 0} (style : TextStyle) (pen : Pen) (text : List ℕ) (next : Setting Fonts) (rest : List ℕ)
    (gave : S → List Item → S → Type 0) (s t : S) : Type 0 where
  pub less : length rest ≤ length text
  pub prints : PrintsFirst style.is_quoted pen.fonts text
  pub cells : List Cell
  pub some : 0 < length cells
  pub adds : AddsWords style pen.fonts [] (32 ∷ text) next cells rest
  pub gives : GivesLetters pen.gap cells true gave s t

-- ---- A machine, which no public clause cites: words and blanks of a row that is kept as it is, which are given at once. Source: roff(7), "nf".

-- roman characters are the cells of these pieces
abbrev pub AreCells : List ℕ → List (Piece (List ℕ)) → Type 0
AreCells text pieces = (list_all is_kept pieces ≡ true) × (font_cells R text ≡ word_letters pieces)

-- the pen after words and the blanks before them
abbrev pub kept_pen : Pen → List ℕ → Pen
kept_pen pen [] = pen
kept_pen pen (b ∷ bytes) = body_after pen (plain (b ∷ bytes) ∷ [])

-- a pen in a row that is kept, and in the roman font
pub record IsKept (style : TextStyle) (pen : Pen) : Type 0 where
  pub literal : style.is_literal ≡ true
  pub roman : pen.fonts.value.font ≡ R

-- words at a text's front, with the blanks before them, print themselves
pub record ReadsKept (style : TextStyle) (text rest : List ℕ) : Type 0 where
  pub front : List ℕ
  pub whole : text ≡ front ++ rest
  pub gives : (line last : ℕ) (pen : Pen) → IsKept style pen
      → (pieces : List (Piece (List ℕ))) × AreCells front pieces
      × (others_items style line last pen (words_of style.is_quoted text).others
      ≡ map shown pieces ++ others_items style line last (kept_pen pen front) (words_of style.is_quoted rest).others)
  pub after : (pen : Pen) → IsKept style pen
      → others_after style pen (words_of style.is_quoted text).others ≡ others_after style (kept_pen pen front) (words_of style.is_quoted rest).others
