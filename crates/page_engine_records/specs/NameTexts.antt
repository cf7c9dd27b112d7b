-- The text of a page's section NAME, read off the pieces and messages that its lines give, in place of their rows. To a text pieces are signs: characters,
-- gaps between words, the fronts of paragraphs, and the ends of headings at the page's left edge, whose words are what their paragraph has before. The section
-- is what comes after the heading NAME, up to the paragraph of the next heading. Source: man(7), SH; mdoc(7), Sh; mandoc(1), makewhatis.
use Rattle.std.specs.Prelude.{ℕ, Bool, true, false, ◌==◌, nat_lt, if◌then◌else◌, List, [], ◌∷◌, ◌++◌, take, map, filter, codes, Option, Some, None, option_map}
use Rattle.std.specs.Str.{bytes_eq}
use Rattle.page_core_base.specs.Rows.{Item, shown, noted}
use Rattle.page_core_base.specs.Texts.{characters_of}
use Rattle.page_core_base.specs.declared.page_settings.Output.TheVariants.{Ascii}
use Rattle.page_core_base.specs.declared.pieces.Piece.{Piece}
use Rattle.page_core_base.specs.declared.pieces.Piece.TheVariants.{Text, Glyph, Char, Tab, Blank, Glue, Split, Break, RowEnd, Para, Space, Indent, Literal, Tag, TagEnd, Heading, Column}
use Rattle.page_core_tables.specs.Glyphs.{char_printed, glyph_printed}
use Rattle.page_scopes_words.specs.Words.{plain_printed}

-- ---- signs

-- a character of ASCII; a gap between words; a joint, which makes a gap before it none; the front of a paragraph, which is a gap too; and the end of a heading
-- at the page's left edge
pub data Sign : Type 0 where
  character : ℕ → Sign
  gap : Sign
  joint : Sign
  paragraph : Sign
  heading : Sign

-- a character that is not of ASCII is no text
abbrev pub characters : List ℕ → List Sign
characters cs = map character (filter (λ c. nat_lt c 128) cs)

-- what a piece prints in ASCII is text, without its font, and a tab is a blank; where it puts blanks or ends a row, there is a gap. A heading in a margin
-- is text, which ends a row
abbrev pub piece_signs : (margin : ℕ) → Piece (List ℕ) → List Sign
piece_signs margin (Text bytes font place) = characters (plain_printed Ascii (characters_of bytes))
piece_signs margin (Glyph name font place) = characters (glyph_printed Ascii name).characters
piece_signs margin (Char c font place) = characters (char_printed Ascii c).characters
piece_signs margin (Tab font place) = character 32 ∷ []
piece_signs margin (Blank count has_tab) = gap ∷ []
piece_signs margin Glue = joint ∷ []
piece_signs margin Split = []
piece_signs margin Break = gap ∷ []
piece_signs margin RowEnd = gap ∷ []
piece_signs margin (Para count) = paragraph ∷ []
piece_signs margin (Space count) = gap ∷ []
piece_signs margin (Indent first rest) = []
piece_signs margin (Literal is_literal) = []
piece_signs margin (Tag hang form) = []
piece_signs margin TagEnd = gap ∷ []
piece_signs margin Heading = if margin == 0 then heading ∷ [] else gap ∷ []
piece_signs margin (Column column) = gap ∷ []

-- the margin in which rows begin after a piece
abbrev pub margin_after : ℕ → Piece (List ℕ) → ℕ
margin_after margin (Indent first rest) = first
margin_after margin piece = margin

-- the signs of items, where rows begin in this margin; messages are no text
unfoldable pub signs_of : (margin : ℕ) → List Item → List Sign
signs_of margin [] = []
signs_of margin (noted message ∷ items) = signs_of margin items
signs_of margin (shown piece ∷ items) = piece_signs margin piece ++ signs_of (margin_after margin piece) items

-- ---- texts

-- the text after a character: gaps, as many as there are, are one blank before the next character
abbrev pub text_after : (is_apart : Bool) → List Sign → List ℕ
text_after is_apart [] = []
text_after true (character c ∷ signs) = 32 ∷ c ∷ text_after false signs
text_after false (character c ∷ signs) = c ∷ text_after false signs
text_after is_apart (gap ∷ signs) = text_after true signs
text_after is_apart (joint ∷ signs) = text_after false signs
text_after is_apart (paragraph ∷ signs) = text_after true signs
text_after is_apart (heading ∷ signs) = text_after is_apart signs

-- the text of signs: before the first character gaps are nothing, nor are they after the last
abbrev pub text_of : List Sign → List ℕ
text_of [] = []
text_of (character c ∷ signs) = c ∷ text_after false signs
text_of (sign ∷ signs) = text_of signs

-- the bytes of a section's text at most; what comes after them is not kept
abbrev pub TEXT : ℕ
TEXT = 4_096

abbrev pub kept_text : List Sign → List ℕ
kept_text signs = take TEXT (text_of signs)

-- ---- the section NAME

-- what comes after the first heading whose paragraph is the one word NAME; `passed` is what the paragraph has before these signs
unfoldable pub after_name : (passed : List Sign) → List Sign → Option (List Sign)
after_name passed [] = None
after_name passed (paragraph ∷ signs) = after_name [] signs
after_name passed (heading ∷ signs) = if bytes_eq (text_of passed) (codes "NAME") then Some signs else after_name passed signs
after_name passed (sign ∷ signs) = after_name (passed ++ sign ∷ []) signs

-- whether the paragraph that goes on here is that of a heading, which ends before the next paragraph's front
abbrev pub is_headed : List Sign → Bool
is_headed [] = false
is_headed (paragraph ∷ signs) = false
is_headed (heading ∷ signs) = true
is_headed (sign ∷ signs) = is_headed signs

-- the paragraphs before that of the next heading; all of them, where none comes any more
abbrev pub up_to_heading : List Sign → List Sign
up_to_heading [] = []
up_to_heading (heading ∷ signs) = []
up_to_heading (sign ∷ signs) = if is_headed signs then [] else sign ∷ up_to_heading signs

-- the text of a page's section NAME: a page begins at the left edge, and one that comes to no such section has none
unfoldable pub name_text : List Item → Option (List ℕ)
name_text items = option_map (λ signs. kept_text (up_to_heading signs)) (after_name [] (signs_of 0 items))
