-- What contracts of the code say by the definitions, and what is proved of these.
use Rattle.std.specs.Prelude.{ℕ, ◌<◌, ◌≤◌, ⊤, Bool, false, not, List, [], ◌∷◌}
use Rattle.std.specs.Str.{IsUtf8}
use Rattle.page_core_base.specs.Bytes.{is_white}
use Rattle.page_core_escapes.specs.Meanings.{Face, roman, italic, bold, bold_italic, former, unknown, Meaning, glyph, character, tab, blank, blanks, nothing, glue, face, undefined, unsupported, bad}
use Rattle.page_core_escapes.specs.Tokens.{TextToken, white, plain, quotes, escaped}
use Rattle.page_core_escapes.specs.declared.extents.Extent.{Extent}
use Rattle.page_core_escapes.specs.declared.extents.Extent.TheVariants.{Whole, QuotedFrom}
use Rattle.page_core_escapes.specs.declared.meaning.Escape.{Escape}
use Rattle.page_core_escapes.specs.declared.meaning.Escape.TheVariants as E
use Rattle.page_core_escapes.specs.declared.meaning.FontName.{FontName}
use Rattle.page_core_escapes.specs.declared.meaning.FontName.TheVariants as F
use Rattle.page_core_escapes.specs.declared.tokens.Token.{Token}
use Rattle.page_core_escapes.specs.declared.tokens.Token.TheVariants as tokens

-- the extent has some bytes, and no more than there are
abbrev pub ExtentFits : ℕ → Extent → Type 0
ExtentFits n (Whole k) = (0 < k) × (k ≤ n)
ExtentFits n (QuotedFrom k) = (2 ≤ k) × (k ≤ n)

-- a `FontName` and an `Escape` of the code, with lists in place of lent slices
abbrev pub face_view : FontName → Face
face_view F.R = roman
face_view F.I = italic
face_view F.B = bold
face_view F.BI = bold_italic
face_view F.Former = former
face_view (F.Unknown name) = unknown name.now

abbrev pub meaning_view : Escape → Meaning
meaning_view (E.Glyph name) = glyph name.now
meaning_view (E.Char c) = character c
meaning_view E.Tab = tab
meaning_view E.Blank = blank
meaning_view (E.Blanks expression) = blanks expression.now
meaning_view E.Nothing = nothing
meaning_view E.Glue = glue
meaning_view (E.Font name) = face (face_view name)
meaning_view (E.Undefined c) = undefined c
meaning_view E.Unsupported = unsupported
meaning_view E.Bad = bad

-- the texts in a meaning are in UTF-8
abbrev pub HasTexts : Meaning → Type 0
HasTexts (glyph name) = IsUtf8 name
HasTexts (character c) = ⊤
HasTexts tab = ⊤
HasTexts blank = ⊤
HasTexts (blanks expression) = IsUtf8 expression
HasTexts nothing = ⊤
HasTexts glue = ⊤
HasTexts (face roman) = ⊤
HasTexts (face italic) = ⊤
HasTexts (face bold) = ⊤
HasTexts (face bold_italic) = ⊤
HasTexts (face former) = ⊤
HasTexts (face (unknown name)) = IsUtf8 name
HasTexts (undefined c) = ⊤
HasTexts unsupported = ⊤
HasTexts bad = ⊤

-- a token of the code, with lists in place of lent slices
abbrev pub token_view : Token → TextToken
token_view (tokens.White bytes) = white bytes.now
token_view (tokens.Plain bytes) = plain bytes.now
token_view (tokens.Quotes bytes) = quotes bytes.now
token_view (tokens.Escaped bytes meaning) = escaped bytes.now (meaning_view meaning)

abbrev pub begins_word : List ℕ → Bool
begins_word [] = false
begins_word (byte ∷ bytes) = not (is_white byte)
