-- What an escape means, and the escape at a text's front. Source: roff(7), "Escape sequences"; mandoc_char(7).
use Rattle.std.specs.List.{list_all, list_any}
use Rattle.std.specs.Prelude.{ℕ, List, ◌-◌, length, take, ◌==◌, [], ◌∷◌, if◌then◌else◌, Bool, drop, unwrap_or, ◌&&◌, ◌||◌, nat_le, ◌+◌, ◌*◌, fold, not, false, codes, true, slice_index, Option, Some, None}
use Rattle.std.specs.Str.{bytes_eq, chars, is_utf8}
use Rattle.std.specs.Int.{is_in_range}
use Rattle.page_core_base.specs.Bytes.{is_digit, ascii}
use Rattle.page_core_escapes.specs.Lengths.{written_len, letter_of, escape_len}
use Rattle.page_core_escapes.specs.declared.letters.LetterKind.{LetterKind}
use Rattle.page_core_escapes.specs.declared.letters.LetterKind.TheVariants as means
use Rattle.page_core_escapes.specs.declared.letters.Letter.{Letter}
use Rattle.page_core_escapes.specs.declared.letters.Shape.{Shape}
use Rattle.page_core_escapes.specs.declared.letters.Shape.TheVariants.{Alone, Glyph, Name, Size, Quoted}

-- ---- What an escape means: roff(7), "Escape sequences", and mandoc_char(7).

-- the font that an escape asks for: one of the four, the former one, or a name that no font has
pub data Face : Type 0 where
  roman : Face
  italic : Face
  bold : Face
  bold_italic : Face
  former : Face
  unknown : List ℕ → Face

pub data Meaning : Type 0 where
  -- the glyph of this name, which there may be or not
  glyph : List ℕ → Meaning
  -- this character
  character : ℕ → Meaning
  tab : Meaning
  -- a blank where no row is broken, and as many as this expression says
  blank : Meaning
  blanks : List ℕ → Meaning
  -- nothing is printed
  nothing : Meaning
  -- at a line's end: the next line's text is glued
  glue : Meaning
  face : Face → Meaning
  -- there is no such escape: the character itself is printed
  undefined : ℕ → Meaning
  -- an escape of roff that has no effect here
  unsupported : Meaning
  -- the text ends before the escape does
  bad : Meaning

-- ---- arguments without what is round them

abbrev pub without_last : List ℕ → List ℕ
without_last bs = take (length bs - 1) bs

-- a name that was written as `x`, `(xx` or `[name]`
abbrev pub bare_name : List ℕ → List ℕ
bare_name [] = []
bare_name (b ∷ bs) = if b == ascii "(" then bs else (if b == ascii "[" then without_last bs else b ∷ bs)

-- an argument that was written between two delimiters; a pair of quotes may be one
abbrev pub bare_quoted : (pairs : Bool) → List ℕ → List ℕ
bare_quoted pairs bs = let mark = unwrap_or (written_len pairs bs) 0 in take (length bs - mark - mark) (drop mark bs)

-- ---- code points: `[uXXXX]` with four to six hexadecimal digits in upper case

-- 0 to 9 and A to F
abbrev pub is_hex_digit : ℕ → Bool
is_hex_digit b = is_digit b || is_in_range (ascii "A") (ascii "F") b

abbrev pub hex_value : ℕ → ℕ
hex_value b = if is_digit b then b - ascii "0" else b - (ascii "A" - 10)

abbrev pub hex_number : List ℕ → ℕ
hex_number digits = fold (λ n b. n * 16 + hex_value b) 0 digits

-- a character's code, above those of ASCII and its control characters
abbrev pub is_code_point : ℕ → Bool
is_code_point c = nat_le 0xA0 c && (nat_le c 0x10FFFF && not (nat_le 0xD800 c && nat_le c 0xDFFF))

-- `u` and its digits
abbrev pub names_code_point : List ℕ → Bool
names_code_point [] = false
names_code_point (b ∷ digits) =
    (b == ascii "u") && (nat_le 4 (length digits) && (nat_le (length digits) 6 && (list_all is_hex_digit digits && is_code_point (hex_number digits))))

abbrev pub bracketed : List ℕ → Meaning
bracketed name = if names_code_point name then character (hex_number (drop 1 name)) else glyph name

-- ---- fonts

abbrev pub is_one_of : List ℕ → List (List ℕ) → Bool
is_one_of name names = list_any (bytes_eq name) names

unfoldable pub face_of : List ℕ → Face
face_of name =
    if is_one_of name (codes "R" ∷ codes "1" ∷ codes "CW" ∷ codes "CR" ∷ []) then roman else (
    if is_one_of name (codes "I" ∷ codes "2" ∷ codes "CI" ∷ []) then italic else (
    if is_one_of name (codes "B" ∷ codes "3" ∷ codes "CB" ∷ []) then bold else (
    if is_one_of name (codes "BI" ∷ codes "4" ∷ []) then bold_italic else (
    if is_one_of name (codes "P" ∷ [] ∷ []) then former else unknown name))))

-- there is such a font
abbrev pub is_known : Face → Bool
is_known (unknown name) = false
is_known _ = true

-- ---- all escapes, by their letters

-- the first character of a text; one that is not UTF-8 has the replacement character
unfoldable pub first_char : List ℕ → ℕ
first_char text = if is_utf8 text then slice_index (chars text) 0 else 0xFFFD

-- the argument of an escape, without what is round it, by its shape and its text from its letter on
abbrev pub argument_of : (pairs : Bool) → Shape → List ℕ → List ℕ
argument_of pairs Alone text = []
argument_of pairs Glyph text = bare_name text
argument_of pairs Name text = bare_name (drop 1 text)
argument_of pairs Size text = drop 1 text
argument_of pairs Quoted text = bare_quoted pairs (drop 1 text)

-- what an escape means by its kind, its argument and its text from its letter on; with another character there is no such escape
abbrev pub meaning_by : LetterKind → (argument text : List ℕ) → Meaning
meaning_by means.Glyph argument text = glyph argument
meaning_by means.CodePoint argument text = bracketed argument
meaning_by (means.Char c) argument text = character c
meaning_by means.Tab argument text = tab
meaning_by means.Blank argument text = blank
meaning_by means.Blanks argument text = blanks argument
meaning_by means.Nothing argument text = nothing
meaning_by means.Size [] text = undefined (first_char text)
meaning_by means.Size (b ∷ bs) text = nothing
meaning_by means.Glue argument text = glue
meaning_by means.Font argument text = face (face_of argument)
meaning_by means.Undefined argument text = undefined (first_char text)
meaning_by means.Unsupported argument text = unsupported

-- what an escape with a letter means, by its text from the letter on
abbrev pub letter_meaning : (pairs : Bool) → Letter → List ℕ → Meaning
letter_meaning pairs letter text = meaning_by letter.kind (argument_of pairs letter.shape text) text

-- the meaning of a text that is one escape; a backslash alone prints nothing
unfoldable pub meaning_of : (pairs : Bool) → List ℕ → Meaning
meaning_of pairs [] = nothing
meaning_of pairs (b ∷ []) = nothing
meaning_of pairs (b ∷ key ∷ written) = letter_meaning pairs (letter_of key) (key ∷ written)

-- ---- The escape at a text's front: roff(7), "Escape sequences", and mandoc_char(7).

-- what an escape means, and its bytes; one without its end takes the text's rest
abbrev pub read_escape : (pairs : Bool) → List ℕ → Option ℕ → Meaning × ℕ
read_escape pairs text None = (bad, length text)
read_escape pairs text (Some len) = (meaning_of pairs (take len text), len)

-- the meaning of the escape at a text's front, and how many bytes it takes; in a quoted argument of a macro a pair of quotes is one
-- character of it
unfoldable pub escape_of : (pairs : Bool) → List ℕ → Meaning × ℕ
escape_of pairs text = read_escape pairs text (escape_len pairs text)
