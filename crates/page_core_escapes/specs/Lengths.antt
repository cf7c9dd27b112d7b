-- Where an escape ends. Source: roff(7), "Escape sequences".
use Rattle.std.specs.List.{starts_with}
use Rattle.std.specs.Prelude.{ℕ, Bool, ◌==◌, List, ◌&&◌, nat_le, [], ◌∷◌, codes, find, option_map, unwrap_or, ◌+◌, length, if◌then◌else◌, Option, Some, None, position, ◌||◌, true, false, drop, nat_eq, option_and_then, zero, suc, take}
use Rattle.std.specs.Str.{continuation_len}
use Rattle.std.specs.Int.{is_in_range}
use Rattle.page_core_base.specs.Bytes.{ascii, is_among, is_digit, is_sign}
use Rattle.page_core_escapes.specs.declared.extents.Extent.{Extent}
use Rattle.page_core_escapes.specs.declared.extents.Extent.TheVariants.{Whole, QuotedFrom}
use Rattle.page_core_escapes.specs.declared.letters.LetterKind.{LetterKind}
use Rattle.page_core_escapes.specs.declared.letters.LetterKind.TheVariants as means
use Rattle.page_core_escapes.specs.declared.letters.Letter.{Letter}
use Rattle.page_core_escapes.specs.declared.letters.Shape.{Shape}
use Rattle.page_core_escapes.specs.declared.letters.Shape.TheVariants as follows
use Rattle.page_core_escapes.specs.declared.letters.Shape.TheVariants.{Alone, Glyph, Name, Size, Quoted}

-- ---- The escapes by the character after the backslash, their letter: what follows it, and what the escape means. Source: roff(7), "Escape
-- sequences"; mandoc_char(7).

-- letters whose escapes are alike
pub record EscapeRow : Type 0 where
  pub keys : List ℕ
  pub letter : Letter

abbrev pub row : List ℕ → Shape → LetterKind → EscapeRow
row keys shape kind = record { keys = keys; letter = record { shape = shape; kind = kind } }

abbrev pub table : List EscapeRow
table =
    row (codes "(") follows.Glyph means.Glyph ∷
    row (codes "[") follows.Glyph means.CodePoint ∷
    row (codes "C") follows.Quoted means.Glyph ∷
    row (codes "e\\") follows.Alone (means.Char (ascii "\\")) ∷
    row (codes "-") follows.Alone (means.Char (ascii "-")) ∷
    -- an acute accent
    row (codes "'") follows.Alone (means.Char 0xB4) ∷
    row (codes "`") follows.Alone (means.Char (ascii "`")) ∷
    row (codes ".") follows.Alone (means.Char (ascii ".")) ∷
    row (codes "t") follows.Alone means.Tab ∷
    row (codes " ~0") follows.Alone means.Blank ∷
    row (codes "h") follows.Quoted means.Blanks ∷
    row (codes "c") follows.Alone means.Glue ∷
    row (codes "f") follows.Name means.Font ∷
    row (codes "&)|^%/,:aurdz{") follows.Alone means.Nothing ∷
    row (codes "mMkF") follows.Name means.Nothing ∷
    row (codes "vx") follows.Quoted means.Nothing ∷
    row (codes "s") follows.Size means.Size ∷
    row (codes "p") follows.Alone means.Unsupported ∷
    row (codes "gVY") follows.Name means.Unsupported ∷
    row (codes "bolLDNXABHSRZ") follows.Quoted means.Unsupported ∷
    []

-- another character: there is no such escape
abbrev pub another : Letter
another = record { shape = follows.Alone; kind = means.Undefined }

unfoldable pub letter_of : ℕ → Letter
letter_of key = unwrap_or (option_map (λ row. row.letter) (find (λ row. is_among key row.keys) table)) another

-- ---- What is read before an escape's quoted argument, or the whole escape where it has none: roff(7), "Escape sequences". None where
-- the text ends before. Where one byte is read as a name or a delimiter, a character past ASCII is read whole.

-- the bytes of a text's first character, of which the first says how many there are
abbrev pub character_len : List ℕ → Option ℕ
character_len [] = None
character_len (b ∷ bs) = if nat_le (continuation_len b) (length bs) then Some (continuation_len b + 1) else None

-- in a quoted argument of a macro a pair of quotes is one quote
abbrev pub pair : List ℕ
pair = codes "\"\""

-- the bytes up to and with the first bracket that closes
abbrev pub bracketed_len : List ℕ → Option ℕ
bracketed_len text = option_map (λ k. k + 1) (position (λ b. b == ascii "]") text)

-- ---- sizes: in parentheses, brackets or quotes, or of digits, perhaps with a sign before

abbrev pub sign_len : List ℕ → ℕ
sign_len [] = 0
sign_len (b ∷ bs) = if is_sign b then 1 else 0

abbrev pub after_sign : List ℕ → List ℕ
after_sign [] = []
after_sign (b ∷ bs) = if is_sign b then bs else b ∷ bs

-- a size begins here; where the text ends it may be one that has no end
abbrev pub begins_size : List ℕ → Bool
begins_size [] = true
begins_size (b ∷ bs) = is_among b (codes "(['") || is_digit b

-- two digits where the first is 1 to 3
abbrev pub has_two_digits : List ℕ → Bool
has_two_digits (b ∷ d ∷ ds) = is_in_range (ascii "1") (ascii "3") b && is_digit d
has_two_digits _ = false

-- ---- shapes

-- `s` without a size is another character
abbrev pub shape_before : (rest : List ℕ) → Shape → Shape
shape_before rest Size = if begins_size (after_sign rest) then Size else Alone
shape_before rest shape = shape

-- the shape of an escape with this letter and what follows it
abbrev pub shape_of : ℕ → List ℕ → Shape
shape_of key rest = shape_before rest (letter_of key).shape

-- ---- escapes of a text in which a pair of quotes is one character, or is not

module _ (pairs : Bool) where
  -- the bytes of a text's first character, as it is written
  abbrev pub written_len : List ℕ → Option ℕ
  written_len text = if pairs && starts_with nat_eq text pair then Some 2 else character_len text

  abbrev pub two_characters_len : List ℕ → Option ℕ
  two_characters_len text = option_and_then (λ first. option_map (λ second. first + second) (written_len (drop first text))) (written_len text)

  -- a name as it is written: `x`, `(xx` or `[name]`
  abbrev pub name_len : List ℕ → Option ℕ
  name_len [] = None
  name_len (b ∷ bs) =
      if b == ascii "(" then option_map (λ k. k + 1) (two_characters_len bs)
      else (if b == ascii "[" then option_map (λ k. k + 1) (bracketed_len bs)
      else written_len (b ∷ bs))

  -- a size that isn't quoted: two characters in parentheses, brackets, two digits or one
  abbrev pub number_len : List ℕ → Option ℕ
  number_len [] = None
  number_len (b ∷ bs) =
      if is_among b (codes "([") then name_len (b ∷ bs)
      else (if has_two_digits (b ∷ bs) then Some 2 else Some 1)

  -- an escape with a size that begins after `before` bytes of it
  abbrev pub number_extent : (before : ℕ) → List ℕ → Option Extent
  number_extent before [] = None
  number_extent before (b ∷ bs) = if b == ascii "'" then Some (QuotedFrom before) else option_map (λ k. Whole (before + k)) (number_len (b ∷ bs))

  -- an escape of a shape, by its letter and what follows it
  abbrev pub extent_by : Shape → ℕ → List ℕ → Option Extent
  extent_by Alone key rest = option_map (λ k. Whole (k + 1)) (written_len (key ∷ rest))
  extent_by Glyph key rest = option_map (λ k. Whole (k + 1)) (name_len (key ∷ rest))
  extent_by Name key rest = option_map (λ k. Whole (k + 2)) (name_len rest)
  extent_by Size key rest = number_extent (2 + sign_len rest) (after_sign rest)
  extent_by Quoted key rest = Some (QuotedFrom 2)

  -- an escape, from its backslash on; a backslash at the text's end is one
  abbrev pub extent_of : List ℕ → Option Extent
  extent_of [] = None
  extent_of (b ∷ []) = Some (Whole 1)
  extent_of (b ∷ key ∷ rest) = extent_by (shape_of key rest) key rest

-- ---- How many bytes an escape takes: roff(7), "Escape sequences". None where the text ends before the escape does.

-- in a text in which a pair of quotes is one character, or is not
module _ (pairs : Bool) where
  -- A quoted argument with its delimiters: it begins with any character and ends at its next occurrence outside escapes. `content_len`
  -- says how many bytes of a text are before a delimiter.
  unfoldable pub quoted_len : (content_len : List ℕ → List ℕ → Option ℕ) → List ℕ → Option ℕ
  quoted_len content_len text =
      option_and_then (λ mark. option_map (λ k. mark + (k + mark)) (content_len (take mark text) (drop mark text))) (written_len pairs text)

  unfoldable pub extent_len : (content_len : List ℕ → List ℕ → Option ℕ) → List ℕ → Extent → Option ℕ
  extent_len content_len text (Whole n) = Some n
  extent_len content_len text (QuotedFrom n) = option_map (λ k. n + k) (quoted_len content_len (drop n text))

  unfoldable pub escape_len_by : (content_len : List ℕ → List ℕ → Option ℕ) → List ℕ → Option ℕ
  escape_len_by content_len text = option_and_then (extent_len content_len text) (extent_of pairs text)

  -- The bytes before the delimiter's next occurrence outside escapes. A backslash begins an escape wherever it comes, so that an argument
  -- with a backslash as its delimiter never ends. `steps` is above the number of bytes.
  unfoldable pub content_len_within : (steps : ℕ) → (delimiter : List ℕ) → List ℕ → Option ℕ
  content_len_within zero delimiter text = None
  content_len_within (suc steps) delimiter [] = None
  content_len_within (suc steps) delimiter (b ∷ bs) =
      if b == ascii "\\" then option_and_then (λ n. option_map (λ k. n + k) (content_len_within steps delimiter (drop n (b ∷ bs)))) (escape_len_by (content_len_within steps) (b ∷ bs))
      else (if starts_with nat_eq (b ∷ bs) delimiter then Some 0
      else option_map (λ k. 1 + k) (content_len_within steps delimiter bs))

  unfoldable pub content_len : (delimiter : List ℕ) → List ℕ → Option ℕ
  content_len delimiter text = content_len_within (suc (length text)) delimiter text

  -- the bytes of the escape at a text's front
  unfoldable pub escape_len : List ℕ → Option ℕ
  escape_len text = escape_len_by content_len text
