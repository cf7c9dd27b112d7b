-- Escapes that are known by few bytes, as `\fB`. Source: roff(7), "Escape sequences".
use Rattle.std.specs.Prelude.{ℕ, ◌≡◌, ◌<◌, ◌≤◌, Bool, slice_index, List, length, ◌+◌, ◌==◌, nat_eq, not, ◌&&◌, [], ◌∷◌, take, drop, if◌then◌else◌, Option, Some, None, option_map, option_and_then, unwrap_or}
use Rattle.page_core_base.specs.Bytes.{ascii}
use Rattle.page_core_escapes.specs.Meanings.{escape_of, Face, Meaning, face, bare_name, face_of}
use Rattle.std.specs.List.{starts_with}
use Rattle.page_core_escapes.specs.declared.extents.Extent.{Extent}
use Rattle.page_core_escapes.specs.declared.extents.Extent.TheVariants.{Whole, QuotedFrom}
use Rattle.page_core_escapes.specs.declared.quoted.Step.{Step}
use Rattle.page_core_escapes.specs.declared.quoted.Step.TheVariants.{Passes, Opens, Closes}
use Rattle.page_core_escapes.specs.Lengths.{written_len, extent_of, name_len}

-- a few bytes at a text's front are an escape, whether a pair of quotes is one character or not
pub record ShortEscape (text : List ℕ) (meaning : Meaning) (len : ℕ) : Type 0 where
  pub not_empty : 0 < len
  pub within : len ≤ length text
  pub escape : (pairs : Bool) → escape_of pairs text ≡ (meaning, len)

-- they are one that asks for a font
pub record ShortFont (text : List ℕ) (font : Face) (len : ℕ) : Type 0 where
  pub backslash : slice_index text 0 ≡ ascii "\\"
  pub escape : ShortEscape text (face font) len

-- ---- Of the code's own steps, which no public clause cites: what is read next in a quoted argument, a byte, an escape, an argument inside it
-- or the delimiter at its end; and fonts that one letter names.

-- a byte begins neither an escape nor a delimiter, of which this is the first byte
abbrev pub is_inner : (delimiter byte : ℕ) → Bool
is_inner delimiter byte = not (byte == ascii "\\") && not (byte == delimiter)

module _ (pairs : Bool) where
  -- the first character of a text, as it is written
  abbrev pub first_character : List ℕ → List ℕ
  first_character text = take (unwrap_or (written_len pairs text) 0) text

  abbrev pub opening_of : List ℕ → ℕ → Option Step
  opening_of text from = option_map (λ mark. Opens from mark) (written_len pairs (drop from text))

  abbrev pub step_over : List ℕ → Extent → Option Step
  step_over text (Whole n) = Some (Passes n)
  step_over text (QuotedFrom n) = opening_of text n

  abbrev pub step_of : (delimiter : List ℕ) → List ℕ → Option Step
  step_of delimiter [] = None
  step_of delimiter (b ∷ bs) =
      if b == ascii "\\" then option_and_then (step_over (b ∷ bs)) (extent_of pairs (b ∷ bs))
      else (if starts_with nat_eq (b ∷ bs) delimiter then Some (Closes (length delimiter))
      else Some (Passes 1))

-- the step stays in a text of this many bytes
abbrev pub StepFits : ℕ → Step → Type 0
StepFits n (Passes k) = (0 < k) × (k ≤ n)
StepFits n (Opens k mark) = (2 ≤ k) × (0 < mark) × (k + mark ≤ n)
StepFits n (Closes k) = k ≤ n

-- a letter that names a font by itself
pub record FontLetter (letter : ℕ) (font : Face) : Type 0 where
  pub named : face_of (letter ∷ []) ≡ font
  pub bare : bare_name (letter ∷ []) ≡ letter ∷ []
  pub alone : (pairs : Bool) (rest : List ℕ) → name_len pairs (letter ∷ rest) ≡ Some 1
