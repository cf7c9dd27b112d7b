-- The width and the indent that a command line asks for. Source: mandoc(1), -O.
use Rattle.std.specs.Prelude.{ℕ, Bool, ◌==◌, ◌&&◌, if◌then◌else◌, nat_lt, nat_le, List, [], ◌∷◌, length, Option, Some, None, option_and_then, codes}
use Rattle.std.specs.List.{list_all, position_or_len, before_first, after_first, slice_split}
use Rattle.std.specs.Char.{is_ascii_digit}
use Rattle.std.specs.Str.{bytes_eq}
use Rattle.std.specs.Str.Parse.{digits_value}
use Rattle.mandoc_command.specs.Names.{Text}
use Rattle.mandoc_command.specs.declared.measures.Measures.{Measures}

infixl 10 ◌>>=◌
abbrev pub ◌>>=◌ : {A B : Type 0} → Option A → (A → Option B) → Option B
o >>= f = option_and_then f o

abbrev pub is_comma : ℕ → Bool
is_comma byte = byte == 44

abbrev pub is_equals : ℕ → Bool
is_equals byte = byte == 61

-- neither is asked for
abbrev pub no_measures : Measures
no_measures = record { width = None; indent = None }

-- the number that 1 to 9 decimal digits write
unfoldable pub number_of : Text → Option ℕ
number_of digits =
    if nat_lt 0 (length digits) && (nat_le (length digits) 9 && list_all is_ascii_digit digits)
    then Some (digits_value 10 digits) else None

-- a measure that isn't set yet is set
abbrev pub once : Option ℕ → ℕ → Option (Option ℕ)
once None number = Some (Some number)
once (Some before) number = None

abbrev pub with_width : Measures → ℕ → Option Measures
with_width measures number = do
  width ← once measures.width number
  Some (record measures { width = width })

abbrev pub with_indent : Measures → ℕ → Option Measures
with_indent measures number = do
  indent ← once measures.indent number
  Some (record measures { indent = indent })

abbrev pub set_by : Text → Measures → ℕ → Option Measures
set_by key measures number = if bytes_eq key (codes "width") then with_width measures number
    else (if bytes_eq key (codes "indent") then with_indent measures number else None)

-- a key and its number
unfoldable pub with_key : Measures → Text → Text → Option Measures
with_key measures key digits = do
  number ← number_of digits
  set_by key measures number

-- a part `KEY=NUMBER`; one without the sign is refused
unfoldable pub with_part : Measures → Text → Option Measures
with_part measures part =
    if nat_lt (position_or_len is_equals part) (length part)
    then with_key measures (before_first is_equals part) (after_first is_equals part) else None

abbrev pub with_parts : Measures → List Text → Option Measures
with_parts measures [] = Some measures
with_parts measures (part ∷ parts) = do
  next ← with_part measures part
  with_parts next parts

-- the parts between commas, in any order; a key is there at most once
unfoldable pub measures_of : Text → Option Measures
measures_of text = with_parts no_measures (slice_split is_comma text)
