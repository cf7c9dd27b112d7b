-- The text of a line, and a finished line as a set of macros reads it. Source: roff(7), "Language syntax".
use Rattle.std.specs.Prelude.{ℕ, Bool, not, ◌&&◌, ◌||◌, ◌==◌, nat_lt, true, List, [], ◌∷◌, ◌≤◌, ◌≡◌, length, IsUtf8, if◌then◌else◌}
use Rattle.std.specs.Str.{chars, is_utf8}
use Rattle.page_core_base.specs.Bytes.{ascii}
use Rattle.page_core_base.specs.Limits.{LINE}
use Rattle.page_core_base.specs.declared.lines_taken.Form.{Form}

-- ---- The text of a line. Source: mandoc(1), -K; roff(7), "LANGUAGE SYNTAX".

-- a byte after another belongs to no control character but the tab; of those above ASCII the first byte is 0xC2 and the second below 0xA0
abbrev pub is_no_control : ℕ → ℕ → Bool
is_no_control before byte =
    byte == ascii "\t" || (not (nat_lt byte (ascii " ")) && not (byte == 0x7F) && not (before == 0xC2 && nat_lt byte 0xA0))

abbrev pub has_no_control : ℕ → List ℕ → Bool
has_no_control before [] = true
has_no_control before (byte ∷ bytes) = is_no_control before byte && has_no_control byte bytes

-- UTF-8 of at most LINE bytes without a control character but the tab
pub record IsLine (text : List ℕ) : Type 0 where
  pub utf8 : IsUtf8 text
  pub bounded : length text ≤ LINE
  pub plain : has_no_control 0 text ≡ true

-- the characters of a text; bytes that are not UTF-8 have none
unfoldable pub characters_of : List ℕ → List ℕ
characters_of bytes = if is_utf8 bytes then chars bytes else []

-- what a quoted argument says: a pair of quotes is one quote
abbrev pub unpaired : List ℕ → List ℕ
unpaired [] = []
unpaired (byte ∷ []) = byte ∷ []
unpaired (byte ∷ next ∷ bytes) = if byte == ascii "\"" && next == ascii "\"" then ascii "\"" ∷ unpaired bytes else byte ∷ unpaired (next ∷ bytes)

-- ---- A finished line, as a set of macros reads it. Source: roff(7), "LANGUAGE SYNTAX".

-- its form, its text, the number of its source line, and the bytes up to the end of its raw name
pub record TakenLine : Type 0 where
  pub form : Form
  pub text : List ℕ
  pub number : ℕ
  pub name_end : ℕ
