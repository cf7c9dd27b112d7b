-- Cutting a page into lines, from any point between two of its bytes on.
use Rattle.std.specs.Prelude.{if◌then◌else◌, ℕ, List, [], ◌∷◌, ◌++◌, ◌≡◌, Bool}
use Rattle.page_core_base.specs.declared.page_settings.Encoding.{Encoding}
use Rattle.page_core_base.specs.declared.page_settings.Encoding.TheVariants.{Utf8}
use Rattle.page_roff_decoding.specs.Decoding.{choice_of}
use Rattle.page_roff_lines.specs.Lines.{or_else, Line, decode_line, lines}
use Rattle.page_roff_lines.specs.machine.Open.{Open, first_open, is_marked, next_open, end_open, kept_of}

-- what is known of a page at a point between two of its bytes: its open line,
-- and its encoding where that is decided
pub record Point : Type 0 where
  pub line : Open
  pub encoding : Encoding

abbrev pub first_point : Encoding → Point
first_point set = record { line = first_open; encoding = set }

-- the encoding with a line that is whole
unfoldable pub encoding_after : Encoding → Open → Encoding
encoding_after e o = or_else e (if is_marked o.mark then Utf8 else choice_of o.text.bytes)

-- a line that is whole decides the encoding, where it has a byte above 0x7F
unfoldable pub point_at : Encoding → Open → Point
point_at e o = record { line = o; encoding = if o.whole then encoding_after e o else e }

-- after one byte more, and at the end of the page
unfoldable pub next_point : Point → ℕ → Point
next_point p b = point_at p.encoding (next_open p.line b)

unfoldable pub end_point : Point → Point
end_point p = point_at p.encoding (end_open p.line)

-- the line that is whole at a point
abbrev pub line_of : Point → Line
line_of p = decode_line p.encoding (kept_of p.line)

unfoldable pub line_at : Point → List Line
line_at p = if p.line.whole then line_of p ∷ [] else []

-- the lines that are whole within these bytes, and the point after them
unfoldable pub lines_within : Point → List ℕ → List Line
lines_within p [] = []
lines_within p (b ∷ bs) = line_at (next_point p b) ++ lines_within (next_point p b) bs

unfoldable pub point_after : Point → List ℕ → Point
point_after p [] = p
point_after p (b ∷ bs) = point_after (next_point p b) bs

-- the last line, if the page ends here
abbrev pub last_line : Point → List Line
last_line p = line_at (end_point p)

-- all lines that come from here on, if these are the bytes to the page's end
abbrev pub lines_from : Point → List ℕ → List Line
lines_from p bytes = lines_within p bytes ++ last_line (point_after p bytes)

-- these bytes of a page came so far
abbrev pub IsAfter : Point → Encoding → List ℕ → Type 0
IsAfter p set bytes = p ≡ point_after (first_point set) bytes

-- Bytes after those of a page that came before, up to a point, and the lines that they give: the point is that after all of them, and whatever follows,
-- the lines of the page are those of the bytes before, then these, then those that come from the point on.
pub record IsFed (p : Point) (set : Encoding) (before more : List ℕ) (given : List Line) : Type 0 where
  pub after : IsAfter p set (before ++ more)
  pub page : (rest : List ℕ) → lines set (before ++ (more ++ rest)) ≡ lines_within (first_point set) before ++ (given ++ lines_from p rest)

-- what is known of a cutter: the point in its page, whether a line waits to be asked for,
-- and the text of the line that was given last
pub record Cutting : Type 0 where
  pub point : Point
  pub ready : Bool
  pub text : List ℕ
