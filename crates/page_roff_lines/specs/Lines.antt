-- The lines of a page: physical lines, logical lines, decoded lines, and those that are whole. Source: roff(7), "Language syntax".
use Rattle.std.specs.List.{starts_with}
use Rattle.std.specs.Prelude.{ℕ, List, [], ◌∷◌, Bool, true, false, ◌==◌, if◌then◌else◌, ◌+◌, ◌++◌, nat_eq, drop, nat_lt, length, take, map, ◌||◌, ◌-◌}
use Rattle.std.specs.Str.Lines.{lines as physical_lines}
use Rattle.page_core_base.specs.Bytes.{ascii}
use Rattle.page_core_base.specs.Messages.{Message}
use Rattle.page_core_base.specs.declared.page_settings.Encoding.{Encoding}
use Rattle.page_core_base.specs.declared.page_settings.Encoding.TheVariants.{Auto, Utf8}
use Rattle.page_roff_decoding.specs.Decoding.{line_limit, Character, line_characters, characters, all_bytes, bad_notes, limit_notes, choice_of}

-- ---- How a physical line is read: a backslash and its next byte are a pair.
-- Source: roff(7), "Comments" and "Escape sequences".

-- a physical line as it is read: what is kept of it, and whether the next one is joined to it
pub record Physical : Type 0 where
  pub text : List ℕ
  pub joins : Bool

-- a byte in front
abbrev pub after_byte : ℕ → Physical → Physical
after_byte b r = record { text = b ∷ r.text; joins = r.joins }

-- a backslash with nothing after it joins, and is dropped; the pair `\"` ends the reading;
-- the pair `\#` and what follows it are dropped, and the next physical line is joined
unfoldable mutual
  pub read : List ℕ → Physical
  read [] = record { text = []; joins = false }
  read (b ∷ bs) = if b == ascii "\\" then read_pair bs else after_byte b (read bs)

  -- what follows a backslash
  pub read_pair : List ℕ → Physical
  read_pair [] = record { text = []; joins = true }
  read_pair (c ∷ bs) =
      if c == ascii "\"" then record { text = ascii "\\" ∷ c ∷ bs; joins = false }
      else (if c == ascii "#" then record { text = []; joins = true }
      else after_byte (ascii "\\") (after_byte c (read bs)))

-- ---- The logical lines of a page, of which each is one physical line or several that were joined.

-- a logical line, with the number of its first physical line
pub record Logical : Type 0 where
  pub number : ℕ
  pub text : List ℕ

-- a text in front of the line that is joined to it; at the end of the page it's a line all the same
unfoldable pub join_texts : ℕ → List ℕ → List Logical → List Logical
join_texts number text [] = record { number = number; text = text } ∷ []
join_texts number text (l ∷ ls) = record { number = number; text = text ++ l.text } ∷ ls

-- the logical lines of these physical lines, of which the first has this number
unfoldable pub logical_lines : ℕ → List (List ℕ) → List Logical
logical_lines number [] = []
logical_lines number (p ∷ ps) =
    if (read p).joins then join_texts number (read p).text (logical_lines (number + 1) ps)
    else record { number = number; text = (read p).text } ∷ logical_lines (number + 1) ps

-- whether the page begins with the byte order mark in UTF-8
abbrev pub has_mark : List ℕ → Bool
has_mark bytes = starts_with nat_eq bytes (0xEF ∷ 0xBB ∷ 0xBF ∷ [])

-- what is kept of a logical line, and whether that is less than all of it
pub record KeptLine : Type 0 where
  pub number : ℕ
  pub text : List ℕ
  pub cut : Bool

abbrev pub keep : Logical → KeptLine
keep l = record { number = l.number; text = take line_limit l.text; cut = nat_lt line_limit (length l.text) }

-- what is kept of each logical line of a page, which is read without its mark
abbrev pub kept_lines : List ℕ → List KeptLine
kept_lines bytes = map keep (logical_lines 1 (physical_lines (if has_mark bytes then drop 3 bytes else bytes)))

-- ---- The decoded lines of a page. Source: mandoc(1), -K.

-- a line as it is given: its text in UTF-8, the number of its first physical line,
-- and the messages of its cutting
pub record Line : Type 0 where
  pub number : ℕ
  pub text : List ℕ
  pub notes : List Message

-- the characters of a line that stay
abbrev pub kept_characters : Encoding → KeptLine → List Character
kept_characters e k = line_characters e k.text

-- it is cut where more came than stays, of its bytes or of its characters
unfoldable pub decode_line : Encoding → KeptLine → Line
decode_line e k = record {
  number = k.number;
  text = all_bytes (kept_characters e k);
  notes = limit_notes (k.cut || nat_lt (length (kept_characters e k)) (length (characters e k.text))) k.number ++ bad_notes k.number 1 (kept_characters e k);
}

-- the encoding that is known, or else this one
abbrev pub or_else : Encoding → Encoding → Encoding
or_else Auto e = e
or_else known e = known

-- what the first byte above 0x7F of these lines decides
abbrev pub choice_of_lines : List KeptLine → Encoding
choice_of_lines [] = Auto
choice_of_lines (k ∷ ks) = or_else (choice_of k.text) (choice_of_lines ks)

-- the lines of a page
abbrev pub lines : Encoding → List ℕ → List Line
lines set bytes = map (decode_line (or_else set (if (has_mark bytes) then Utf8 else choice_of_lines (kept_lines bytes)))) (kept_lines bytes)

-- ---- The lines of a page that are whole: what some of its bytes have given for good, whatever follows them.

abbrev pub letter : ℕ
letter = 97

-- the lines of bytes that are whole: with one letter more, all but the last line, which is the one that the letter is in
abbrev pub whole_lines : Encoding → List ℕ → List Line
whole_lines set bytes =
    let all = lines set (bytes ++ letter ∷ []) in take (length all - 1) all

-- the lines that bytes make whole after those before them
abbrev pub lines_made : Encoding → (before own : List ℕ) → List Line
lines_made set before own = drop (length (whole_lines set before)) (whole_lines set (before ++ own))

-- the line that is left where a page ends: with it, those that are whole are all lines of the page
abbrev pub line_left : Encoding → List ℕ → List Line
line_left set bytes = drop (length (whole_lines set bytes)) (lines set bytes)
