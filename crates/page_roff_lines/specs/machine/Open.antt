-- Of the machine of `Open`: the first bytes of a text that grows and shrinks at its end.
use Rattle.std.specs.Prelude.{ℕ, ◌+◌, ◌-◌, List, [], ◌++◌, length, take, Bool, true, false, nat_lt, ◌==◌, ◌∷◌, if◌then◌else◌, ◌≡◌, ◌<◌, ◌≤◌, not, ◌&&◌, slice_index}
use Rattle.page_roff_decoding.specs.Decoding.{line_limit, is_printable}
use Rattle.page_core_base.specs.Bytes.{ascii}
use Rattle.page_roff_lines.specs.declared.Mode.{Mode}
use Rattle.page_roff_lines.specs.declared.Mode.TheVariants.{Plain, Backslash, Comment, Dropped}
use Rattle.page_roff_lines.specs.declared.Mark.{Mark}
use Rattle.page_roff_lines.specs.declared.Mark.TheVariants.{Unread, First, Second, Absent, Present}
use Rattle.page_roff_lines.specs.laws.Views.{newline, carriage_return}
use Rattle.page_roff_lines.specs.Lines.{KeptLine}
use Rattle.std.specs.List.{list_all}
use Rattle.memchr.specs.Find.{is_byte, is_byte2}
use Rattle.page_core_base.specs.laws.Views.{is_backslash, is_key, key_at}

-- the first `line_limit` bytes of a text, and how many it has
pub record Held : Type 0 where
  pub bytes : List ℕ
  pub total : ℕ

abbrev pub hold : List ℕ → Held
hold text = record { bytes = take line_limit text; total = length text }

abbrev pub nothing_held : Held
nothing_held = record { bytes = []; total = 0 }

-- with more bytes at the end
unfoldable pub extend : Held → List ℕ → Held
extend h more = record { bytes = take line_limit (h.bytes ++ more); total = h.total + length more }

-- without its last byte
unfoldable pub shorten : Held → Held
shorten h = record { bytes = take (h.total - 1) h.bytes; total = h.total - 1 }

-- ---- A machine: the open logical line of a page, as it is known after some of the page's bytes, and what the next byte
-- does to it. That it gives the logical lines of the page is the law `one_by_one_law`.

pub record Open : Type 0 where
  -- its bytes so far, with those at the end that the next byte may take away
  pub text : Held
  pub mode : Mode
  -- whether its last byte is a carriage return, which a line feed would take away
  pub after_return : Bool
  -- whether there is a line here, if the page ends
  pub begun : Bool
  -- whether the line is whole: the next byte begins another
  pub whole : Bool
  -- of its first physical line, and of the physical line that is read
  pub number : ℕ
  pub physical : ℕ
  -- how many bytes of the page came so far
  pub consumed : ℕ
  pub mark : Mark

abbrev pub first_open : Open
first_open = record {
  text = nothing_held;
  mode = Plain;
  after_return = false;
  begun = false;
  whole = false;
  number = 1;
  physical = 1;
  consumed = 0;
  mark = Unread;
}

-- the line after a whole one
unfoldable pub restart : Open → Open
restart o = if o.whole then record o { text = nothing_held; whole = false; number = o.physical } else o

-- a byte more, and how the next one is read
unfoldable pub put : Open → ℕ → Mode → Open
put o b m =
    record o { text = extend o.text (b ∷ []); mode = m; after_return = b == carriage_return; begun = true }

-- a byte that follows no backslash
unfoldable pub put_plain : Open → ℕ → Open
put_plain o b = put o b (if b == ascii "\\" then Backslash else Plain)

-- how the byte after these two is read: a carriage return may still turn out to belong to the line's end
unfoldable pub pair_mode : ℕ → Mode
pair_mode b = if b == ascii "\"" then Comment else (if b == carriage_return then Backslash else Plain)

-- the byte after a backslash
unfoldable pub put_pair : Open → ℕ → Open
put_pair o b = if b == ascii "#" then record o { text = shorten o.text; mode = Dropped } else put o b (pair_mode b)

-- a byte that is no line feed
unfoldable pub put_in : Mode → Bool → Open → ℕ → Open
put_in Plain r o b = put_plain o b
put_in Backslash true o b = put_plain o b
put_in Backslash false o b = put_pair o b
put_in Comment r o b = put o b Comment
put_in Dropped r o b = o

-- the line is whole
unfoldable pub close : Open → Open
close o = record o { mode = Plain; after_return = false; begun = false; whole = true }

unfoldable pub without_return : Open → Open
without_return o = if o.after_return then record o { text = shorten o.text; after_return = false } else o

-- a line feed, after the carriage return before it was taken away
unfoldable pub newline_in : Mode → Open → Open
newline_in Backslash o = record o { text = shorten o.text; mode = Plain }
newline_in Dropped o = record o { mode = Plain }
newline_in _ o = close o

unfoldable pub put_newline : Open → Open
put_newline o = record (newline_in o.mode (without_return o)) { physical = o.physical + 1 }

-- how much of the byte order mark the page's first bytes are
unfoldable pub mark_after : Mark → ℕ → Mark
mark_after Unread b = if b == 0xEF then First else Absent
mark_after First b = if b == 0xBB then Second else Absent
mark_after Second b = if b == 0xBF then Present else Absent
mark_after Absent b = Absent
mark_after Present b = Present

-- the byte ends a mark
unfoldable pub ends_mark : Mark → ℕ → Bool
ends_mark Second b = b == 0xBF
ends_mark _ b = false

-- the page begins with a mark
abbrev pub is_marked : Mark → Bool
is_marked Present = true
is_marked _ = false

-- one byte more of the page
unfoldable pub count_byte : Open → ℕ → Open
count_byte o b = record o { consumed = o.consumed + 1; mark = mark_after o.mark b }

-- the byte order mark is dropped, where the byte ends it
unfoldable pub put_byte : Bool → Open → ℕ → Open
put_byte true o b = record o { text = nothing_held; begun = false }
put_byte false o b = if b == newline then put_newline o else put_in o.mode o.after_return o b

-- after one byte more
unfoldable pub next_open : Open → ℕ → Open
next_open o b = put_byte (ends_mark o.mark b) (count_byte (restart o) b) b

-- a backslash that nothing follows is dropped
unfoldable pub end_in : Mode → Bool → Open → Open
end_in Backslash false o = record o { text = shorten o.text }
end_in Backslash true o = o
end_in Plain r o = o
end_in Comment r o = o
end_in Dropped r o = o

-- at the end of the page
unfoldable pub end_open : Open → Open
end_open o = let r = restart o in if r.begun then close (end_in r.mode r.after_return r) else r

-- what a line keeps
abbrev pub kept_of : Open → KeptLine
kept_of o = record { number = o.number; text = o.text.bytes; cut = nat_lt line_limit o.text.total }

-- the line, where it is whole
unfoldable pub if_whole : Open → List KeptLine
if_whole o = if o.whole then kept_of o ∷ [] else []

-- the lines that are whole within these bytes, and the line that is open after them
unfoldable pub whole_lines : Open → List ℕ → List KeptLine
whole_lines o [] = []
whole_lines o (b ∷ bs) = if_whole (next_open o b) ++ whole_lines (next_open o b) bs

unfoldable pub open_after : Open → List ℕ → Open
open_after o [] = o
open_after o (b ∷ bs) = open_after (next_open o b) bs

-- the line that is there if the page ends
abbrev pub last_line : Open → List KeptLine
last_line o = if_whole (end_open o)

-- all lines that come from here on, if these are the bytes to the page's end
abbrev pub lines_from : Open → List ℕ → List KeptLine
lines_from o bytes = whole_lines o bytes ++ last_line (open_after o bytes)

-- ---- A fast way of the code, which no public clause cites: a run of bytes that are read alike. Trust needs no reading of it.

-- the byte ends a run
abbrev pub ends_run : Mode → ℕ → Bool
ends_run Plain b = is_byte2 newline (ascii "\\") b
ends_run Backslash b = true
ends_run _ b = is_byte newline b

-- the page's first bytes, which may be a mark, are in no run
abbrev pub is_settled : Mark → Bool
is_settled Absent = true
is_settled Present = true
is_settled _ = false

-- the byte after a backslash stays with it, and begins no comment
abbrev pub stays : ℕ → Bool
stays b = is_printable b && (not (b == ascii "\"") && not (b == ascii "#"))

-- some bytes begin with a backslash and a byte that stays with it
pub record BeginsPair (bytes : List ℕ) : Type 0 where
  pub long : 2 ≤ length bytes
  pub escapes : slice_index bytes 0 ≡ ascii "\\"
  pub stays : stays (slice_index bytes 1) ≡ true

-- the byte after a backslash begins no comment, no end of a block and no interpolation with it, and is no backslash
abbrev pub is_quiet : ℕ → Bool
is_quiet b = not (is_key b) && not (is_backslash b)

-- no comment, no end of a block and no interpolation begins before a place of some bytes
abbrev pub IsFreeTo : ℕ → List ℕ → Type 0
IsFreeTo n bytes = (k : ℕ) → k < n → key_at bytes k ≡ false

-- text and pairs are read here as they are
pub record ReadsText (o : Open) : Type 0 where
  pub settled : is_settled o.mark ≡ true
  pub plain : o.mode ≡ Plain

-- the line with a run more at its end
abbrev pub put_run : Open → List ℕ → Open
put_run o run = record o {
  text = extend o.text run;
  after_return = slice_index run (length run - 1) == carriage_return;
  begun = true;
}

unfoldable pub run_in : Mode → Open → List ℕ → Open
run_in Backslash o run = o
run_in Dropped o run = o
run_in _ o run = put_run o run

abbrev pub with_run : Open → List ℕ → Open
with_run o run = record (run_in o.mode o run) { consumed = o.consumed + length run }

-- read at once, the bytes do to the open line what they do one by one, and end no line
pub record IsRead (o : Open) (bytes : List ℕ) : Type 0 where
  pub after : 0 < length bytes → open_after o bytes ≡ with_run (restart o) bytes
  pub none : whole_lines o bytes ≡ []

-- wherever text is read, the bytes may be read at once
abbrev pub IsText : List ℕ → Type 0
IsText bytes = (o : Open) → ReadsText o → IsRead o bytes

-- and each of them is printable
pub record IsFine (bytes : List ℕ) : Type 0 where
  pub text : IsText bytes
  pub printable : list_all is_printable bytes ≡ true
