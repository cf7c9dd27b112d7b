-- A machine: the text of the section NAME, read piece by piece, as the code does it. That it is the text of the definition is what `NameTextLemmas.antt` proves,
-- and trust needs no reading of it. Source: man(7), SH; mdoc(7), Sh; mandoc(1), makewhatis.
use Rattle.std.specs.Prelude.{ℕ, Bool, true, false, ◌==◌, nat_lt, if◌then◌else◌, List, [], ◌∷◌, ◌++◌, length, take, codes, Option, Some, None, ◌&&◌, ◌≡◌, refl, ◌<◌, ◌≤◌, ◌+◌, ◌-◌, ◌^◌, Result, MatchResult}
use Rattle.std.specs.Str.{bytes_eq}
use Rattle.page_core_base.specs.Rows.{Item, shown, noted}
use Rattle.page_core_base.specs.Texts.{characters_of}
use Rattle.page_core_base.specs.declared.page_settings.Output.TheVariants.{Ascii}
use Rattle.page_core_base.specs.declared.pieces.Piece.{Piece}
use Rattle.page_core_base.specs.declared.pieces.Piece.TheVariants.{Text, Glyph, Char, Tab, Glue, Split, Para, Indent, Literal, Tag, Heading}
use Rattle.page_core_tables.specs.Glyphs.{char_printed, glyph_printed}
use Rattle.page_scopes_words.specs.Words.{plain_printed}
use Rattle.page_engine_records.specs.NameTexts.{TEXT}
use Rattle.page_engine_records.specs.declared.name_readers.NameReader.{NameReader}
use Rattle.page_engine_records.specs.declared.name_readers.Side.{Side}
use Rattle.page_engine_records.specs.declared.name_readers.Side.TheVariants.{Before, Inside, After}
use Rattle.page_core_base.specs.declared.page_settings.Settings.{Settings, Settings as PageSettings}
use Rattle.page_engine_lines.specs.laws.Views.{has_title, ending_items}
use Rattle.page_engine_index.specs.declared.records.Record.{Record}
use Rattle.page_engine_lines.specs.Acts.{lines_items, lines_after}
use Rattle.page_engine_lines.specs.Edges.{LinesEdge, start_of}
use Rattle.page_roff_lines.specs.Lines.{Line}
use Rattle.page_engine_records.specs.PageRecords.{raw}
use Rattle.page_engine_records.specs.Records.{record_by}
use Rattle.std.proofs.Common.{◌∙◌, sym, ap, arith}
use Rattle.page_core_base.specs.Messages.{Rose, Message}
use Rattle.page_core_base.specs.laws.Views.{all_noted, IsSink}
use Rattle.page_core_base.specs.declared.faults.Fault.{Fault}
use Rattle.std.specs.Io.KnownBytes.{IsAtEnd}
use Rattle.page_core_base.specs.declared.faults.Fault.TheVariants.{Read, TooLong}
use Rattle.page_core_streams.specs.Streams.{SourceState, HasGiven, IsLean, IsTooLong}
use Rattle.page_engine_lines.specs.machine.Lines.{end_items}
use Rattle.page_roff_lines.specs.laws.Cutting.{Point, first_point, last_line, lines_from, lines_within, point_after}
use Rattle.page_engine_records.specs.declared.fronts.PageFront.{PageFront}
use Rattle.page_engine_records.specs.declared.runs.RecordRoom.{RecordRoom}
use Rattle.page_engine_records.specs.declared.runs.RecordRun.{RecordRun}

-- ---- characters

-- a text with a byte more, where there is room for it
abbrev pub with_byte : List ℕ → ℕ → List ℕ
with_byte text byte = take TEXT (text ++ (byte ∷ []))

-- a blank that waits is before the next character, but at no text's front
abbrev pub spaced : (is_apart : Bool) → List ℕ → List ℕ
spaced is_apart [] = []
spaced true (byte ∷ bytes) = with_byte (byte ∷ bytes) 32
spaced false (byte ∷ bytes) = byte ∷ bytes

-- a character of ASCII
abbrev pub with_character : NameReader → ℕ → NameReader
with_character r c = if nat_lt c 128 then record r { text = with_byte (spaced r.is_apart r.text) c; is_apart = false } else r

unfoldable pub with_characters : NameReader → List ℕ → NameReader
with_characters r [] = r
with_characters r (c ∷ cs) = with_characters (with_character r c) cs

-- ---- what is no character

-- there is one blank before the next character
abbrev pub apart : NameReader → NameReader
apart r = record r { is_apart = true }

-- before the section NAME the text is that of the paragraph, which may be a heading; in the section a paragraph may be the next heading
abbrev pub with_paragraph : Side → NameReader → NameReader
with_paragraph Before r = record r { text = []; is_apart = false }
with_paragraph Inside r = record r { is_apart = true; before = length r.text }
with_paragraph After r = r

-- a heading at the page's left edge: the one word NAME begins the section, and any begins the next one, to which it belongs itself
abbrev pub with_top_heading : Side → NameReader → NameReader
with_top_heading Before r =
    if bytes_eq r.text (codes "NAME") then record r { side = Inside; text = []; is_apart = false; before = 0 } else r
with_top_heading Inside r = record r { side = After; text = take r.before r.text }
with_top_heading After r = r

-- any other heading is text
abbrev pub with_heading : NameReader → NameReader
with_heading r = if r.margin == 0 then with_top_heading r.side r else apart r

-- ---- pieces and messages

-- what a piece prints in ASCII is text, without its font; where it puts blanks or ends a row, there is one blank
abbrev pub taken : NameReader → Piece (List ℕ) → NameReader
taken r (Text bytes font place) = with_characters r (plain_printed Ascii (characters_of bytes))
taken r (Glyph name font place) = with_characters r (glyph_printed Ascii name).characters
taken r (Char c font place) = with_characters r (char_printed Ascii c).characters
taken r (Tab font place) = with_character r 32
taken r Glue = record r { is_apart = false }
taken r Split = r
taken r (Para count) = with_paragraph r.side r
taken r (Indent first rest) = record r { margin = first }
taken r (Literal is_literal) = r
taken r (Tag hang form) = r
taken r Heading = with_heading r
taken r _ = apart r

abbrev pub is_after : Side → Bool
is_after After = true
is_after _ = false

abbrev pub has_ended : NameReader → Bool
has_ended r = is_after r.side

-- after the section nothing is read any more
unfoldable pub read_piece : NameReader → Piece (List ℕ) → NameReader
read_piece r piece = if has_ended r then r else taken r piece

-- messages are no text
unfoldable pub read : NameReader → List Item → NameReader
read r [] = r
read r (noted message ∷ items) = read r items
read r (shown piece ∷ items) = read (read_piece r piece) items

-- ---- the start and the end

abbrev pub reader_at : Side → NameReader
reader_at side = record { side = side; margin = 0; text = []; is_apart = false; before = 0 }

-- before the section there is no text of it
abbrev pub kept_by : Side → List ℕ → Option (List ℕ)
kept_by Before text = None
kept_by _ text = Some text

abbrev pub kept_of : NameReader → Option (List ℕ)
kept_of r = kept_by r.side r.text

-- ---- A machine: the record of a page, read line by line up to the one at which it is settled, as the code takes it. That this is the record of the whole
-- page is what the contracts of a run say, and trust needs no reading of it. Source: mandoc(1), makewhatis.

-- what decides the record: where the page's lines are, with the fields of its title, and what was read of the section NAME
pub record Front : Type 0 where
  pub lines : LinesEdge
  pub name : NameReader

abbrev pub start : Settings → Front
start s = record { lines = start_of s; name = reader_at Before }

-- the record is settled: the section NAME has ended, and no line changes the title any more
abbrev pub is_settled : Front → Bool
is_settled f = has_ended f.name && has_title f.lines.body

-- one line's pieces are read; once the record is settled lines are nothing to it
abbrev pub after_line : Front → Line → Front
after_line f line =
    if is_settled f then f
    else record { lines = lines_after f.lines (raw line ∷ []); name = read f.name (lines_items f.lines (raw line ∷ [])) }

unfoldable pub after_lines : Front → List Line → Front
after_lines f [] = f
after_lines f (line ∷ lines) = after_lines (after_line f line) lines

-- at the page's end all scopes end, which may print text
abbrev pub ended : Front → NameReader
ended f = if is_settled f then f.name else read f.name (ending_items f.lines 1)

abbrev pub front_record : Front → Option Record
front_record f = record_by (kept_of (ended f)) f.lines.body.header.fields.section

-- ---- A reader of pieces is a sink of pieces, which never fails: a machine of proofs, of which trust needs no reading.

-- messages change nothing
abbrev pub Same : NameReader → List Message → NameReader → Type 0
Same s xs t = t ≡ s

abbrev pub Took : NameReader → List Item → NameReader → Type 0
Took s xs t = t ≡ read s xs

abbrev pub Never : NameReader → List Item → NameReader → Type 0
Never s xs t = ⊥

pub reader-notes : IsSink Same Same
reader-notes = record {
  none = λ s. refl;
  more = λ s t u xs ys g h. h ∙ g;
  after = λ s t u xs ys g h. h ∙ g;
  before = λ s t xs ys h. h;
}

-- one list of items after another
pub read-append : (r : NameReader) (xs ys : List Item) → read r (xs ++ ys) ≡ read (read r xs) ys
unfolding read
read-append r [] ys = refl
read-append r (noted m ∷ xs) ys = read-append r xs ys
read-append r (shown p ∷ xs) ys = read-append (read_piece r p) xs ys

read-none : (r : NameReader) → r ≡ read r []
unfolding read
read-none r = refl

pub reader-items : (fault : Fault) → IsSink Took (λ s xs t. Never s xs t)
reader-items fault = record {
  none = λ s. read-none s;
  more = λ s t u xs ys g h. h ∙ (ap (λ (r : NameReader). read r ys) g ∙ sym (read-append s xs ys));
  after = λ s t u xs ys g h. absurd h;
  before = λ s t xs ys h. absurd h;
}

-- messages as items
pub read_notes : (r : NameReader) (notes : List Message) → read r (all_noted notes) ≡ r
unfolding read
read_notes r [] = refl
read_notes r (m ∷ notes) = read_notes r notes

pub reader-messages : (s t : NameReader) (xs : List Message) → Same s xs t → Took s (all_noted xs) t
reader-messages s t xs same = same ∙ sym (read_notes s xs)

-- no count of failures rises
pub reader-well : Rose 0 0 → ⊥
reader-well rose = absurd (omega (arith, rose (omega arith)))

-- ---- The steps of a run, as the code takes them: a machine of proofs, which no public clause cites.

abbrev pub front_of : PageFront → Front
front_of page = record { lines = page.lines; name = page.name }

-- what is read at the page's end
abbrev pub end_read : Front → NameReader
end_read f = if is_settled f then f.name else read f.name (end_items f.lines 1)

-- until the record is settled, the cutter is at this point; nothing of a line is still to come
pub record IsAt (run : RecordRun) (p : Point) : Type 0 where
  pub point : is_settled (front_of run.page) ≡ false → run.cutter.point ≡ p
  pub idle : run.page.lines.roff.to_come ≡ None

-- there is room for more bytes
pub record HasRoom (run : RecordRun) (count : ℕ) : Type 0 where
  pub free : is_settled (front_of run.page) ≡ false → run.cutter.ready ≡ false
  pub bytes : is_settled (front_of run.page) ≡ false → run.cutter.point.line.consumed + count < 2 ^ 31
  pub lines : run.page.lines.roff.source + count < 2 ^ 31

-- these bytes were read
pub record Through (run run' : RecordRun) (bytes : List ℕ) : Type 0 where
  pub front : (p : Point) → IsAt run p → front_of run'.page ≡ after_lines (front_of run.page) (lines_within p bytes)
  pub at : (p : Point) → IsAt run p → IsAt run' (point_after p bytes)
  pub room : (count : ℕ) → HasRoom run (length bytes + count) → HasRoom run' count

-- a part of a chunk was taken, at least a byte
pub record TookPart (run run' : RecordRun) (chunk : List ℕ) (count : ℕ) : Type 0 where
  pub some : 0 < count
  pub most : count ≤ length chunk
  pub through : Through run run' (take count chunk)

-- the last line was read, where there was one
pub record TookLast (run run' : RecordRun) : Type 0 where
  pub front : (p : Point) → IsAt run p → front_of run'.page ≡ after_lines (front_of run.page) (last_line p)

-- the last line was read, and the page ended
pub record Finished (run run' : RecordRun) : Type 0 where
  pub name : (p : Point) → IsAt run p → run'.page.name ≡ ended (after_lines (front_of run.page) (last_line p))
  pub fields : (p : Point) → IsAt run p
      → run'.page.lines.body.header.fields ≡ (after_lines (front_of run.page) (last_line p)).lines.body.header.fields

-- before the first byte
pub record StartsAt (run : RecordRun) (s : PageSettings) : Type 0 where
  pub front : front_of run.page ≡ start s
  pub point : run.cutter.point ≡ first_point s.encoding
  pub free : run.cutter.ready ≡ false

-- with room for all bytes, and memory for the record that holds nothing
pub record IsFresh (run : RecordRun) : Type 0 where
  pub room : HasRoom run (2 ^ 31 - 1)
  pub idle : run.page.lines.roff.to_come ≡ None

-- room for a record that holds nothing
pub record HoldsNothing (room : RecordRoom) : Type 0 where
  pub section : room.section ≡ reader_at Inside
  pub names : room.names ≡ []

-- ---- all bytes of a source

-- what was read of the page of all bytes
pub record EndedWell (run run' : RecordRun) (a b : SourceState) (bytes : List ℕ) : Type 0 where
  pub name : (p : Point) → IsAt run p → run'.page.name ≡ ended (after_lines (front_of run.page) (lines_from p bytes))
  pub fields : (p : Point) → IsAt run p
      → run'.page.lines.body.header.fields ≡ (after_lines (front_of run.page) (lines_from p bytes)).lines.body.header.fields
  pub all : IsAtEnd b.remaining
  pub quiet : b.failed ≡ a.failed

abbrev pub StoppedBy : SourceState → SourceState → ℕ → List ℕ → Fault → Type 0
StoppedBy a b asked bytes Read = Rose a.failed b.failed
StoppedBy a b asked bytes TooLong = IsTooLong asked bytes × (b.failed ≡ a.failed)
StoppedBy a b asked bytes _ = ⊥

pub record ReadsAll (res : Result (Unit {0}) Fault) (run run' : RecordRun) (a b : SourceState) (bytes : List ℕ) : Type 0 where
  pub asked : ℕ
  pub few : asked ≤ 2 ^ 32 - 1
  pub source : HasGiven a b asked bytes
  pub lean : IsLean a b asked bytes
  pub ends : MatchResult res (λ _. EndedWell run run' a b bytes) (λ fault. StoppedBy a b asked bytes fault)
