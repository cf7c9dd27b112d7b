-- The steps of a run, as the code takes them: a machine of proofs, which no public clause cites.
use Rattle.std.specs.Prelude.{◌≡◌, ◌<◌, ◌≤◌, ℕ, ◌+◌, List, [], ◌∷◌, ◌++◌, Bool, ◌||◌, if◌then◌else◌, Option, None, Some, option_map, Result, MatchResult, length, take}
use Rattle.std.specs.Borrow.{Bor}
use Rattle.page_core_base.specs.Messages.{Rose}
use Rattle.page_core_base.specs.declared.faults.Fault.{Fault}
use Rattle.page_core_base.specs.declared.faults.Fault.TheVariants.{WriteText, BadIndex}
use Rattle.page_core_base.specs.Limits.{LINE}
use Rattle.page_engine_index.specs.Entries.{Line, Entry, entry_in, Index, with_entries, bad_at, whole_lines, index_from, index}
use Rattle.page_engine_index.specs.Matches.{ends_name}
use Rattle.page_engine_index.specs.Whatis.{Asked, rows}
use Rattle.page_engine_index.specs.Searches.{RowsTo}
use Rattle.page_engine_index.specs.Written.{is_hidden, is_lead}
use Rattle.page_engine_index.specs.declared.entries.Place.{Place}
use Rattle.page_engine_index.specs.declared.entries.Version.{Version}
use Rattle.page_engine_index.specs.declared.entries.Fields.{Fields}
use Rattle.page_engine_index.specs.declared.searches.Search.{Search}

-- of bytes and of those after their first, what is after the last line feed, by the lines that end in the bytes
abbrev pub after_lines : List Line → List ℕ → List ℕ → List ℕ
after_lines [] bytes rest = bytes
after_lines (line ∷ lines) bytes rest = rest

-- what is after the last line feed
unfoldable pub open_line : List ℕ → List ℕ
open_line [] = []
open_line (byte ∷ bytes) = after_lines (whole_lines (byte ∷ bytes)) (byte ∷ bytes) (open_line bytes)

-- the entry of fields
abbrev pub entry_by : Fields → Entry
entry_by f = record { names = f.names.now; section = f.section.now; description = f.description.now; file = f.file.now }

abbrev pub entries_by : Option Fields → List Entry
entries_by None = []
entries_by (Some fields) = entry_by fields ∷ []

-- there are two parts at least
abbrev pub IsParted : List (List ℕ) → Type 0
IsParted parts = (first : List ℕ) × (second : List ℕ) × (rest : List (List ℕ)) × (parts ≡ first ∷ second ∷ rest)

-- the texts of two fields
abbrev pub both_texts : Bor (List ℕ) × Bor (List ℕ) → List ℕ × List ℕ
both_texts fields = (fields.0.now, fields.1.now)

-- after names and a section, these parts are a description and a file, or make no entry
abbrev pub entry_of_last : List ℕ → List ℕ → Option (List ℕ × List ℕ) → Option Entry
entry_of_last names section last =
    option_map (λ fields. record { names = names; section = section; description = fields.0; file = fields.1 }) last

abbrev pub AreLast : Version → List (List ℕ) → Option (List ℕ × List ℕ) → Type 0
AreLast version parts last =
    (names : List ℕ) → (section : List ℕ) → entry_in version (names ∷ section ∷ parts) ≡ entry_of_last names section last

-- what the lines from a place on hold
abbrev pub index_at : Place → List Line → Index
index_at place lines = index_from place.version (place.lines + 1) lines

-- a line is this entry, or is none, as the first one
abbrev pub IsNext : Place → Place → Line → List Entry → Type 0
IsNext place place' line entries = (later : List Line) → index_at place (line ∷ later) ≡ with_entries entries (index_at place' later)

-- a line is bad
abbrev pub IsBad : Place → Line → Fault → Type 0
IsBad place line fault = (fault ≡ BadIndex (place.lines + 1))
    × ((later : List Line) → index_at place (line ∷ later) ≡ bad_at (place.lines + 1))

-- a line came, or a front of it, where the sink failed
abbrev pub GivesRows : {L : Type 0} → RowsTo L → L → L → List (List ℕ) → Type 0
GivesRows k s t lines = k.to.gave s lines t × (k.failed t ≡ k.failed s)

abbrev pub BreaksIn : {L : Type 0} → RowsTo L → L → L → List (List ℕ) → Fault → Type 0
BreaksIn k s t lines fault = (fault ≡ WriteText) × k.to.within s lines t × Rose (k.failed s) (k.failed t)

-- the row of an entry came, if it has one, and this is their number
abbrev pub GivesRow : {L : Type 0} → Result ℕ Fault → RowsTo L → L → L → List (List ℕ) → Type 0
GivesRow res k s t row =
    MatchResult res (λ count. GivesRows k s t row × (count ≡ length row) × (count ≤ 1)) (λ fault. BreaksIn k s t row fault)

-- these bytes were read: the rows of their whole lines came, and the line that is open is held
pub record Here {L : Type 0} (k : RowsTo L) (q : Asked) (s t : L) (run : Search) (bytes : List ℕ) : Type 0 where
  pub came : List Entry
  pub gave : k.to.gave s (rows q came) t
  pub quiet : k.failed t ≡ k.failed s
  pub holds : run.held ≡ open_line bytes
  pub reads : (later : List Line) → index_from None 1 (whole_lines bytes ++ later) ≡ with_entries came (index_at run.place later)
  pub lines : run.place.lines ≡ length (whole_lines bytes)
  pub count : run.rows ≡ length (rows q came)
  pub few : run.rows ≤ run.place.lines

-- the run stopped in these bytes, whatever follows them
pub record BrokeWriting {L : Type 0} (k : RowsTo L) (q : Asked) (s t : L) (bytes : List ℕ) : Type 0 where
  pub came : List Entry
  pub gave : k.to.within s (rows q came) t
  pub cause : Rose (k.failed s) (k.failed t)
  pub front : (more : List ℕ) → (later : List Entry) × ((index (bytes ++ more)).entries ≡ came ++ later)

pub record CameToBad {L : Type 0} (k : RowsTo L) (q : Asked) (s t : L) (bytes : List ℕ) (number : ℕ) : Type 0 where
  pub came : List Entry
  pub gave : k.to.gave s (rows q came) t
  pub quiet : k.failed t ≡ k.failed s
  pub bad : (more : List ℕ) → index (bytes ++ more) ≡ with_entries came (bad_at number)

abbrev pub StoppedIn : {L : Type 0} → RowsTo L → Asked → L → L → List ℕ → Fault → Type 0
StoppedIn k q s t bytes WriteText = BrokeWriting k q s t bytes
StoppedIn k q s t bytes (BadIndex number) = CameToBad k q s t bytes number
StoppedIn k q s t bytes _ = ⊥

-- ---- a line

-- the line that is open was taken: its row came, if it has one
pub record TookLine {L : Type 0} (k : RowsTo L) (q : Asked) (run run' : Search) (s t : L) : Type 0 where
  pub entries : List Entry
  pub next : IsNext run.place run'.place run.held entries
  pub gave : GivesRows k s t (rows q entries)
  pub count : run'.rows ≡ run.rows + length (rows q entries)
  pub few : length (rows q entries) ≤ 1
  pub lines : run'.place.lines ≡ run.place.lines + 1
  pub empty : run'.held ≡ []

pub record LineBroke {L : Type 0} (k : RowsTo L) (q : Asked) (run : Search) (s t : L) : Type 0 where
  pub entries : List Entry
  pub after : Place
  pub next : IsNext run.place after run.held entries
  pub breaks : k.to.within s (rows q entries) t
  pub cause : Rose (k.failed s) (k.failed t)

abbrev pub LineStops : {L : Type 0} → RowsTo L → Asked → Search → L → L → Fault → Type 0
LineStops k q run s t WriteText = LineBroke k q run s t
LineStops k q run s t (BadIndex number) = IsBad run.place run.held (BadIndex number) × (t ≡ s)
LineStops k q run s t _ = ⊥

abbrev pub TakesLine : {L : Type 0} → Result (Unit {0}) Fault → RowsTo L → Asked → Search → Search → L → L → Type 0
TakesLine res k q run run' s t =
    MatchResult res (λ _. TookLine k q run run' s t) (λ fault. LineStops k q run s t fault)

-- ---- bytes

-- bytes without a line feed were taken, or their line has too many
abbrev pub TakesOpen : Result ℕ Fault → Search → Search → List ℕ → Type 0
TakesOpen res run run' chunk = MatchResult res
    (λ count. (count ≡ length chunk) × (run' ≡ record run { held = run.held ++ chunk }))
    (λ fault. (fault ≡ BadIndex (run.place.lines + 1)) × (LINE < length (run.held ++ chunk)))

-- a part of a chunk was taken, at least a byte
pub record TookPart {L : Type 0} (k : RowsTo L) (q : Asked) (run run' : Search) (s t : L) (chunk : List ℕ) (count : ℕ) : Type 0 where
  pub some : 0 < count
  pub most : count ≤ length chunk
  pub lines : run'.place.lines ≤ run.place.lines + count
  pub few : run'.rows ≤ run'.place.lines
  pub here : (first : L) (bytes : List ℕ) → Here k q first s run bytes → Here k q first t run' (bytes ++ take count chunk)

abbrev pub TakesPart : {L : Type 0} → Result ℕ Fault → RowsTo L → Asked → Search → Search → L → L → List ℕ → Type 0
TakesPart {L = L} res k q run run' s t chunk = MatchResult res
    (λ count. TookPart k q run run' s t chunk count)
    (λ fault. (first : L) (bytes : List ℕ) → Here k q first s run bytes → StoppedIn k q first t (bytes ++ chunk) fault)

-- a chunk was taken
pub record TookChunk {L : Type 0} (k : RowsTo L) (q : Asked) (run run' : Search) (s t : L) (chunk : List ℕ) : Type 0 where
  pub lines : run'.place.lines ≤ run.place.lines + length chunk
  pub few : run'.rows ≤ run'.place.lines
  pub here : (first : L) (bytes : List ℕ) → Here k q first s run bytes → Here k q first t run' (bytes ++ chunk)

abbrev pub TakesChunk : {L : Type 0} → Result (Unit {0}) Fault → RowsTo L → Asked → Search → Search → L → L → List ℕ → Type 0
TakesChunk {L = L} res k q run run' s t chunk = MatchResult res
    (λ _. TookChunk k q run run' s t chunk)
    (λ fault. (first : L) (bytes : List ℕ) → Here k q first s run bytes → StoppedIn k q first t (bytes ++ chunk) fault)

-- the bytes of the first of the names
unfoldable pub name_len : List ℕ → ℕ
name_len [] = 0
name_len (byte ∷ bytes) = if ends_name byte bytes then 0 else 1 + name_len bytes

-- a byte that is written in another way than as it is, or that may be
abbrev pub is_special : ℕ → Bool
is_special byte = is_lead byte || is_hidden byte

-- ---- the end of an index

pub record EndedWell {L : Type 0} (k : RowsTo L) (q : Asked) (s t : L) (bytes : List ℕ) (number : ℕ) : Type 0 where
  pub gave : k.to.gave s (rows q (index bytes).entries) t
  pub quiet : k.failed t ≡ k.failed s
  pub count : number ≡ length (rows q (index bytes).entries)
  pub good : (index bytes).bad ≡ None

-- the run stopped at the last line
abbrev pub EndStops : {L : Type 0} → RowsTo L → Asked → L → L → List ℕ → Fault → Type 0
EndStops k q s t bytes WriteText = k.to.within s (rows q (index bytes).entries) t × Rose (k.failed s) (k.failed t)
EndStops k q s t bytes (BadIndex number) =
    k.to.gave s (rows q (index bytes).entries) t × ((index bytes).bad ≡ Some number) × (k.failed t ≡ k.failed s)
EndStops k q s t bytes _ = ⊥

abbrev pub Finishes : {L : Type 0} → Result ℕ Fault → RowsTo L → Asked → Search → L → L → Type 0
Finishes {L = L} res k q run s t = MatchResult res
    (λ number. (first : L) (bytes : List ℕ) → Here k q first s run bytes → EndedWell k q first t bytes number)
    (λ fault. (first : L) (bytes : List ℕ) → Here k q first s run bytes → EndStops k q first t bytes fault)

-- before the first byte
pub record IsFresh (run : Search) : Type 0 where
  pub version : run.place.version ≡ None
  pub lines : run.place.lines ≡ 0
  pub empty : run.held ≡ []
  pub rows : run.rows ≡ 0
