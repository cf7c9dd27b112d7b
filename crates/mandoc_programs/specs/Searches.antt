-- What a search of the index of a directory comes to. Source: whatis(1), DESCRIPTION, OPTIONS, EXIT STATUS, DIAGNOSTICS.
use Rattle.std.specs.Prelude.{◌≡◌, ℕ, Bool, true, zero, suc, ◌-◌, ◌==◌, List, [], ◌++◌, codes, length, take, drop, unwrap_or, Option, Some, Result, Err, IsOk, MatchResult, ◌⊎◌, if◌then◌else◌}
use Rattle.std.specs.Str.Lossy.{utf8_valid_len, utf8_invalid_len}
use Rattle.std.specs.Io.KnownBytes.{Consumes}
use Rattle.page_core_base.specs.declared.faults.Fault.{Fault}
use Rattle.page_core_base.specs.declared.faults.Fault.TheVariants.{WriteText}
use Rattle.page_core_streams.specs.Streams.{Adds, AddsInto, SourceState}
use Rattle.page_engine_index.specs.Searches.{Rows, Searches}
use Rattle.page_engine_index.specs.Whatis.{Asked}
use Rattle.page_engine_index.specs.Written.{visible}
use Rattle.page_engine_index.specs.declared.queries.Show.{Show}
use Rattle.page_engine_index.specs.declared.queries.Show.TheVariants as show
use Rattle.mandoc_command.specs.Line.{Searches as Wanted}
use Rattle.mandoc_formats.specs.Formats.{Causes, File, GaveTooMuch, HasCause, HasFailed, IsFound, Told, Unnamed, fault_line, shown}

-- ---- rows

-- the text of a name as it is shown; its bytes that are no text, in at most so many parts, are as they are
abbrev pub shown_parts : ℕ → List ℕ → List ℕ
shown_parts zero bytes = []
shown_parts (suc more) bytes =
    let text = utf8_valid_len bytes in
    let other = utf8_invalid_len (drop text bytes) in
    shown (take text bytes) ++ (take other (drop text bytes) ++ shown_parts more (drop other (drop text bytes)))

-- a row, whose last byte ends it
abbrev pub shown_row : List ℕ → List ℕ
shown_row row = let name = length row - 1 in shown_parts name (take name row) ++ drop name row

-- a row of an entry is written with a question mark for each control character, and the name of a file as names are shown
abbrev pub printed : Show → List ℕ → List ℕ
printed show.Entry row = visible row
printed show.File row = shown_row row

abbrev pub prints : {W : Type 0} → Show → (W → Option (List ℕ)) → Rows W
prints show contents = record { gave = Adds contents (printed show); within = AddsInto contents (printed show) }

-- ---- an index

-- what a search of an index read and printed, and how it ended
pub record Search : Type 0 where
  pub bytes : List ℕ
  pub rows : List ℕ
  pub left : Option (List ℕ)
  pub end : Result ℕ Fault

abbrev pub IsOf : Asked → Search → Type 0
IsOf asked search = Searches search.end (prints asked.show Some) [] search.rows asked search.bytes search.left

-- what is answered of it: how it ended, or that its rows could not be put out
abbrev pub IsAnswered : Result ℕ Fault → Result ℕ Fault → Type 0
IsAnswered end result = (end ≡ result) ⊎ (IsOk end × (result ≡ Err WriteText))

-- where the index and the output count
abbrev pub index_causes : {I W : Type 0} → (i w : Bool) → (I → SourceState) → (W → ℕ) → Causes
index_causes i w state rows = let all : Type 0 = (i ≡ true) × (w ≡ true) in record {
  unread = all → HasFailed true (λ s. (state s).failed);
  too_long = all → GaveTooMuch state;
  unwritten = all → HasFailed true rows;
}

-- an index was searched, and its fault reported, with its cause where entries are shown; no row was found, or some were
pub record Searched (failed : Type 0) (why : Causes) (asked : Asked) (name : List ℕ) (before : Option (List ℕ)) (file : File) : Type 0 where
  pub search : Search
  pub is : IsOf asked search
  pub read : Consumes before search.left search.bytes
  pub result : Result ℕ Fault
  pub ended : IsAnswered search.end result
  pub cause : asked.show ≡ show.Entry → HasCause why result
  pub out : file.out ≡ search.rows
  pub told : MatchResult result
      (λ count. (file.err ≡ []) × (file.end.status ≡ (if count == 0 then 1 else 0)))
      (λ fault. Told failed file.err (fault_line name fault) × (file.end.status ≡ 6))

-- ---- a command

-- each section, or one alone, which may be empty
abbrev pub asked_by : Wanted → Asked
asked_by wanted = record { words = wanted.words; section = wanted.section; show = if wanted.shows_files then show.File else show.Entry }

abbrev pub index_in : List ℕ → List ℕ
index_in dir = dir ++ codes "/whatis.idx"

-- what came of the index of a directory
abbrev pub IsSearch : (finds : List ℕ → Option (Option (List ℕ)) → Type 0) → (failed : Type 0) → Causes → (dir : List ℕ) → Asked → File → Type 0
IsSearch finds failed why dir asked file =
    let name = index_in (shown dir) in Unnamed failed name file ⊎ IsFound finds failed (Searched failed why asked name) (index_in dir) name file

-- no directory: the current one
abbrev pub SearchesFor : (finds : List ℕ → Option (Option (List ℕ)) → Type 0) → (failed : Type 0) → Causes → Wanted → File → Type 0
SearchesFor finds failed why wanted = IsSearch finds failed why (unwrap_or wanted.dir (codes ".")) (asked_by wanted)
