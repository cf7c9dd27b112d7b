-- What the pages of a command come to. Source: mandoc(1), DESCRIPTION, DIAGNOSTICS, EXIT STATUS.
use Rattle.std.specs.Prelude.{◌≡◌, ℕ, ◌<◌, Bool, true, false, ⊤, List, [], ◌∷◌, ◌++◌, codes, decimal, encode_utf8, Option, Some, None, Result, Err, IsOk, MatchResult, ◌⊎◌, if◌then◌else◌}
use Rattle.std.specs.Str.{chars}
use Rattle.std.specs.List.{flat_map}
use Rattle.std.specs.Io.KnownBytes.{Consumes}
use Rattle.page_core_base.specs.declared.faults.Fault.{Fault}
use Rattle.page_core_base.specs.declared.faults.Fault.TheVariants as fault
use Rattle.page_core_base.specs.declared.page_settings.SettingFault.TheVariants as setting
use Rattle.page_core_base.specs.declared.page_settings.Settings.{Settings as PageSettings}
use Rattle.page_core_base.specs.declared.page_settings.Output.{Output}
use Rattle.page_core_base.specs.declared.page_settings.Output.TheVariants as output
use Rattle.page_core_streams.specs.Streams.{Grows, RisesIf, SourceState, HasGiven, IsTooLong}
use Rattle.page_engine.specs.declared.runs.Outcome.{Outcome}
use Rattle.page_engine.specs.Runs.{writers, Runs}
use Rattle.mandoc_command.specs.Status.{status}
use Rattle.mandoc_formats.specs.ShownNames.{is_hidden}
use Rattle.mandoc_formats.specs.Turns.{Came, InTurn, does_stop, worse}
use Rattle.mandoc_formats.specs.declared.faults.Done.{Done}

-- ---- lines about files

abbrev pub line_end : List ℕ → List ℕ → List ℕ
line_end name text = name ++ (codes ": " ++ (text ++ 10 ∷ []))

abbrev pub line_about : List ℕ → List ℕ → List ℕ
line_about name text = codes "mandoc: " ++ line_end name text

abbrev pub fault_text : Fault → List ℕ
fault_text fault.Memory = codes "out of memory"
fault_text fault.Read = codes "cannot read"
fault_text fault.WriteText = codes "cannot write"
fault_text fault.WriteNotes = codes "cannot write"
fault_text fault.TooLong = codes "input too large"
fault_text (fault.Settings setting.Width) = codes "bad width"
fault_text (fault.Settings setting.Indent) = codes "bad indent"
fault_text (fault.Settings setting.Os) = codes "bad operating system"
fault_text (fault.BadIndex line) = codes "line " ++ (decimal line ++ codes ": bad index")
fault_text _ = codes "failed before"

abbrev pub fault_line : List ℕ → Fault → List ℕ
fault_line name fault = line_about name (fault_text fault)

abbrev pub unopened_line : List ℕ → List ℕ
unopened_line name = line_about name (codes "cannot open")

-- nothing more can be written
abbrev pub stops_after : Fault → Bool
stops_after fault.WriteText = true
stops_after fault.WriteNotes = true
stops_after _ = false

-- ---- what failed

-- what bytes go to has failed: between two moments its count rose, where that is counted
pub record HasFailed {S : Type 0} (counts : Bool) (failures : S → ℕ) : Type 0 where
  pub before : S
  pub after : S
  pub rose : RisesIf counts (failures before) (failures after)

-- what is read from gave too many bytes, or was called too often, between two moments
pub record GaveTooMuch {S : Type 0} (state : S → SourceState) : Type 0 where
  pub before : S
  pub after : S
  pub asked : ℕ
  pub bytes : List ℕ
  pub given : HasGiven (state before) (state after) asked bytes
  pub is : IsTooLong asked bytes

-- what came before each fault
pub record Causes : Type 1 where
  pub unread : Type 0
  pub too_long : Type 0
  pub unwritten : Type 0

-- where all that is read and written counts: what is read from failed or gave too much, and what rows or messages go to failed
abbrev pub causes : {I W V : Type 0} → (i w v : Bool) → (I → SourceState) → (W → ℕ) → (V → ℕ) → Causes
causes i w v state rows notes = let all : Type 0 = (i ≡ true) × (w ≡ true) × (v ≡ true) in record {
  unread = all → HasFailed true (λ s. (state s).failed);
  too_long = all → GaveTooMuch state;
  unwritten = all → HasFailed true rows ⊎ HasFailed true notes;
}

-- a fault has its cause; of memory that is refused nothing is said
abbrev pub HasCause : {T : Type 0} → Causes → Result T Fault → Type 0
HasCause why (Err fault.Read) = why.unread
HasCause why (Err fault.TooLong) = why.too_long
HasCause why (Err fault.WriteText) = why.unwritten
HasCause why (Err fault.WriteNotes) = why.unwritten
HasCause why _ = ⊤

-- a front of all
abbrev pub Front : List ℕ → List ℕ → Type 0
Front part all = (rest : List ℕ) × (all ≡ part ++ rest)

-- a line came; or a front of it, where what it goes to has failed
abbrev pub Told : (failed : Type 0) → (part line : List ℕ) → Type 0
Told failed part line = (part ≡ line) ⊎ (failed × Front part line)

-- what is known of it grew so
pub record Tells (failed : Type 0) (before after : Option (List ℕ)) (line : List ℕ) : Type 0 where
  pub part : List ℕ
  pub told : Told failed part line
  pub grows : Grows before after part

-- ---- a page

-- what a run over a page read and gave, and how it ended
pub record Page : Type 0 where
  pub bytes : List ℕ
  pub rows : List ℕ
  pub notes : List ℕ
  pub left : Option (List ℕ)
  pub end : Result Outcome Fault

-- the run is one over these bytes, with messages about a file
abbrev pub IsPage : PageSettings → (name : List ℕ) → Page → Type 0
IsPage settings name page = Runs page.end (writers Some Some name) [] page.rows [] page.notes settings page.bytes page.left

-- to the output come the rows, and the messages beside it; under lint the messages alone
abbrev pub page_out : Output → Page → List ℕ
page_out output.Lint page = page.notes
page_out _ page = page.rows

abbrev pub page_err : Output → Page → List ℕ
page_err output.Lint page = []
page_err _ page = page.notes

-- what is reported of the run: how it ended, or that what it gave could not be put out
abbrev pub IsReported : Result Outcome Fault → Result Outcome Fault → Type 0
IsReported end result = (end ≡ result) ⊎ (IsOk end × ((result ≡ Err fault.WriteText) ⊎ (result ≡ Err fault.WriteNotes)))

-- ---- a file

-- what came of a file, or of several: its status, and whether it ends the command
abbrev pub File : Type 0
File = Came Done

-- a page was formatted under a name, and its fault reported
pub record Formatted (failed : Type 0) (why : Causes) (settings : PageSettings) (name : List ℕ) (before : Option (List ℕ)) (file : File) : Type 0 where
  pub page : Page
  pub is : IsPage settings name page
  pub read : Consumes before page.left page.bytes
  pub result : Result Outcome Fault
  pub ended : IsReported page.end result
  pub cause : HasCause why result
  pub out : file.out ≡ page_out settings.output page
  pub told : MatchResult result
      (λ outcome. (file.err ≡ page_err settings.output page) × (file.end.status ≡ status outcome.worst) × (file.end.stops ≡ false))
      (λ fault. ((line : List ℕ) × (file.err ≡ page_err settings.output page ++ line) × Told failed line (fault_line name fault))
      × (file.end.status ≡ 6) × (file.end.stops ≡ stops_after fault))

-- no file could be opened
pub record Unopened (failed : Type 0) (name : List ℕ) (file : File) : Type 0 where
  pub out : file.out ≡ []
  pub err : Told failed file.err (unopened_line name)
  pub status : file.end.status ≡ 6
  pub goes_on : file.end.stops ≡ false

-- each hidden character is a question mark
abbrev pub shown : List ℕ → List ℕ
shown name = flat_map (λ c. encode_utf8 (if is_hidden c then 63 else c)) (chars name)

-- there was no memory for its name
pub record Unnamed (failed : Type 0) (name : List ℕ) (file : File) : Type 0 where
  pub out : file.out ≡ []
  pub err : Told failed file.err (fault_line name fault.Memory)
  pub status : file.end.status ≡ 6
  pub goes_on : file.end.stops ≡ false

-- what was found under a name: none that can be opened, or a file with its bytes, of which this came
abbrev pub IsFound : (finds : List ℕ → Option (Option (List ℕ)) → Type 0) → (failed : Type 0) → (is : Option (List ℕ) → File → Type 0) → (name shown : List ℕ) → File → Type 0
IsFound finds failed is name shown file = (finds name None × Unopened failed shown file) ⊎ ((bytes : Option (List ℕ)) × finds name (Some bytes) × is bytes file)

abbrev pub IsFile : (finds : List ℕ → Option (Option (List ℕ)) → Type 0) → (failed : Type 0) → Causes → PageSettings → (name : List ℕ) → File → Type 0
IsFile finds failed why settings name file =
    Unnamed failed (shown name) file ⊎ IsFound finds failed (Formatted failed why settings (shown name)) name (shown name) file

-- ---- the files of a command

-- of each in turn, with its causes; no files: the standard input is formatted, with its own
unfoldable pub FormatsAll : (finds : List ℕ → Option (Option (List ℕ)) → Type 0) → (failed : Type 0) → (own why : Causes) → PageSettings → (names : List (List ℕ)) → (input : Option (List ℕ)) → File → Type 0
FormatsAll finds failed own why settings [] input file = Formatted failed own settings (codes "<stdin>") input file
FormatsAll finds failed own why settings (name ∷ names) input file =
    InTurn worse does_stop (IsFile finds failed why settings) (name ∷ names) (record { out = []; err = []; end = record { status = 0; stops = false } }) file

-- a status below that of a failure: nothing waits to be put out
abbrev pub IsPutOut : ℕ → (out_waits err_waits : List ℕ) → Type 0
IsPutOut status out_waits err_waits = status < 6 → (out_waits ≡ []) × (err_waits ≡ [])

-- what one file came to, and what is known below that status
abbrev pub Did : (is : File → Type 0) → Done → (out_before out_after err_before err_after : Option (List ℕ)) → (put_out : Type 0) → Type 0
Did is done out_before out_after err_before err_after put_out =
    (file : File) × is file × Grows out_before out_after file.out × Grows err_before err_after file.err × (file.end ≡ done) × (done.status < 6 → put_out)
