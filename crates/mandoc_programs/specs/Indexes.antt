-- What printing the records of the pages in directories comes to. Source: makewhatis(8), DESCRIPTION, DIAGNOSTICS, EXIT STATUS.
use Rattle.std.specs.Prelude.{◌≡◌, ℤ, ℕ, ◌+◌, ◌-◌, ◌^◌, min, max, ◌==◌, Bool, true, false, List, [], ◌∷◌, ◌++◌, ⊤, codes, decimal, Option, Some, None, Result, Ok, Err, IsOk, ◌⊎◌, if◌then◌else◌, IsPermutation, IsSorted}
use Rattle.std.specs.Ordering.{nat_cmp}
use Rattle.std.specs.Bool.{MatchBool}
use Rattle.std.specs.Cmp.Lexicographic.{slice_cmp}
use Rattle.std.specs.Io.KnownBytes.{Consumes}
use Rattle.std.specs.declared.io.ErrorKind.{ErrorKind}
use Rattle.std.specs.declared.io.ErrorKind.TheVariants as kind
use Rattle.page_core_base.specs.declared.faults.Fault.{Fault}
use Rattle.page_core_base.specs.declared.faults.Fault.TheVariants as fault
use Rattle.page_core_base.specs.declared.page_settings.Settings.{Settings as PageSettings}
use Rattle.page_core_base.specs.declared.page_settings.Output.TheVariants.{Ascii}
use Rattle.page_core_base.specs.declared.page_settings.Language.TheVariants as language
use Rattle.page_core_base.specs.declared.page_settings.Encoding.TheVariants as encoding
use Rattle.page_core_streams.specs.Streams.{Grows}
use Rattle.page_engine_index.specs.declared.records.Record.{Record as PageRecord}
use Rattle.page_engine_index.specs.Fields.{is_field}
use Rattle.page_engine_index.specs.Records.{entry_with, entry_line, printed_record}
use Rattle.page_engine_records.specs.Runs.{ReadsRecord}
use Rattle.mandoc_command.specs.Line.{Indexes as Wanted}
use Rattle.mandoc_programs.specs.declared.bearings.Bearing.{Bearing}
use Rattle.mandoc_programs.specs.declared.bearings.Bearing.TheVariants.{NoFault, KeepsOld}
use Rattle.mandoc_formats.specs.declared.faults.Done.{Done}
use Rattle.mandoc_programs.specs.declared.page_records.Found.{Found}
use Rattle.mandoc_programs.specs.declared.page_records.Found.TheVariants as found
use Rattle.mandoc_programs.specs.declared.pages.Form.{Form}
use Rattle.mandoc_programs.specs.declared.pages.Form.TheVariants as form
use Rattle.mandoc_programs.specs.declared.pages.Tally.{Tally}
use Rattle.mandoc_programs.specs.Bearings.{bearing_of_file, bearing_of_folder, bearing_of_page}
use Rattle.mandoc_programs.specs.Compressed.{is_compressed}
use Rattle.mandoc_formats.specs.Formats.{Front, Told, fault_line, line_about, shown, stops_after, unopened_line}
use Rattle.mandoc_programs.specs.Sights.{Sight, is_dir, listed, opened}
use Rattle.mandoc_formats.specs.Turns.{Came, InTurn, worse}

-- the name of what lies in a folder
abbrev pub below : List ℕ → List ℕ → List ℕ
below folder name = folder ++ (codes "/" ++ name)

-- ---- what pages come to

-- of several: the worst status, and the number of those that are compressed, which stays at 2^64 - 1; the first fault ends it
abbrev pub both : Tally → Tally → Tally
both one other = record { status = max one.status other.status; compressed = min (one.compressed + other.compressed) (2 ^ 64 - 1) }

abbrev pub and_so : Result Tally Fault → Result Tally Fault → Result Tally Fault
and_so (Err why) other = Err why
and_so (Ok one) (Ok other) = Ok (both one other)
and_so (Ok one) (Err why) = Err why

abbrev pub is_fault : Result Tally Fault → Bool
is_fault (Ok tally) = false
is_fault (Err why) = true

abbrev pub Part : Type 0
Part = Came (Result Tally Fault)

-- a status, and no page that is compressed
abbrev pub with : ℕ → Result Tally Fault
with status = Ok (record { status = status; compressed = 0 })

abbrev pub nothing : Part
nothing = record { out = []; err = []; end = with 0 }

-- of each in turn
abbrev pub PartsOf : (is : List ℕ → Part → Type 0) → List (List ℕ) → Part → Type 0
PartsOf is names part = InTurn and_so is_fault is names nothing part

-- nothing came to the output, and beside it a line; or a front of it, where that failed
pub record Said (failed : Type 0) (line : List ℕ) (end : Result Tally Fault) (part : Part) : Type 0 where
  pub out : part.out ≡ []
  pub err : Told failed part.err line
  pub ended : part.end ≡ end

abbrev pub Ends : Result Tally Fault → Part → Type 0
Ends = Said ⊥ []

-- what a fault that was reported means: where the index has to stay as it was, it can't be written; else the next page follows
abbrev pub after : Form → Bearing → Result Tally Fault
after form.Index KeepsOld = Err fault.WriteText
after _ _ = with 6

-- ---- a page

-- settings of a run with no options
pub record IsPlain (s : PageSettings) : Type 0 where
  pub output : s.output ≡ Ascii
  pub width : s.width ≡ 78
  pub indent : s.indent ≡ None
  pub language : s.language ≡ language.Auto
  pub encoding : s.encoding ≡ encoding.Auto
  pub least : s.least ≡ None
  pub os : s.os.bytes ≡ []

-- the record of the page of these bytes was read
pub record ReadsPage (before : Option (List ℕ)) (result : Result (Option PageRecord) Fault) : Type 0 where
  pub settings : PageSettings
  pub plain : IsPlain settings
  pub bytes : List ℕ
  pub left : Option (List ℕ)
  pub read : Consumes before left bytes
  pub reads : ReadsRecord result settings bytes left

-- whether a page of these bytes is compressed, where they are known
abbrev pub IsCompressed : Option (List ℕ) → Bool → Type 0
IsCompressed None answer = ⊤
IsCompressed (Some bytes) answer = is_compressed bytes ≡ answer

-- what is found in a page
abbrev pub IsFoundIn : Option (List ℕ) → Result Found Fault → Type 0
IsFoundIn before (Ok found.Compressed) = IsCompressed before true
IsFoundIn before (Ok found.Nothing) = IsCompressed before false × ReadsPage before (Ok None)
IsFoundIn before (Ok (found.Record page)) = IsCompressed before false × ReadsPage before (Ok (Some page))
IsFoundIn before (Err why) = ReadsPage before (Err why)

-- a record with the page's file below its directory; or as it is printed
abbrev pub entry_by : Form → List ℕ → PageRecord → List ℕ
entry_by form.Index file page = entry_line (entry_with page file)
entry_by form.Printed file page = printed_record page

-- why entries are not printed; why an index is not written is not said
abbrev pub lost : Form → (unwritten : Type 0) → Type 0
lost form.Printed unwritten = unwritten
lost form.Index unwritten = ⊤

-- an entry came; or a front of it, where what it is written to has failed
pub record Gives (unwritten : Type 0) (entry : List ℕ) (part : Part) : Type 0 where
  pub err : part.err ≡ []
  pub out : ((part.out ≡ entry) × (part.end ≡ with 0)) ⊎ (Front part.out entry × (part.end ≡ Err fault.WriteText) × unwritten)

-- what came of what was found in a page; what can't be read is reported by its path
abbrev pub OfFound : (failed unwritten : Type 0) → Form → (path file : List ℕ) → Result Found Fault → Part → Type 0
OfFound failed unwritten form path file (Ok found.Compressed) = Ends (Ok (record { status = 0; compressed = 1 }))
OfFound failed unwritten form path file (Ok found.Nothing) = Ends (with 0)
OfFound failed unwritten form path file (Ok (found.Record page)) = Gives unwritten (entry_by form file page)
OfFound failed unwritten form path file (Err why) = Said failed (fault_line (shown path) why) (after form (bearing_of_page why))

abbrev pub OfPage : (failed unwritten : Type 0) → Form → (path file : List ℕ) → Option (List ℕ) → Part → Type 0
OfPage failed unwritten form path file before part = (found : Result Found Fault) × IsFoundIn before found × OfFound failed unwritten form path file found part

-- of a file that can't be opened, of what is no file, and of a page
abbrev pub OfOpened : (failed unwritten : Type 0) → Form → (path file : List ℕ) → Result (Option (Option (List ℕ))) (Option ℤ) → Part → Type 0
OfOpened failed unwritten form path file (Err number) part = Said failed (unopened_line (shown path)) (after form (bearing_of_file number)) part
OfOpened failed unwritten form path file (Ok None) part = Ends (with 0) part
OfOpened failed unwritten form path file (Ok (Some before)) part = OfPage failed unwritten form path file before part

-- ---- a directory

abbrev pub unlisted_text : ErrorKind → List ℕ
unlisted_text kind.OutOfMemory = codes "out of memory"
unlisted_text _ = codes "cannot open"

-- of a folder that can't be listed: nothing is said of one that is missing
abbrev pub OfUnlisted : (failed : Type 0) → Form → (path : List ℕ) → ErrorKind → Bearing → Part → Type 0
OfUnlisted failed form path why NoFault = Ends (with 0)
OfUnlisted failed form path why bearing = Said failed (line_about (shown path) (unlisted_text why)) (after form bearing)

module _ (sees : List ℕ → Sight → Type 0) (failed unwritten : Type 0) (form : Form) (dir : List ℕ) where
  -- of a file that is opened
  abbrev pub IsOpened : (file path : List ℕ) → Part → Type 0
  IsOpened file path part = (found : _) × sees path (opened found) × OfOpened failed unwritten form path file found part

  -- of a file below it; one whose name can't be in an index is passed over
  abbrev pub IsNamed : (file : List ℕ) → Part → Type 0
  IsNamed file part = MatchBool (is_field file) (Ends (Err fault.Memory) part ⊎ IsOpened file (below dir file) part) (Ends (with 0) part)

  -- of a file in a folder
  abbrev pub IsPage : (folder name : List ℕ) → Part → Type 0
  IsPage folder name part = Ends (Err fault.Memory) part ⊎ IsNamed (below folder name) part

  -- of a folder that can't be listed; or of its files, in the order of the bytes of their names
  abbrev pub OfListed : (folder path : List ℕ) → Result (List (List ℕ)) ErrorKind → Part → Type 0
  OfListed folder path (Err why) part = OfUnlisted failed form path why (bearing_of_folder why) part
  OfListed folder path (Ok names) part = (sorted : List (List ℕ)) × IsPermutation names sorted × IsSorted (slice_cmp nat_cmp) sorted
      × PartsOf (IsPage folder) sorted part

  abbrev pub IsListed : (folder path : List ℕ) → Part → Type 0
  IsListed folder path part = (list : _) × sees path (listed list) × OfListed folder path list part

  abbrev pub IsFolder : (folder : List ℕ) → Part → Type 0
  IsFolder folder part = Ends (Err fault.Memory) part ⊎ IsListed folder (below dir folder) part

-- the folders of pages below a directory, by the sections of the manual
abbrev pub folders : List (List ℕ)
folders = codes "man1" ∷ codes "man2" ∷ codes "man3" ∷ codes "man4" ∷ codes "man5" ∷ codes "man6" ∷ codes "man7" ∷ codes "man8" ∷ codes "man9" ∷ []

-- how many pages are compressed, if some are
abbrev pub compressed_text : ℕ → List ℕ
compressed_text count = if count == 1 then codes "1 compressed page passed over" else decimal count ++ codes " compressed pages passed over"

abbrev pub compressed_line : List ℕ → ℕ → List ℕ
compressed_line name count = if count == 0 then [] else line_about name (compressed_text count)

abbrev pub compressed_in : List ℕ → Result Tally Fault → List ℕ
compressed_in name (Ok tally) = compressed_line name tally.compressed
compressed_in name (Err why) = []

-- of all folders, and of the pages that are compressed
pub record IsAll (sees : List ℕ → Sight → Type 0) (failed unwritten : Type 0) (form : Form) (dir : List ℕ) (part : Part) : Type 0 where
  pub pages : Part
  pub are : PartsOf (IsFolder sees failed unwritten form dir) folders pages
  pub line : List ℕ
  pub is_line : Told failed line (compressed_in (shown dir) pages.end)
  pub out : part.out ≡ pages.out
  pub err : part.err ≡ pages.err ++ line
  pub end : part.end ≡ pages.end

-- how the records of a directory ended, or that they could not be put out
abbrev pub IsAnswered : (unwritten : Type 0) → Result Tally Fault → Result Tally Fault → Type 0
IsAnswered unwritten end result = (end ≡ result) ⊎ (IsOk end × (result ≡ Err fault.WriteText) × unwritten)

-- ---- directories

-- an index that took its name in a directory
pub record Index : Type 0 where
  pub dir : List ℕ
  pub bytes : List ℕ

abbrev pub first_line : List ℕ
first_line = codes "whatis 2\n"

-- where the indexes that took their names are known: an index of this directory was begun, in a file that is empty
abbrev pub IsBegun : (put : Option (List Index)) → (begun : Option (List ℕ)) → (dir : List ℕ) → (contents : Option (List ℕ)) → Type 0
IsBegun put begun dir contents = ((begun ≡ Some dir) × (contents ≡ Some [])) ⊎ (put ≡ None)

-- what had the name of the index that was begun still has it, or a file with these bytes took it
abbrev pub PutsIn : Bool → (before after : Option (List Index)) → (begun contents : Option (List ℕ)) → Type 0
PutsIn true before after begun contents =
    (dir bytes : List ℕ) → begun ≡ Some dir → contents ≡ Some bytes → Grows before after (record { dir = dir; bytes = bytes } ∷ [])
PutsIn false before after begun contents = Grows before after []

-- what was done with the pages of a directory: all were given; or an index was not begun
abbrev pub Began : (sees : List ℕ → Sight → Type 0) → (failed unwritten : Type 0) → Form → (dir : List ℕ) → Part → Type 0
Began sees failed unwritten form.Printed dir part = IsAll sees failed unwritten form.Printed dir part
Began sees failed unwritten form.Index dir part = IsAll sees failed unwritten form.Index dir part ⊎ (Ends (Err fault.Memory) part ⊎ Ends (Err fault.WriteText) part)

-- entries that are printed come to the output; an index that is whole takes its name, else the old one stays
abbrev pub out_by : Form → Part → List ℕ
out_by form.Printed part = part.out
out_by form.Index part = []

abbrev pub puts : Form → (dir : List ℕ) → Part → Result Tally Fault → List Index
puts form.Index dir part (Ok tally) = record { dir = dir; bytes = first_line ++ part.out } ∷ []
puts _ dir part _ = []

-- the fault that ended a directory is reported, of itself or of its index
abbrev pub tail : Form → List ℕ
tail form.Printed = []
tail form.Index = codes "/whatis.idx"

abbrev pub Reported : (failed : Type 0) → (name : List ℕ) → Result Tally Fault → (line : List ℕ) → Done → Type 0
Reported failed name (Ok tally) line done = (line ≡ []) × (done ≡ record { status = tally.status; stops = false })
Reported failed name (Err why) line done = Told failed line (fault_line name why) × (done ≡ record { status = 6; stops = stops_after why })

-- what a directory left, and the indexes that took their names
pub record Makes : Type 0 where
  pub done : Done
  pub put : List Index

pub record MakesOf (sees : List ℕ → Sight → Type 0) (failed unwritten : Type 0) (form : Form) (dir : List ℕ) (came : Came Makes) : Type 0 where
  pub part : Part
  pub is : Began sees failed unwritten form dir part
  pub result : Result Tally Fault
  pub answered : IsAnswered unwritten part.end result
  pub out : came.out ≡ out_by form part
  pub line : List ℕ
  pub err : came.err ≡ part.err ++ line
  pub told : Reported failed (shown dir ++ tail form) result line came.end.done
  pub put : came.end.put ≡ puts form dir part result

-- there is no such directory
pub record NoDir (failed : Type 0) (dir : List ℕ) (came : Came Makes) : Type 0 where
  pub out : came.out ≡ []
  pub err : Told failed came.err (unopened_line (shown dir))
  pub end : came.end ≡ record { done = record { status = 6; stops = false }; put = [] }

abbrev pub IsDir : (sees : List ℕ → Sight → Type 0) → (failed unprinted : Type 0) → Form → (name : List ℕ) → Came Makes → Type 0
IsDir sees failed unprinted form.Printed name came =
    (sees name (is_dir false) × NoDir failed name came) ⊎ (sees name (is_dir true) × MakesOf sees failed unprinted form.Printed name came)
IsDir sees failed unprinted form.Index name came = MakesOf sees failed ⊤ form.Index name came

-- ---- a command

-- no message waits to be put out, but where what messages go to failed
abbrev pub IsSaid : (waits : List ℕ) → (failed : Type 0) → Type 0
IsSaid waits failed = (waits ≡ []) ⊎ failed

abbrev pub so : Makes → Makes → Makes
so one other = record { done = worse one.done other.done; put = one.put ++ other.put }

abbrev pub stops_making : Makes → Bool
stops_making end = end.done.stops

abbrev pub none_made : Makes
none_made = record { done = record { status = 0; stops = false }; put = [] }

abbrev pub form_of : Bool → Form
form_of true = form.Printed
form_of false = form.Index

abbrev pub MakesAll : (sees : List ℕ → Sight → Type 0) → (failed unprinted : Type 0) → Wanted → Came Makes → Type 0
MakesAll sees failed unprinted wanted = InTurn so stops_making (IsDir sees failed unprinted (form_of wanted.prints)) wanted.dirs (record { out = []; err = []; end = none_made })
