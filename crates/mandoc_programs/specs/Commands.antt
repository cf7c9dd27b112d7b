-- What a command comes to. Source: mandoc(1), makewhatis(8), whatis(1), EXIT STATUS.
use Rattle.std.specs.Prelude.{◌≡◌, ◌<◌, ℕ, false, List, [], Option, ⊤}
use Rattle.std.specs.Io.KnownBytes.{append_known}
use Rattle.page_core_streams.specs.Streams.{Grows, SourceState}
use Rattle.mandoc_command.specs.Line.{indexes_of, searches_of}
use Rattle.mandoc_command.specs.declared.commands.Command.{Command}
use Rattle.mandoc_command.specs.declared.commands.Command.TheVariants.{Format, Makewhatis, Whatis}
use Rattle.mandoc_formats.specs.Formats.{Causes, File, FormatsAll, HasFailed, causes}
use Rattle.mandoc_programs.specs.Indexes.{Index, Makes, MakesAll}
use Rattle.mandoc_programs.specs.Searches.{SearchesFor, index_causes}
use Rattle.mandoc_programs.specs.Sights.{Sight}
use Rattle.mandoc_formats.specs.Turns.{Came}

-- what came to the output and beside it, the indexes that took their names, and the status
pub record Run : Type 0 where
  pub out : List ℕ
  pub err : List ℕ
  pub put : List Index
  pub status : ℕ

abbrev pub run_of : File → Run
run_of file = record { out = file.out; err = file.err; put = []; status = file.end.status }

-- messages go to what may have failed, and each fault has its cause: of the standard input, of a page to format, of an index that is searched; pages to
-- format are found among all files, and that index among those that are no device and no pipe
abbrev pub IsRun : (finds finds_regular : List ℕ → Option (Option (List ℕ)) → Type 0) → (sees : List ℕ → Sight → Type 0) → (failed : Type 0) → (unprinted : Type 0) → (own paged indexed : Causes) → Command → (input : Option (List ℕ)) → Run → Type 0
IsRun finds finds_regular sees failed unprinted own paged indexed (Format format) input run = (file : File) × FormatsAll finds failed own paged format.settings format.files input file × (run ≡ run_of file)
IsRun finds finds_regular sees failed unprinted own paged indexed (Makewhatis asked) input run = (all : Came Makes) × MakesAll sees failed unprinted (indexes_of asked) all
    × (run ≡ record { out = all.out; err = all.err; put = all.end.put; status = all.end.done.status })
IsRun finds finds_regular sees failed unprinted own paged indexed (Whatis asked) input run = (file : File) × SearchesFor finds_regular failed indexed (searches_of asked) file × (run ≡ run_of file)

-- the standard input is read by a page that has no file
abbrev pub ReadsInput : Command → Type 0
ReadsInput (Format format) = format.files ≡ []
ReadsInput _ = ⊥

-- ---- over the system's files, of which nothing is known, and over streams with a buffer before each; of neither failures are counted

-- all came but for a rest, which still waited
abbrev pub FrontCame : (before after : Option (List ℕ)) → (all : List ℕ) → Type 0
FrontCame before after all = (rest : List ℕ) × Grows before (append_known after rest) all

-- a command was done, with this answer: what it gives came to both streams but for a rest; below the status 6 all of its output
pub record Ran {I F W V : Type 0} (state : I → SourceState) (files : F → SourceState) (rows : W → ℕ) (notes : V → ℕ) (command : Command) (input : Option (List ℕ)) (answer : ℕ)
    (out_before out_after err_before err_after : Option (List ℕ)) : Type 0 where
  pub run : Run
  pub is : IsRun (λ _ _. ⊤) (λ _ _. ⊤) (λ _ _. ⊤) (HasFailed false notes) (HasFailed false rows)
      (causes false false false state rows notes) (causes false false false files rows notes) (index_causes false false files rows) command input run
  pub status : answer ≡ run.status
  pub out : FrontCame out_before out_after run.out
  pub err : FrontCame err_before err_after run.err
  pub all : answer < 6 → Grows out_before out_after run.out
