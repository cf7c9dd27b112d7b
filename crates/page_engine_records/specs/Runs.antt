-- What reading the record of a page did, by its answer. Source: mandoc(1), makewhatis.
use Rattle.std.specs.Prelude.{◌≡◌, ◌≤◌, ℕ, ◌-◌, ◌^◌, List, [], Option, Result, MatchResult}
use Rattle.std.specs.Io.KnownBytes.{IsAtEnd}
use Rattle.page_core_base.specs.Settings.{IsGood, IsFirst}
use Rattle.page_core_base.specs.Messages.{Rose}
use Rattle.page_core_base.specs.declared.faults.Fault.{Fault}
use Rattle.page_core_base.specs.declared.faults.Fault.TheVariants.{Memory, Read, WriteText, WriteNotes, TooLong, Settings, Failed, Ended, BadIndex}
use Rattle.page_core_base.specs.declared.page_settings.Settings.{Settings as PageSettings}
use Rattle.page_core_streams.specs.Streams.{SourceState, HasGiven, IsLean, IsTooLong}
use Rattle.page_engine_index.specs.declared.records.Record.{Record}
use Rattle.page_engine_records.specs.PageRecords.{page_record}

-- all bytes were read, and this is the record of their page, if it has one
pub record IsRecord (s : PageSettings) (bytes : List ℕ) (after : Option (List ℕ)) (found : Option Record) : Type 0 where
  pub value : found ≡ page_record s bytes
  pub good : IsGood s
  pub all : IsAtEnd after

-- before the first read alone come refused settings and want of memory
abbrev pub Stopped : PageSettings → List ℕ → Fault → Type 0
Stopped s bytes Memory = IsGood s × (bytes ≡ [])
Stopped s bytes Read = IsGood s
Stopped s bytes TooLong = IsGood s
Stopped s bytes WriteText = ⊥
Stopped s bytes WriteNotes = ⊥
Stopped s bytes (Settings fault) = IsFirst s fault × (bytes ≡ [])
Stopped s bytes Failed = ⊥
Stopped s bytes Ended = ⊥
Stopped s bytes (BadIndex line) = ⊥

-- by the answer
abbrev pub ReadsRecord : Result (Option Record) Fault → PageSettings → List ℕ → Option (List ℕ) → Type 0
ReadsRecord res s bytes after = MatchResult res (λ found. IsRecord s bytes after found) (λ fault. Stopped s bytes fault)

-- ---- the causes of faults

abbrev pub HasCause : SourceState → SourceState → ℕ → List ℕ → Fault → Type 0
HasCause a b asked bytes Memory = b ≡ a
HasCause a b asked bytes Read = Rose a.failed b.failed
HasCause a b asked bytes TooLong = IsTooLong asked bytes × (b.failed ≡ a.failed)
HasCause a b asked bytes WriteText = ⊥
HasCause a b asked bytes WriteNotes = ⊥
HasCause a b asked bytes (Settings fault) = b ≡ a
HasCause a b asked bytes Failed = ⊥
HasCause a b asked bytes Ended = ⊥
HasCause a b asked bytes (BadIndex line) = ⊥

-- over a source: by this number of calls, at most 2^32 - 1, it gave these bytes; but for one of them, each gave a byte or was empty
pub record ReadsRecordOver (res : Result (Option Record) Fault) (a b : SourceState) (s : PageSettings) (bytes : List ℕ) : Type 0 where
  pub asked : ℕ
  pub few : asked ≤ 2 ^ 32 - 1
  pub source : HasGiven a b asked bytes
  pub lean : IsLean a b asked bytes
  pub reads : ReadsRecord res s bytes b.remaining
  pub cause : MatchResult res (λ _. b.failed ≡ a.failed) (λ fault. HasCause a b asked bytes fault)
