-- What a search of an index did, by its answer. Source: whatis(1).
use Rattle.std.specs.Prelude.{◌≡◌, ◌≤◌, ℕ, ◌-◌, ◌^◌, List, [], ◌++◌, Option, Some, None, Result, MatchResult, ◌⊎◌, length, take}
use Rattle.std.specs.Io.KnownBytes.{IsAtEnd}
use Rattle.page_core_base.specs.Messages.{Rose}
use Rattle.page_core_base.specs.declared.faults.Fault.{Fault}
use Rattle.page_core_base.specs.declared.faults.Fault.TheVariants.{Memory, Read, WriteText, WriteNotes, TooLong, Settings, Failed, Ended, BadIndex}
use Rattle.page_core_streams.specs.Streams.{SourceState, HasGiven, IsLean, IsTooLong}
use Rattle.page_engine_index.specs.Entries.{index, whole_index}
use Rattle.page_engine_index.specs.Whatis.{Asked, rows}

-- what it means that rows came, all of them or a front
pub record Rows (L : Type 0) : Type 1 where
  pub gave : L → List (List ℕ) → L → Type 0
  pub within : L → List (List ℕ) → L → Type 0

-- rows that come to a sink that counts its failures
pub record RowsTo (L : Type 0) : Type 1 where
  pub to : Rows L
  pub failed : L → ℕ

-- rows that come, with a count of the failures
abbrev pub counting : {L : Type 0} → Rows L → (L → ℕ) → RowsTo L
counting to failed = record { to = to; failed = failed }

abbrev pub rows_to : {L : Type 0} → (L → List (List ℕ) → L → Type 0) → (L → List (List ℕ) → L → Type 0) → (L → ℕ) → RowsTo L
rows_to gave within failed = record { to = record { gave = gave; within = within }; failed = failed }

-- the whole index was read, without a bad line, and all rows came; this is their number
pub record Shown {L : Type 0} (j : Rows L) (s t : L) (q : Asked) (bytes : List ℕ) (after : Option (List ℕ)) (number : ℕ) : Type 0 where
  pub gave : j.gave s (rows q (index bytes).entries) t
  pub count : number ≡ length (rows q (index bytes).entries)
  pub good : (index bytes).bad ≡ None
  pub all : IsAtEnd after

-- a line of an index is the first bad one, and stays it whatever follows; the rows of the lines before it came
pub record FoundBad {L : Type 0} (j : Rows L) (s t : L) (q : Asked) (bytes : List ℕ) (after : Option (List ℕ)) (number : ℕ) : Type 0 where
  pub gave : j.gave s (rows q (index bytes).entries) t
  pub bad : (index bytes).bad ≡ Some number
  pub stays : IsAtEnd after ⊎ ((more : List ℕ) → index (bytes ++ more) ≡ index bytes)

-- none of the lines that were read whole is bad, and their rows came
pub record ReadWhole {L : Type 0} (j : Rows L) (s t : L) (q : Asked) (bytes : List ℕ) : Type 0 where
  pub gave : j.gave s (rows q (whole_index bytes).entries) t
  pub good : (whole_index bytes).bad ≡ None

abbrev pub Stopped : {L : Type 0} → Rows L → L → L → Asked → List ℕ → Option (List ℕ) → Fault → Type 0
Stopped j s t q bytes after Memory = (bytes ≡ []) × j.gave s [] t
Stopped j s t q bytes after Read = ReadWhole j s t q bytes
Stopped j s t q bytes after TooLong = ReadWhole j s t q (take (2 ^ 31 - 1) bytes)
Stopped j s t q bytes after WriteText = j.within s (rows q (index bytes).entries) t
Stopped j s t q bytes after (BadIndex number) = FoundBad j s t q bytes after number
Stopped j s t q bytes after WriteNotes = ⊥
Stopped j s t q bytes after (Settings fault) = ⊥
Stopped j s t q bytes after Failed = ⊥
Stopped j s t q bytes after Ended = ⊥

-- by the answer
abbrev pub Searches : {L : Type 0} → Result ℕ Fault → Rows L → L → L → Asked → List ℕ → Option (List ℕ) → Type 0
Searches res j s t q bytes after =
    MatchResult res (λ number. Shown j s t q bytes after number) (λ fault. Stopped j s t q bytes after fault)

-- ---- the causes of faults

-- nothing failed
pub record Quiet {L : Type 0} (k : RowsTo L) (a b : SourceState) (s t : L) : Type 0 where
  pub source : b.failed ≡ a.failed
  pub rows : k.failed t ≡ k.failed s

abbrev pub HasCause : {L : Type 0} → RowsTo L → SourceState → SourceState → L → L → ℕ → List ℕ → Fault → Type 0
HasCause k a b s t asked bytes Memory = (b ≡ a) × (t ≡ s)
HasCause k a b s t asked bytes Read = Rose a.failed b.failed × (k.failed t ≡ k.failed s)
HasCause k a b s t asked bytes TooLong = IsTooLong asked bytes × Quiet k a b s t
HasCause k a b s t asked bytes WriteText = (b.failed ≡ a.failed) × Rose (k.failed s) (k.failed t)
HasCause k a b s t asked bytes (BadIndex number) = Quiet k a b s t
HasCause k a b s t asked bytes WriteNotes = ⊥
HasCause k a b s t asked bytes (Settings fault) = ⊥
HasCause k a b s t asked bytes Failed = ⊥
HasCause k a b s t asked bytes Ended = ⊥

-- a search over a source: by this number of calls, at most 2^32 - 1, it gave these bytes; but for one of them, each gave a byte or was empty
pub record SearchesOver {L : Type 0} (res : Result ℕ Fault) (k : RowsTo L) (a b : SourceState) (s t : L) (q : Asked)
    (bytes : List ℕ) : Type 0 where
  pub asked : ℕ
  pub few : asked ≤ 2 ^ 32 - 1
  pub source : HasGiven a b asked bytes
  pub lean : IsLean a b asked bytes
  pub ends : Searches res k.to s t q bytes b.remaining
  pub cause : MatchResult res (λ _. Quiet k a b s t) (λ fault. HasCause k a b s t asked bytes fault)
