-- What a run over the bytes of a page did: what it read, what it wrote to its streams, and how it ended. Source: mandoc(1).
use Rattle.std.specs.Io.KnownBytes.{IsAtEnd}
use Rattle.std.specs.Prelude.{List, ℕ, Option, flat_map, ◌≡◌, length, ◌-◌, ◌^◌, [], take, Result, MatchResult, ◌≤◌, ◌⊎◌, ◌++◌}
use Rattle.page_core_base.specs.Messages.{Message, IsSinkFault, Rose}
use Rattle.page_core_base.specs.Rows.{LaidRow, Laid, Gave, nothing}
use Rattle.page_core_base.specs.Settings.{IsGood, IsFirst}
use Rattle.page_core_base.specs.declared.faults.Fault.{Fault}
use Rattle.page_core_base.specs.declared.faults.Fault.TheVariants.{Memory, Read, WriteText, WriteNotes, TooLong, Settings}
use Rattle.page_core_base.specs.declared.page_settings.Settings.{Settings as PageSettings}
use Rattle.page_core_streams.specs.Streams.{Grows, row_bytes, GrowsInto, message_bytes, SourceState, IsTooLong, HasGiven, IsLean}
use Rattle.page_roff_lines.specs.Lines.{lines, whole_lines, lines_made, line_left}
use Rattle.page_roff_source.specs.Runs.{counts_of}
use Rattle.page_engine.specs.Edges.{Edge, start}
use Rattle.page_engine.specs.Page.{page, settled}
use Rattle.page_engine.specs.declared.runs.Outcome.{Outcome}

-- ---- A sink of rows and a sink of messages, and what came to them.

-- what it means that rows and messages came, all of them or a front
pub record Streams (R N : Type 0) : Type 1 where
  pub row_gave : R → List LaidRow → R → Type 0
  pub row_within : R → List LaidRow → R → Type 0
  pub note_gave : N → List Message → N → Type 0
  pub note_within : N → List Message → N → Type 0

-- writers whose bytes are known got those of rows, and of messages about a file, or of a front of them. Source: mandoc(1), "ASCII Output" and "DIAGNOSTICS".
abbrev pub writers : {W V : Type 0} → (rows : W → Option (List ℕ)) → (notes : V → Option (List ℕ)) → (file : List ℕ) → Streams W V
writers rows notes file = record {
  row_gave = λ w given w'. Grows (rows w) (rows w') (flat_map row_bytes given);
  row_within = λ w given w'. GrowsInto (rows w) (rows w') (flat_map row_bytes given);
  note_gave = λ v given v'. Grows (notes v) (notes v') (flat_map (message_bytes file) given);
  note_within = λ v given v'. GrowsInto (notes v) (notes v') (flat_map (message_bytes file) given);
}

-- all that is laid came; a front of it came to each
abbrev pub AllCame : {R N E : Type 0} → Streams R N → R → R → N → N → Laid E → Type 0
AllCame streams rows_before rows_after notes_before notes_after laid =
    Gave streams.row_gave streams.note_gave rows_before rows_after notes_before notes_after laid

abbrev pub FrontCame : {R N E : Type 0} → Streams R N → R → R → N → N → Laid E → Type 0
FrontCame streams rows_before rows_after notes_before notes_after laid =
    Gave streams.row_within streams.note_within rows_before rows_after notes_before notes_after laid

-- streams whose sinks count their failures
pub record Sinks (R N : Type 0) : Type 1 where
  pub to : Streams R N
  pub rows_failed : R → ℕ
  pub notes_failed : N → ℕ

-- ---- What a run over the bytes of a page did. Source: mandoc(1).

-- ---- a whole run

-- the page of all bytes, and what the whole lines of bytes settle
abbrev pub whole_page : PageSettings → List ℕ → Laid Edge
whole_page settings bytes = page (start settings) (lines settings.encoding bytes)

abbrev pub settled_page : PageSettings → List ℕ → Laid Edge
settled_page settings bytes = settled (start settings) (whole_lines settings.encoding bytes)

-- what bytes settle after those before them: the lines that they make whole; and the rest of a page that ends after bytes
abbrev pub settled_by : PageSettings → (before own : List ℕ) → Laid Edge
settled_by settings before own = settled (settled_page settings before).edge (lines_made settings.encoding before own)

abbrev pub page_rest : PageSettings → List ℕ → Laid Edge
page_rest settings bytes = page (settled_page settings bytes).edge (line_left settings.encoding bytes)

-- to the sinks came all of the page that these bytes make, and with it its worst level and its counts
pub record Whole (came : Laid Edge → Type 0) (settings : PageSettings) (bytes : List ℕ) (after : Option (List ℕ)) (outcome : Outcome) : Type 0 where
  pub gave : came (whole_page settings bytes)
  pub worst : outcome.worst ≡ (whole_page settings bytes).edge.worst
  pub source : outcome.counts.source ≡ length (lines settings.encoding bytes)
  pub counts : outcome.counts ≡ counts_of (whole_page settings bytes).edge.lines.roff
  pub good : IsGood settings
  pub all : IsAtEnd after

-- By its fault: nothing came, what the whole lines that were read settle, or a front of the page of these bytes. `came_whole` says that all that is laid
-- came to the sinks, `came_front` that a front of it did.
abbrev pub Stopped : (came_whole came_front : Laid Edge → Type 0) → PageSettings → List ℕ → Fault → Type 0
Stopped came_whole came_front settings bytes Memory = IsGood settings × (bytes ≡ []) × came_whole (nothing (start settings))
Stopped came_whole came_front settings bytes Read = IsGood settings × came_whole (settled_page settings bytes)
Stopped came_whole came_front settings bytes TooLong = IsGood settings × came_whole (settled_page settings (take (2 ^ 31 - 1) bytes))
Stopped came_whole came_front settings bytes WriteText = IsGood settings × came_front (whole_page settings bytes)
Stopped came_whole came_front settings bytes WriteNotes = IsGood settings × came_front (whole_page settings bytes)
Stopped came_whole came_front settings bytes (Settings fault) =
    IsFirst settings fault × (bytes ≡ []) × came_whole (nothing (start settings))
Stopped came_whole came_front settings bytes _ = ⊥

abbrev pub Runs : {R N : Type 0} → Result Outcome Fault → Streams R N → R → R → N → N
    → PageSettings → List ℕ → Option (List ℕ) → Type 0
Runs result streams rows_before rows_after notes_before notes_after settings bytes after =
    let came : Laid Edge → Type 0 = λ laid. AllCame streams rows_before rows_after notes_before notes_after laid in
    let front : Laid Edge → Type 0 = λ laid. FrontCame streams rows_before rows_after notes_before notes_after laid in
    MatchResult result (λ outcome. Whole came settings bytes after outcome) (λ fault. Stopped came front settings bytes fault)

-- ---- the causes of faults

-- What a sink failed in, after what the bytes before had settled: the line that these bytes made whole; or, where no byte was left, the page's end.
abbrev pub BrokeIn : {R N : Type 0} → Streams R N → R → R → N → N → PageSettings → (before own left : List ℕ) → Type 0
BrokeIn streams rows_before rows_after notes_before notes_after settings before own left =
    let front : Laid Edge → Type 0 = λ laid. FrontCame streams rows_before rows_after notes_before notes_after laid in
    ((length (lines_made settings.encoding before own) ≤ 1) × front (settled_by settings before own))
    ⊎ ((own ≡ []) × (left ≡ []) × front (page_rest settings before))

-- a sink failed: what the bytes before a line settle came whole, then came a front of that line, and nothing
-- of the bytes that are left; no more was read than the chunk with the line's last byte, at most 2^14 bytes
pub record Broken {R N : Type 0} (sinks : Sinks R N) (rows_before rows_after : R) (notes_before notes_after : N)
    (settings : PageSettings) (bytes : List ℕ) (fault : Fault) : Type 0 where
  pub before : List ℕ
  pub own : List ℕ
  pub left : List ℕ
  pub parts : bytes ≡ before ++ (own ++ left)
  pub recent : length (own ++ left) ≤ 2 ^ 14
  pub rows : R
  pub notes : N
  pub whole : AllCame sinks.to rows_before rows notes_before notes (settled_page settings before)
  pub front : BrokeIn sinks.to rows rows_after notes notes_after settings before own left
  pub cause : IsSinkFault fault (sinks.rows_failed rows_before) (sinks.rows_failed rows_after)
      (sinks.notes_failed notes_before) (sinks.notes_failed notes_after)

-- Why a run over a source stopped, by its fault: it was refused and nothing was touched, a read failed, there was too much, or a sink failed.
abbrev pub StoppedBy : (untouched rose too_long : Type 0) → (broken : Fault → Type 0) → Fault → Type 0
StoppedBy untouched rose too_long broken Read = rose
StoppedBy untouched rose too_long broken TooLong = too_long
StoppedBy untouched rose too_long broken WriteText = broken WriteText
StoppedBy untouched rose too_long broken WriteNotes = broken WriteNotes
StoppedBy untouched rose too_long broken Memory = untouched
StoppedBy untouched rose too_long broken (Settings fault) = untouched
StoppedBy untouched rose too_long broken _ = ⊥

-- a run over a source: by this number of calls, at most 2^32 - 1, it gave these bytes; but for one of them, each gave a byte or was empty; and where it
-- ended well, nothing failed
pub record RunsOver {R N : Type 0} (result : Result Outcome Fault) (sinks : Sinks R N)
    (source_before source_after : SourceState) (rows_before rows_after : R) (notes_before notes_after : N)
    (settings : PageSettings) (bytes : List ℕ) : Type 0 where
  pub asked : ℕ
  pub few : asked ≤ 2 ^ 32 - 1
  pub source : HasGiven source_before source_after asked bytes
  pub lean : IsLean source_before source_after asked bytes
  pub runs : Runs result sinks.to rows_before rows_after notes_before notes_after settings bytes source_after.remaining
  pub cause : MatchResult result
      (λ _. (source_after.failed ≡ source_before.failed) × (sinks.rows_failed rows_after ≡ sinks.rows_failed rows_before)
      × (sinks.notes_failed notes_after ≡ sinks.notes_failed notes_before))
      (λ fault. StoppedBy ((source_after ≡ source_before) × (rows_after ≡ rows_before) × (notes_after ≡ notes_before))
      (Rose source_before.failed source_after.failed) (IsTooLong asked bytes)
      (λ broke. Broken sinks rows_before rows_after notes_before notes_after settings bytes broke) fault)
