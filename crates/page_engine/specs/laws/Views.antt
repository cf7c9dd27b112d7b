-- What contracts of the code say by the definitions, and what is proved of these.
use Rattle.std.proofs.Common.{◌∙◌}
use Rattle.std.proofs.lemmas.List.Elements.{filter-append}
use Rattle.std.specs.Prelude.{◌≡◌, true, Bool, List, ◌++◌, refl, false, [], Option, None, unwrap_or, ◌∷◌, ℕ, ◌<◌, ◌-◌, ◌^◌, length, take, Some, Result, MatchResult}
use Rattle.page_core_base.specs.Messages.{Message, level_of, IsSinkFault}
use Rattle.page_core_base.specs.Rows.{LaidRow, Laid, nothing}
use Rattle.page_core_base.specs.Settings.{IsGood, IsFirst}
use Rattle.page_core_base.specs.laws.Views.{IsSink}
use Rattle.page_core_base.specs.declared.faults.Fault.{Fault}
use Rattle.page_core_base.specs.declared.faults.Fault.TheVariants.{Memory, WriteText, WriteNotes, TooLong, Settings}
use Rattle.page_core_base.specs.declared.note_kinds.Level.{Level}
use Rattle.page_core_base.specs.declared.page_settings.Settings.{Settings as PageSettings}
use Rattle.page_roff_lines.specs.Lines.{Line}
use Rattle.page_roff_source.specs.Runs.{counts_of, SourceLine}
use Rattle.page_roff_source.specs.declared.counts.Counts.{Counts}
use Rattle.page_fill_rows.specs.laws.Views.{IsHeld}
use Rattle.page_fill.specs.laws.Views.{is_sound}
use Rattle.page_engine_header.specs.declared.headers.Measure.{Measure}
use Rattle.page_engine_lines.specs.Acts.{raw_line}
use Rattle.page_engine_lines.specs.Bodies.{indent_of}
use Rattle.page_engine.specs.Edges.{Edge, start}
use Rattle.page_engine.specs.Page.{shown_rows, is_reported_level, reported, worse, worst_of}
use Rattle.page_engine.specs.Runs.{AllCame, Sinks, FrontCame, whole_page, settled_page, Whole, Streams}
use Rattle.page_engine.specs.declared.runs.Outcome.{Outcome}

-- source lines, lines taken of them, and interpolations
abbrev pub counts_at : Edge → Counts
counts_at e = counts_of e.lines.roff

-- the measure of rows: the width and the output of the filler, and the indent of the settings, else that of the set of macros
abbrev pub measure_of : Edge → Measure
measure_of e =
    record { width = e.fill.sheet.width; indent = indent_of e.lines.body.header.indent e.lines.body.header.set; output = e.fill.output }

-- what roff, the body and the filler hold alike: the number of the last line, 0 where none came; the output, the width of rows, and the indent
pub record Agrees (e : Edge) : Type 0 where
  pub number : e.lines.roff.memory.number ≡ unwrap_or e.last 0
  pub output : e.lines.roff.output ≡ e.fill.output
  pub measure : e.lines.body.header.measure ≡ measure_of e
  pub scopes_indent : e.lines.body.scopes.state.page.indent ≡ (measure_of e).indent
  pub scopes_output : e.lines.body.scopes.state.page.output ≡ e.fill.output

-- what holds at each edge that a page comes to: its layers agree; the open row and the open word hold together, and nothing of a line is still to come
pub record IsReached (e : Edge) : Type 0 where
  pub agrees : Agrees e
  pub row : IsHeld e.fill.sheet
  pub word : is_sound e.fill.word ≡ true
  pub line : e.lines.roff.to_come ≡ None

pub shown_rows-append : (silent : Bool) (xs ys : List LaidRow)
    → shown_rows silent (xs ++ ys) ≡ shown_rows silent xs ++ shown_rows silent ys
unfolding shown_rows
shown_rows-append false xs ys = refl
shown_rows-append true xs ys = refl

pub shown_rows-nil : (silent : Bool) → shown_rows silent [] ≡ []
unfolding shown_rows
shown_rows-nil false = refl
shown_rows-nil true = refl

abbrev pub ShownGave : {S R : Type 0} → (R → List LaidRow → R → Type 0) → (S → R) → (S → Bool) → S
    → List LaidRow → S → Type 0
ShownGave rg below silent s xs t = rg (below s) (shown_rows (silent s) xs) (below t) × (silent t ≡ silent s)

abbrev pub ShownWithin : {S R : Type 0} → (R → List LaidRow → R → Type 0) → (S → R) → (S → Bool) → S
    → List LaidRow → S → Type 0
ShownWithin rw_ below silent s xs t = rw_ (below s) (shown_rows (silent s) xs) (below t)

pub shown-sink : {S R : Type 0} (rg rw_ : R → List LaidRow → R → Type 0) → IsSink rg rw_ → (below : S
    → R) (silent : S → Bool)
    → IsSink (ShownGave rg below silent) (ShownWithin rw_ below silent)
shown-sink rg rw_ k below silent = record {
  none = λ s. (rw shown_rows-nil (k.none (below s)), refl);
  more = λ s t u xs ys g h. (
    rw shown_rows-append
        (k.more (below s) (below t) (below u) (shown_rows (silent s) xs) (shown_rows (silent s) ys)
        g.0 (rw g.1 at h.0)),
    h.1 ∙ g.1,
  );
  after = λ s t u xs ys g h.
      rw shown_rows-append
      (k.after (below s) (below t) (below u) (shown_rows (silent s) xs) (shown_rows (silent s) ys)
      g.0 (rw g.1 at h));
  before = λ s t xs ys h.
      rw shown_rows-append
      (k.before (below s) (below t) (shown_rows (silent s) xs) (shown_rows (silent s) ys) h);
}

pub shown-whole : {S R : Type 0} (rg rw_ : R → List LaidRow → R → Type 0) → ((s t : R) (xs : List LaidRow)
    → rg s xs t → rw_ s xs t)
    → (below : S → R) (silent : S → Bool) (s t : S) (xs : List LaidRow) → ShownGave rg below silent s xs t
    → ShownWithin rw_ below silent s xs t
shown-whole rg rw_ whole below silent s t xs g = whole (below s) (below t) (shown_rows (silent s) xs) g.0

pub reported-append : (least : Option Level) (xs ys : List Message)
    → reported least (xs ++ ys) ≡ reported least xs ++ reported least ys
unfolding reported
reported-append least xs ys = filter-append (λ (m : Message). is_reported_level least (level_of m.kind)) xs ys

pub worst_of-append : (worst : Option Level) (xs ys : List Message)
    → worst_of worst (xs ++ ys) ≡ worst_of (worst_of worst xs) ys
unfolding worst_of
worst_of-append worst [] ys = refl
worst_of-append worst (x ∷ xs) ys = worst_of-append (worse worst (level_of x.kind)) xs ys

-- a filter and the sink below it: what came through, and the worst level
abbrev pub FilterGave : {S N : Type 0} → (N → List Message → N → Type 0) → (S → N) → (S → Option Level)
    → (S → Option Level) → S → List Message → S → Type 0
FilterGave ng below least worst s xs t =
    ng (below s) (reported (least s) xs) (below t) × (least t ≡ least s)
    × (worst t ≡ worst_of (worst s) (reported (least s) xs))

abbrev pub FilterWithin : {S N : Type 0} → (N → List Message → N → Type 0) → (S → N) → (S → Option Level)
    → S → List Message → S → Type 0
FilterWithin nw below least s xs t = nw (below s) (reported (least s) xs) (below t)

-- such a filter is a sink
pub filter-sink : {S N : Type 0} (ng nw : N → List Message → N → Type 0) → IsSink ng nw → (below : S
    → N) (least worst : S → Option Level)
    → IsSink (FilterGave ng below least worst) (FilterWithin nw below least)
unfolding reported worst_of
filter-sink ng nw k below least worst = record {
  none = λ s. (k.none (below s), refl, refl);
  more = λ s t u xs ys g h. (
    rw reported-append
        (k.more (below s) (below t) (below u) (reported (least s) xs) (reported (least s) ys) g.0 (rw g.1 at h.0)),
    h.1 ∙ g.1,
    rw (reported-append, worst_of-append) (rw (g.1, g.2) at h.2),
  );
  after = λ s t u xs ys g h.
      rw reported-append
      (k.after (below s) (below t) (below u) (reported (least s) xs) (reported (least s) ys) g.0 (rw g.1 at h));
  before = λ s t xs ys h.
      rw reported-append (k.before (below s) (below t) (reported (least s) xs) (reported (least s) ys) h);
}

pub filter-whole : {S N : Type 0} (ng nw : N → List Message → N → Type 0) → ((s t : N) (xs : List Message)
    → ng s xs t → nw s xs t)
    → (below : S → N) (least worst : S → Option Level) (s t : S) (xs : List Message)
    → FilterGave ng below least worst s xs t → FilterWithin nw below least s xs t
filter-whole ng nw whole below least worst s t xs g = whole (below s) (below t) (reported (least s) xs) g.0

-- a line as roff takes it
abbrev pub raw : Line → SourceLine
raw line = raw_line line.number line.text line.notes

-- a line without a message of its cutting
abbrev pub text_line : List ℕ → ℕ → Line
text_line text number = record { number = number; text = text; notes = [] }

-- sinks by what came to each, and by their failures
abbrev pub sinks : {R N : Type 0} → (R → List LaidRow → R → Type 0) → (R → List LaidRow → R → Type 0)
    → (R → ℕ) → (N → List Message → N → Type 0) → (N → List Message → N → Type 0) → (N → ℕ) → Sinks R N
sinks row_gave row_within rows_failed note_gave note_within notes_failed = record {
  to = record { row_gave = row_gave; row_within = row_within; note_gave = note_gave; note_within = note_within };
  rows_failed = rows_failed;
  notes_failed = notes_failed;
}

-- all that is laid came, and no sink failed
pub record Came {R N E : Type 0} (sinks : Sinks R N) (rows_before rows_after : R) (notes_before notes_after : N)
    (laid : Laid E) : Type 0 where
  pub gave : AllCame sinks.to rows_before rows_after notes_before notes_after laid
  pub rows_quiet : sinks.rows_failed rows_after ≡ sinks.rows_failed rows_before
  pub notes_quiet : sinks.notes_failed notes_after ≡ sinks.notes_failed notes_before

-- a front of it came, and a sink failed
pub record Front {R N E : Type 0} (sinks : Sinks R N) (rows_before rows_after : R) (notes_before notes_after : N)
    (laid : Laid E) (fault : Fault) : Type 0 where
  pub gave : FrontCame sinks.to rows_before rows_after notes_before notes_after laid
  pub cause : IsSinkFault fault (sinks.rows_failed rows_before) (sinks.rows_failed rows_after)
      (sinks.notes_failed notes_before) (sinks.notes_failed notes_after)

-- no sink failed, and neither count of failures is at its end
pub record AreWell {R N : Type 0} (sinks : Sinks R N) (rows_before rows_after : R) (notes_before notes_after : N) : Type 0 where
  pub rows : sinks.rows_failed rows_after ≡ sinks.rows_failed rows_before
  pub rows_room : sinks.rows_failed rows_before < 2 ^ 64 - 1
  pub notes : sinks.notes_failed notes_after ≡ sinks.notes_failed notes_before
  pub notes_room : sinks.notes_failed notes_before < 2 ^ 64 - 1

-- ---- a run over bytes in memory

-- a front of the page came that a front of the bytes makes
pub record Began (came_front : Laid Edge → Type 0) (settings : PageSettings) (bytes : List ℕ) : Type 0 where
  pub read : List ℕ
  pub left : List ℕ
  pub parts : bytes ≡ read ++ left
  pub front : came_front (whole_page settings read)

-- by its fault: no read fails, and a page is too long by its bytes alone
abbrev pub StoppedIn : (came_whole came_front : Laid Edge → Type 0) → PageSettings → List ℕ → Fault → Type 0
StoppedIn came_whole came_front settings bytes Memory = IsGood settings × came_whole (nothing (start settings))
StoppedIn came_whole came_front settings bytes TooLong =
    IsGood settings × (2 ^ 31 - 1 < length bytes) × came_whole (settled_page settings (take (2 ^ 31 - 1) bytes))
StoppedIn came_whole came_front settings bytes WriteText = IsGood settings × Began came_front settings bytes
StoppedIn came_whole came_front settings bytes WriteNotes = IsGood settings × Began came_front settings bytes
StoppedIn came_whole came_front settings bytes (Settings fault) = IsFirst settings fault × came_whole (nothing (start settings))
StoppedIn came_whole came_front settings bytes _ = ⊥

abbrev pub RunsIn : {R N : Type 0} → Result Outcome Fault → Streams R N → R → R → N → N
    → PageSettings → List ℕ → Type 0
RunsIn result streams rows_before rows_after notes_before notes_after settings bytes = MatchResult result
    (λ outcome. Whole (λ laid. AllCame streams rows_before rows_after notes_before notes_after laid) settings bytes (Some []) outcome)
    (λ fault. StoppedIn
    (λ (laid : Laid Edge). AllCame streams rows_before rows_after notes_before notes_after laid)
    (λ (laid : Laid Edge). FrontCame streams rows_before rows_after notes_before notes_after laid)
    settings bytes fault)
