-- A page whose bytes come in pieces: what a piece settles, what the end gives, and what holds before each read of a run.
use Rattle.std.specs.Prelude.{◌≡◌, ◌≤◌, ℕ, List, ◌++◌, length, ◌⊎◌, Result, MatchResult}
use Rattle.page_core_base.specs.declared.faults.Fault.{Fault}
use Rattle.page_core_base.specs.declared.page_settings.Settings.{Settings as PageSettings}
use Rattle.page_core_streams.specs.Streams.{SourceState}
use Rattle.page_core_streams.specs.declared.chunks.Chunks.{Chunks}
use Rattle.page_core_streams.specs.laws.Views.{AreRead}
use Rattle.page_roff_lines.specs.Lines.{lines_made}
use Rattle.page_roff_lines.specs.laws.Cutting.{Point, IsAfter}
use Rattle.page_engine.specs.Runs.{Streams, Sinks, AllCame, whole_page, settled_page, settled_by, page_rest}
use Rattle.page_engine.specs.laws.States.{PageState, IsOpenAt, IsEndedAt}
use Rattle.page_engine.specs.laws.Views.{Came, Front}
use Rattle.page_engine.specs.declared.pages.Phase.{Phase}
use Rattle.page_engine.specs.declared.pages.Phase.TheVariants.{Open, Failed, Ended}

-- a run as contracts see it: whether it takes bytes, its page, and the point between two bytes
pub record RunState : Type 0 where
  pub phase : Phase
  pub page : PageState
  pub point : Point

-- it takes bytes, and these are all so far: the page is at the edge that their whole lines leave, and what is left of them waits as the open line
pub record HasTaken (run : RunState) (settings : PageSettings) (bytes : List ℕ) : Type 0 where
  pub phase : run.phase ≡ Open
  pub page : IsOpenAt run.page (settled_page settings bytes).edge
  pub point : IsAfter run.point settings.encoding bytes

-- ---- a piece, and the end

-- all that a piece settles came, and it is taken
pub record Fed {R N : Type 0} (sinks : Sinks R N) (rows_before rows_after : R) (notes_before notes_after : N)
    (settings : PageSettings) (bytes piece : List ℕ) (run : RunState) : Type 0 where
  pub came : Came sinks rows_before rows_after notes_before notes_after (settled_by settings bytes piece)
  pub taken : HasTaken run settings (bytes ++ piece)

-- a sink failed at a line of a piece: what the bytes before that line settle came whole, then a front of it, and nothing of the bytes that are left
pub record BrokeAt {R N : Type 0} (sinks : Sinks R N) (rows_before rows_after : R) (notes_before notes_after : N)
    (settings : PageSettings) (bytes piece : List ℕ) (fault : Fault) : Type 0 where
  pub before : List ℕ
  pub own : List ℕ
  pub left : List ℕ
  pub parts : piece ≡ before ++ (own ++ left)
  pub rows : R
  pub notes : N
  pub whole : Came sinks rows_before rows notes_before notes (settled_by settings bytes before)
  pub one : length (lines_made settings.encoding (bytes ++ before) own) ≤ 1
  pub front : Front sinks rows rows_after notes notes_after (settled_by settings (bytes ++ before) own) fault

abbrev pub Feeds : {R N : Type 0} → Result (Unit {0}) Fault → Sinks R N → R → R → N → N → PageSettings → (bytes piece : List ℕ) → RunState → Type 0
Feeds result sinks rows_before rows_after notes_before notes_after settings bytes piece run = MatchResult result
    (λ _. Fed sinks rows_before rows_after notes_before notes_after settings bytes piece run)
    (λ fault. BrokeAt sinks rows_before rows_after notes_before notes_after settings bytes piece fault × (run.phase ≡ Failed))

-- the rest of the page came, and the run ended with the page's worst level and counts; or a front of the rest came
abbrev pub Closes : {R N : Type 0} → Result (Unit {0}) Fault → Sinks R N → R → R → N → N → PageSettings → List ℕ → RunState → Type 0
Closes result sinks rows_before rows_after notes_before notes_after settings bytes run = MatchResult result
    (λ _. Came sinks rows_before rows_after notes_before notes_after (page_rest settings bytes)
    × (run.phase ≡ Ended) × IsEndedAt run.page (whole_page settings bytes).edge)
    (λ fault. Front sinks rows_before rows_after notes_before notes_after (page_rest settings bytes) fault × (run.phase ≡ Failed))

-- ---- a read

-- nothing came, or nothing waits to be put out
abbrev pub IsOut : {R N : Type 0} → (rows_out : R → Type 0) → (notes_out : N → Type 0) → (rows_before rows_after : R) → (notes_before notes_after : N) → Type 0
IsOut rows_out notes_out rows_before rows_after notes_before notes_after =
    ((rows_after ≡ rows_before) × (notes_after ≡ notes_before)) ⊎ (rows_out rows_after × notes_out notes_after)

-- the source gave these bytes, and no other; they were taken, all that they settle came to the sinks, and nothing of it waits
pub record MayRead {R N : Type 0} (streams : Streams R N) (rows_out : R → Type 0) (notes_out : N → Type 0)
    (run : RunState) (chunks : Chunks) (source_now : SourceState) (rows_now : R) (notes_now : N) : Type 0 where
  pub settings : PageSettings
  pub bytes : List ℕ
  pub source : SourceState
  pub rows : R
  pub notes : N
  pub read : AreRead source source_now chunks bytes
  pub taken : HasTaken run settings bytes
  pub came : AllCame streams rows rows_now notes notes_now (settled_page settings bytes)
  pub out : IsOut rows_out notes_out rows rows_now notes notes_now
