-- A set without macros: each line is shown as it is.
use Rattle.std.specs.Prelude.{ℕ, ◌+◌, ◌*◌, ◌≤◌, false, List, [], ◌∷◌, length}
use Rattle.std.proofs.Common.{arith}
use Rattle.page_sets_lines.specs.declared.events.EventKind.TheVariants.{Raw}
use Rattle.page_sets_lines.specs.declared.events.Event.{Event}
use Rattle.page_core_base.specs.Texts.{TakenLine}
use Rattle.page_sets_lines.specs.laws.Sets.{AreSlices, AreInOrder}
use Rattle.page_sets_lines.specs.Lines.{event_at, line_end, line_start}
use Rattle.page_sets_lines.proofs.ArgumentLaws.{whole_part}
use Rattle.page_scopes_cases.specs.declared.verbatim.Stage.{Stage}
use Rattle.page_scopes_cases.specs.declared.verbatim.Stage.TheVariants.{Start, Shown, Ended}

abbrev pub verbatim_events : TakenLine → List (Event (List ℕ))
verbatim_events line = event_at (line_start line.number) (Raw line.text) ∷ line_end line.number false ∷ []

abbrev pub events_from : TakenLine → Stage → List (Event (List ℕ))
events_from line Start = verbatim_events line
events_from line Shown = line_end line.number false ∷ []
events_from line Ended = []

pub verbatim_slices : (line : TakenLine) → AreSlices line.text (verbatim_events line)
verbatim_slices line = (whole_part line.text, (tt, tt))

pub stage_slices : (line : TakenLine) (stage : Stage) → AreSlices line.text (events_from line stage)
stage_slices line Start = verbatim_slices line
stage_slices line Shown = (tt, tt)
stage_slices line Ended = tt

pub verbatim_in_order : (line : TakenLine) → AreInOrder 0 (verbatim_events line)
verbatim_in_order line = (tt, (tt, tt))

pub verbatim_few : (line : TakenLine) → length (verbatim_events line) ≤ 2 * length line.text + 2
verbatim_few line = omega arith
