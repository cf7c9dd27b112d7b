-- Steps of the machine, one after another: the code's own form of them. Trust needs no reading of it.
use Rattle.std.specs.Prelude.{◌≡◌, ◌≤◌, ◌^◌, ◌⊎◌, true, List, [], ◌++◌, map}
use Rattle.page_core_base.specs.Messages.{Message}
use Rattle.page_core_base.specs.laws.Views.{Came}
use Rattle.page_roff_blocks.specs.machine.Machine.{next, HasMeasure, IsFirst}
use Rattle.page_roff_blocks.specs.machine.Languages.{language}
use Rattle.page_roff_effects.specs.machine.Acting.{acting_effects}
use Rattle.page_roff_effects.specs.States.{says}
use Rattle.page_roff_stack.specs.machine.Stacks.{running, next_of, is_nothing}
use Rattle.page_roff_machine.specs.declared.acts.Progress.{Progress}
use Rattle.page_roff_machine.specs.declared.runners.Runner.{Runner}
use Rattle.page_roff_machine.specs.Giving.{notes_before, next_line, after_line}
use Rattle.page_roff_machine.specs.machine.Machines.{Machine, to_come, end_of}
use Rattle.page_roff_machine.specs.machine.Doing.{IsIn, output_of, state_in}
use Rattle.page_roff_machine.specs.machine.Moving.{reached_with, IsBodyWithin, AreKept, frames_of, IfDone}

abbrev pub machine_of : Runner → Machine
machine_of r = record { stack = r.stack; actions = r.doing.actions; budget = r.doing.budget }

-- before the first step of a page's line, or after it
abbrev pub IsUnderWay : Runner → Type 0
IsUnderWay r =
    let now = running r.stack (state_in [] r.doing) in
    (IsFirst now × (r.doing.budget.taken ≤ 2 ^ 62)) ⊎ HasMeasure now

-- after the first step, steps have a measure
pub record IsMeasured (r : Runner) : Type 0 where
  pub setting : IsIn r.stack.top.kind r.doing
  pub frames : AreKept (frames_of r.stack)
  pub way : HasMeasure (running r.stack (state_in [] r.doing))

-- the arguments are those of the innermost source
pub record IsSound (r : Runner) : Type 0 where
  pub setting : IsIn r.stack.top.kind r.doing
  pub frames : AreKept (frames_of r.stack)
  pub way : IsUnderWay r

-- One step was made: messages came, and perhaps a line was taken.
pub record Steps {P S : Type 0} (left : P → S → List Message → Type 0) (old : Runner) (out : S)
    (result : Progress) (new : Runner) (out_new : S) : Type 0 where
  pub output : output_of new.doing ≡ output_of old.doing
  pub setting : IsIn new.stack.top.kind new.doing
  pub notes : List Message
  pub came : Came left out notes out_new
  pub step : next (language (acting_effects (output_of old.doing))) (running old.stack (state_in [] old.doing))
      ≡ reached_with result (map says notes) new
  pub body : IsBodyWithin old.stack new.stack
  pub frames : AreKept (frames_of old.stack) → AreKept (frames_of new.stack)
  pub done : IfDone result ((new ≡ old) × (notes ≡ []) × (is_nothing (next_of old.stack) ≡ true))

-- Steps were made without a line: what is to come is the same but for the messages that came.
pub record Leads {P S : Type 0} (left : P → S → List Message → Type 0) (old : Machine) (out : S)
    (new : Machine) (out_new : S) : Type 0 where
  pub output : new.actions.setting.output ≡ old.actions.setting.output
  pub came : (plan : P) (more : List Message) → left plan out (notes_before (to_come old) ++ more)
      → left plan out_new (notes_before (to_come new) ++ more)
  pub line : next_line (to_come new) ≡ next_line (to_come old)
  pub rest : after_line (to_come new) ≡ after_line (to_come old)
  pub ends : end_of new ≡ end_of old
