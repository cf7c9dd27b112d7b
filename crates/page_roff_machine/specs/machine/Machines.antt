-- A source line that is taken at once, as the code does it. Trust needs no reading of it. Source: roff(7), "LANGUAGE SYNTAX" and "MACRO SYNTAX".
use Rattle.std.specs.Prelude.{◌≡◌, ℕ, true, false, List, [], None, ◌≤◌, length, Bool, ◌∷◌, Option, Some}
use Rattle.page_core_base.specs.Texts.{TakenLine}
use Rattle.page_core_base.specs.laws.Views.{line_view, Came}
use Rattle.page_roff_blocks.specs.machine.Languages.{begun, Budget, budgeted, first_budget, budget_at, Language, run_page, Budgeted, language}
use Rattle.page_roff_effects.specs.declared.at_once.AtOnce.{AtOnce}
use Rattle.page_roff_effects.specs.declared.at_once.AtOnce.TheVariants as ways
use Rattle.page_roff_effects.specs.machine.Acting.{IsCalled, IsTaken, with_number, measured, Acting, acting_effects}
use Rattle.page_roff_effects.specs.Lines.{leaf_outcome}
use Rattle.page_roff_effects.specs.States.{numbered, Memory, Given, takes}
use Rattle.page_roff_stack.specs.machine.Stacks.{is_page, page_passed, Stack, first_stack, stack_at, running, next_of, is_nothing}
use Rattle.page_roff_machine.specs.declared.runners.Runner.{Runner}
use Rattle.page_roff_machine.specs.machine.Moving.{called}
use Rattle.page_core_base.specs.declared.lines_taken.Taken.{Taken}
use Rattle.page_core_base.specs.Messages.{Message}
use Rattle.page_core_base.specs.declared.page_settings.Output.{Output}
use Rattle.page_roff_blocks.specs.Forest.{SourcePlace}
use Rattle.page_roff_blocks.specs.machine.Steps.{At}
use Rattle.page_core_base.specs.Limits.{LINE, REREAD}
use Rattle.page_roff_blocks.specs.machine.Machine.{Running, rest_of}
use Rattle.page_roff_effects.specs.machine.Acting as acting
use Rattle.page_roff_effects.specs.Regions.{finish_outcome}
use Rattle.page_roff_effects.specs.laws.Views.{State}
use Rattle.page_roff_machine.specs.Giving.{notes_before, next_line, after_line}

-- the page is the innermost source, outside of regions, loops and skipped blocks
pub record IsOutside (s : Stack) : Type 0 where
  pub page : is_page s.top.kind ≡ true
  pub region : s.top.region ≡ None
  pub loop : s.top.cursor.levels.in_loop ≡ false
  pub skipped : s.top.cursor.levels.skipped ≡ 0

-- a line was taken at once, as this one: the stack stays
pub record TakesAtOnce (taken : TakenLine) (line : List ℕ) (number : ℕ) (old new : Runner) : Type 0 where
  pub outside : IsOutside old.stack
  pub stack : new.stack ≡ old.stack
  pub budget : new.doing.budget ≡ begun old.doing.budget
  pub actions : let a = with_number number old.doing.actions in
      IsTaken a line (λ may_call. leaf_outcome (measured a.setting) may_call line a.memory) taken new.doing.actions

-- the page went past a line that is one part
abbrev pub page_after : Runner → Runner
page_after r = record { stack = record { top = page_passed r.stack.top; under = []; texts = [] }; doing = r.doing }

-- a macro was called at once, and is entered
pub record CallsAtOnce (line : List ℕ) (number : ℕ) (old new : Runner) : Type 0 where
  pub outside : IsOutside old.stack
  pub before : Runner
  pub stack : before.stack ≡ old.stack
  pub budget : before.doing.budget ≡ begun old.doing.budget
  pub call : let a = with_number number old.doing.actions in
      IsCalled a line (λ may_call. leaf_outcome (measured a.setting) may_call line a.memory) before.doing.actions
  pub enters : new ≡ called (page_after before)

-- nothing was done; the actions may know the number of the line
pub record Keeps (number : ℕ) (old new : Runner) : Type 0 where
  pub stack : new.stack ≡ old.stack
  pub budget : new.doing.budget ≡ old.doing.budget
  pub setting : new.doing.actions.setting ≡ old.doing.actions.setting
  pub memory : numbered number new.doing.actions.memory ≡ numbered number old.doing.actions.memory

abbrev pub TakesAtOnceIf : AtOnce → List ℕ → ℕ → Runner → Runner → Type 0
TakesAtOnceIf ways.Nothing line number old new = Keeps number old new
TakesAtOnceIf (ways.Line taken) line number old new = TakesAtOnce (line_view taken) line number old new
TakesAtOnceIf ways.Call line number old new = CallsAtOnce line number old new

-- ---- The machine that runs a source line, as the code makes its steps: what is still to come of the line. Trust needs no reading of it.
-- Source: roff(7), "LANGUAGE SYNTAX"; mandoc(1), "DIAGNOSTICS".

-- the sources that run, what their parts do with what is remembered, and the budget of the source line
pub record Machine : Type 0 where
  pub stack : Stack
  pub actions : Acting
  pub budget : Budget

abbrev pub output_of : Machine → Output
output_of m = m.actions.setting.output

abbrev pub language_of : Machine → Language (Budgeted State)
language_of m = language (acting_effects (output_of m))

-- as the definitions see it, where this was given before
abbrev pub running_of : List Given → Machine → Running (Budgeted State)
running_of given m = running m.stack (budgeted m.budget (record { memory = m.actions.memory; out = given }))

-- ---- what is to come

-- all that is still to come of the source line, and where it leaves the page
unfoldable pub outcome_of : Machine → At (Budgeted State)
outcome_of m = rest_of (language_of m) (running_of [] m)

abbrev pub to_come : Machine → List Given
to_come m = (outcome_of m).state.rest.out

-- without what is given
abbrev pub hushed : At (Budgeted State) → At (Budgeted State)
hushed a = record {
  place = a.place;
  state = record {
    left = a.state.left;
    gave_up = a.state.gave_up;
    taken = a.state.taken;
    rest = record { memory = a.state.rest.memory; out = [] };
  };
}

abbrev pub end_of : Machine → At (Budgeted State)
end_of m = hushed (outcome_of m)

-- the source line is done, or none came
abbrev pub is_idle : Machine → Bool
is_idle m = is_nothing (next_of m.stack)

-- where the page is between two lines, and the state there
abbrev pub place_of : Machine → SourcePlace
place_of m = record { region = m.stack.top.region; levels = m.stack.top.cursor.levels }

abbrev pub stands : Machine → At (Budgeted State)
stands m = record { place = place_of m; state = (running_of [] m).state }

-- ---- a source line

-- a source line begins, with a budget of its own
abbrev pub begun_at : ℕ → Machine → At (Budgeted State)
begun_at number m = record {
  place = place_of m;
  state = record {
    left = REREAD;
    gave_up = false;
    taken = m.budget.taken;
    rest = record { memory = numbered number m.actions.memory; out = [] };
  };
}

-- all of a line of the page is to come
pub record Begins (line : List ℕ) (number : ℕ) (old new : Machine) : Type 0 where
  pub output : output_of new ≡ output_of old
  pub outcome : outcome_of new ≡ run_page (language_of old) (line ∷ []) (begun_at number old)

-- where the machine is, and what was given
abbrev pub stands_after : List Given → Machine → At (Budgeted State)
stands_after given m = record { place = place_of m; state = (running_of given m).state }

-- all of a line of the page was taken at once, as this line: that is all that it gives, and it is done
pub record Takes (taken : TakenLine) (line : List ℕ) (number : ℕ) (old new : Machine) : Type 0 where
  pub output : output_of new ≡ output_of old
  pub idle : is_idle new ≡ true
  pub short : length taken.text ≤ LINE
  pub outcome : stands_after (takes taken ∷ []) new ≡ run_page (language_of old) (line ∷ []) (begun_at number old)

abbrev pub BeginsOrTakes : Option Taken → List ℕ → ℕ → Machine → Machine → Type 0
BeginsOrTakes (Some taken) line number old new = Takes (line_view taken) line number old new
BeginsOrTakes None line number old new = Begins line number old new

-- ---- running on

abbrev pub taken_if : Bool → TakenLine → Option TakenLine
taken_if true line = Some line
taken_if false line = None

abbrev pub IsIdleUnless : Bool → Machine → Type 0
IsIdleUnless true m = Unit {0}
IsIdleUnless false m = is_idle m ≡ true

-- It ran on: the messages before the next line came, and that line was taken, if there is one; what comes after it is still to come, and
-- leads to the same end. Where there is none, the source line is done.
pub record Advances {P S : Type 0} (left : P → S → List Message → Type 0) (old : Machine) (out : S)
    (result : Bool) (new : Machine) (out_new : S) : Type 0 where
  pub output : output_of new ≡ output_of old
  pub came : Came left out (notes_before (to_come old)) out_new
  pub line : next_line (to_come old) ≡ taken_if result new.actions.line
  pub rest : to_come new ≡ after_line (to_come old)
  pub ends : end_of new ≡ end_of old
  pub idle : IsIdleUnless result new

-- ---- before the first line, and after the last one

pub record IsNew (output : Output) (m : Machine) : Type 0 where
  pub stack : m.stack ≡ first_stack
  pub actions : acting.IsNew output m.actions
  pub budget : m.budget ≡ first_budget

-- between two lines of a page, where it is so, with what is remembered and the number of lines that were taken
pub record Resumes (output : Output) (place : SourcePlace) (memory : Memory) (taken : ℕ) (m : Machine) : Type 0 where
  pub stack : m.stack ≡ stack_at place
  pub actions : acting.Remembers output memory m.actions
  pub budget : m.budget ≡ budget_at taken

-- the page ends: a region or a loop that is open is dropped with a message
abbrev pub end_notes : Machine → List Message
end_notes m = (finish_outcome m.stack.top.region m.stack.top.cursor.levels.in_loop false m.actions.memory).notes

abbrev pub end_memory : Machine → Memory
end_memory m = (finish_outcome m.stack.top.region m.stack.top.cursor.levels.in_loop false m.actions.memory).memory
