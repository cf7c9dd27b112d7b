-- What is still to come: helpers of proofs.
use Rattle.std.proofs.Common.{arith, ◌≡◌, ℕ, ◌≤◌, ◌^◌, inl, inr, true, List, [], ◌∷◌, ◌++◌, map, Option, Some, None, refl, sym, ap, ◌∙◌}
use Rattle.std.proofs.lemmas.List.{append-nil}
use Rattle.page_core_base.specs.Messages.{Message}
use Rattle.page_core_base.specs.declared.page_settings.Output.{Output}
use Rattle.page_roff_blocks.specs.declared.line_parts.LinePart.{LinePart}
use Rattle.page_roff_blocks.specs.Forest.{SourcePlace}
use Rattle.page_roff_blocks.specs.laws.Views.{at_line}
use Rattle.page_roff_syntax.specs.Regions.{Opened}
use Rattle.page_roff_blocks.specs.machine.Steps.{Meaning, At}
use Rattle.page_roff_blocks.specs.machine.Languages.{Language, run_page, Budgeted, language, renewed}
use Rattle.page_roff_blocks.specs.machine.Machine.{Frame, at_page, rest_of, next, stands_at, over, HasMeasure, AreOnLine, IsOnLine, IsFirst}
use Rattle.page_roff_blocks.proofs.MachineLemmas.{rest_front, next_law, end_law, page_law}
use Rattle.page_roff_effects.specs.machine.Acting as acting
use Rattle.page_roff_effects.specs.machine.Acting.{Acting, with_number, with_arguments, acting_effects, measured, in_front}
use Rattle.page_roff_stack.specs.machine.Stacks.{page_line, Stack, first_stack, next_in, next_of, is_nothing, step_in, step_of}
use Rattle.page_roff_effects.specs.States.{Memory, Given, says}
use Rattle.page_roff_effects.specs.laws.Views.{State}
use Rattle.page_roff_values.specs.Values.{units_of}
use Rattle.page_roff_effects.proofs.CountLemmas.{is_front}
use Rattle.page_roff_stack.specs.declared.next.Next.{Next}
use Rattle.page_roff_stack.specs.declared.next.Next.TheVariants as things
use Rattle.page_roff_stack.proofs.InputStackLemmas.{next_steps}
use Rattle.page_roff_machine.specs.Giving.{notes_before, next_line, after_line}
use Rattle.page_roff_machine.specs.declared.runners.Runner.{Runner}
use Rattle.page_roff_machine.specs.machine.Machines.{Machine, output_of, language_of, running_of, outcome_of, is_idle, stands, begun_at, Begins, IsNew, Resumes}
use Rattle.page_roff_machine.specs.machine.Moving.{IsPassed}
use Rattle.page_roff_machine.specs.machine.Stepping.{machine_of, IsSound}

-- ---- after some messages

pub notes_after : (notes : List Message) (given : List Given) → notes_before (map says notes ++ given) ≡ notes ++ notes_before given
notes_after [] given = refl
notes_after (note ∷ notes) given = ap (λ more. note ∷ more) (notes_after notes given)

pub line_after : (notes : List Message) (given : List Given) → next_line (map says notes ++ given) ≡ next_line given
line_after [] given = refl
line_after (note ∷ notes) given = line_after notes given

pub rest_after : (notes : List Message) (given : List Given) → after_line (map says notes ++ given) ≡ after_line given
rest_after [] given = refl
rest_after (note ∷ notes) given = rest_after notes given

-- ---- one step

-- what a step gives is in front of what comes after it
pub outcome_step : (old new : Machine) (given : List Given) → output_of new ≡ output_of old
    → next (language_of old) (running_of [] old) ≡ Some (running_of given new)
    → outcome_of old ≡ over (in_front given) (outcome_of new)
unfolding outcome_of
outcome_step old new given eo e =
    let l = language_of old in
    next_law l (running_of [] old) (running_of given new) e
    ∙ ap (λ (before : List Given). rest_of l (running_of before new)) (sym (append-nil given))
    ∙ rest_front (in_front given) l (is_front (units_of (output_of old)) given) (running_of [] new)
    ∙ ap (λ (output : Output). over (in_front given) (rest_of (language (acting_effects output)) (running_of [] new))) (sym eo)

pub outcome_end : (m : Machine) → next (language_of m) (running_of [] m) ≡ None → outcome_of m ≡ stands m
unfolding outcome_of stands_at
outcome_end m e = end_law (language_of m) (running_of [] m) e

-- ---- where nothing is left

none_next : {S : Type 0} (l : Language S) (m : Meaning S) (x : Next (List ℕ) Opened) (parts : List (LinePart (List ℕ))) (lines : List (List ℕ)) (f : Frame) (under : List Frame) (s : S)
    → is_nothing x ≡ true → step_in l m x parts lines f under s ≡ None
unfolding step_in
none_next l m things.Nothing parts lines f under s e = refl
none_next l m _ parts lines f under s e = absurd (cc)

pub idle_stands : (m : Machine) → is_idle m ≡ true → outcome_of m ≡ stands m
unfolding step_of
idle_stands m e = grind (arith, outcome_end, next_steps, none_next)

pub new_idle : (output : Output) (m : Machine) → IsNew output m → is_idle m ≡ true
new_idle output m h = ap (λ stack. is_nothing (next_of stack)) h.stack

-- ---- a line of the page

pub outcome_line : (old new : Machine) (line : List ℕ) (at : At (Budgeted State)) → output_of new ≡ output_of old → running_of [] new ≡ at_page line at
    → outcome_of new ≡ run_page (language_of old) (line ∷ []) at
unfolding outcome_of
outcome_line old new line at eo e = grind (arith, page_law)

-- ---- the whole object

pub new_sound : (output : Output) (r : Runner) → r.stack ≡ first_stack → acting.IsNew output r.doing.actions → IsSound r
unfolding HasMeasure AreOnLine IsOnLine
new_sound output r e h = record {
  setting = rw (e, h.setting) refl;
  frames = rw e (record { turning = tt; region = λ h. tt }, tt);
  way = inr (λ k. (ap (λ (s : Stack). s.top.lines) e, ap (λ (s : Stack). s.top.turning) e), rw e tt);
}

-- a page that is between two lines
pub resumed_sound : (output : Output) (place : SourcePlace) (memory : Memory) (taken : ℕ) (r : Runner) → Resumes output place memory taken (machine_of r)
    → (place.levels.in_loop ≡ true → IsPassed place.region) → IsSound r
unfolding HasMeasure AreOnLine IsOnLine at_line
resumed_sound output place memory taken r h passed = record {
  setting = rw (h.stack, h.actions.setting) refl;
  frames = rw h.stack (record { turning = tt; region = passed }, tt);
  way = inr (λ k. (ap (λ (s : Stack). s.top.lines) h.stack, ap (λ (s : Stack). s.top.turning) h.stack), rw h.stack tt);
}

nothing_at : (region : Option Opened) → is_nothing (next_in None region [] [] []) ≡ true
nothing_at None = refl
nothing_at (Some o) = refl

pub resumed_idle : (output : Output) (place : SourcePlace) (memory : Memory) (taken : ℕ) (m : Machine) → Resumes output place memory taken m → is_idle m ≡ true
resumed_idle output place memory taken m h = ap (λ stack. is_nothing (next_of stack)) h.stack ∙ nothing_at place.region

pub begun_sound : (old new : Runner) (line : List ℕ) (number : ℕ) → new.stack ≡ record { top = page_line line old.stack.top; under = []; texts = [] }
    → new.doing.actions ≡ with_number number (with_arguments None old.doing.actions) → new.doing.budget ≡ renewed old.doing.budget
    → old.doing.budget.taken ≤ 2 ^ 62 → IsSound old → IsSound new
unfolding IsFirst at_line
begun_sound old new line number es ea eb h sound = record {
  setting = rw (ea, es) refl;
  frames = rw es (record { turning = tt; region = sound.frames.0.region }, tt);
  way = inl ((line, ap (λ (s : Stack). s.top.lines) es, ap (λ (s : Stack). s.top.parts) es, ap (λ (s : Stack). s.under) es, ap (λ (s : Stack). s.top.turning) es), rw eb h);
}

pub begins : (old new : Runner) (line : List ℕ) (number : ℕ) → new.stack ≡ record { top = page_line line old.stack.top; under = []; texts = [] }
    → new.doing.actions ≡ with_number number (with_arguments None old.doing.actions) → new.doing.budget ≡ renewed old.doing.budget
    → Begins line number (machine_of old) (machine_of new)
unfolding at_page
begins old new line number es ea eb =
    let eo : output_of (machine_of new) ≡ output_of (machine_of old) = ap (λ (a : Acting). a.setting.output) ea in
    record {
      output = eo;
      outcome = outcome_line (machine_of old) (machine_of new) line (begun_at number (machine_of old)) eo (rw (es, ea, eb) refl);
    }

pub ended_sound : (r : Runner) (actions : Acting) → actions.setting ≡ r.doing.actions.setting → IsSound r
    → IsSound (record { stack = r.stack; doing = record { actions = actions; budget = r.doing.budget } })
unfolding IsFirst HasMeasure
ended_sound r actions e h = record {
  setting = rw e h.setting;
  frames = h.frames;
  way = elim h.way [ inl first ↦ inl first | inr measured ↦ inr measured ];
}
