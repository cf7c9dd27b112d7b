-- Steps of the machine, one after another: helpers of proofs.
use Rattle.std.proofs.Common.{arith, ◌≡◌, ℕ, suc, ◌≤◌, inr, Bool, true, false, List, [], ◌∷◌, ◌++◌, map, Some, refl, sym, ap, ◌∙◌, append_assoc}
use Rattle.std.proofs.lemmas.List.{append-nil}
use Rattle.page_core_base.specs.Messages.{Message}
use Rattle.page_core_base.specs.declared.page_settings.Output.{Output}
use Rattle.page_roff_blocks.specs.machine.Steps.{At}
use Rattle.page_core_base.specs.laws.Views.{Came}
use Rattle.page_roff_blocks.specs.machine.Machine.{next, measure, HasMeasure, HasBodyWithin, IsFirst, credit, over}
use Rattle.page_roff_effects.specs.machine.Acting.{acting_effects, in_front}
use Rattle.page_roff_blocks.specs.machine.Languages.{Budgeted, language}
use Rattle.page_roff_blocks.proofs.CreditLemmas.{next_falls}
use Rattle.page_roff_blocks.proofs.StepLemmas.{first_falls}
use Rattle.page_roff_effects.specs.laws.Views.{State}
use Rattle.page_roff_effects.specs.States.{Given, says, takes}
use Rattle.page_roff_stack.specs.declared.next.Next.TheVariants.{Nothing}
use Rattle.page_roff_stack.specs.machine.Stacks.{Stack, running, next_of, is_nothing, step_in}
use Rattle.page_roff_machine.specs.declared.acts.Act.{Act}
use Rattle.page_roff_machine.specs.declared.acts.Progress.{Progress}
use Rattle.page_roff_machine.specs.declared.acts.Progress.TheVariants.{More, Line, Done}
use Rattle.page_roff_machine.specs.declared.runners.Runner.{Runner}
use Rattle.page_roff_machine.specs.machine.Doing.{IsIn, output_of, state_in}
use Rattle.page_roff_machine.specs.Giving.{notes_before, next_line, after_line}
use Rattle.page_roff_machine.specs.machine.Machines.{Machine, outcome_of, to_come, hushed, Advances}
use Rattle.page_roff_machine.specs.machine.Moving.{moved, reached_with, AreKept, frames_of, IsBodyWithin, IfDone, Suits, HUGE, Decides, Moves}
use Rattle.page_roff_machine.specs.machine.Stepping.{machine_of, IsMeasured, IsSound, Steps, Leads}
use Rattle.page_roff_machine.proofs.ActLemmas.{step_next, is_nothing_next}
use Rattle.page_roff_machine.proofs.DoingLemmas.{came_none, came_both, said}
use Rattle.page_roff_machine.proofs.GoLemmas.{same_source}
use Rattle.page_roff_machine.proofs.MachineLemmas.{notes_after, line_after, rest_after, outcome_step, outcome_end}

-- what is left of a line, in steps
abbrev pub work_of : Runner → ℕ
work_of r = measure HUGE (running r.stack (state_in [] r.doing))

-- ---- steps end

pub falls : (old new : Runner) (given : List Given) → IsMeasured old → IsIn new.stack.top.kind new.doing → AreKept (frames_of new.stack) → IsBodyWithin old.stack new.stack
    → next (language (acting_effects (output_of old.doing))) (running old.stack (state_in [] old.doing)) ≡ Some (running new.stack (state_in given new.doing))
    → (suc (work_of new) ≤ work_of old) × IsMeasured new
unfolding measure HasMeasure credit
falls old new given h k kept b e =
    let r = running old.stack (state_in [] old.doing) in
    let q = running new.stack (state_in given new.doing) in
    let within : HasBodyWithin HUGE r q = record { begins = b.begins; turns = b.turns } in
    let f = next_falls (acting_effects (output_of old.doing)) HUGE r q h.way within e in
    (f.0, record { setting = k; frames = kept; way = f.1 })

first_measured : (old new : Runner) (given : List Given) → IsFirst (running old.stack (state_in [] old.doing)) → IsIn new.stack.top.kind new.doing → AreKept (frames_of new.stack)
    → next (language (acting_effects (output_of old.doing))) (running old.stack (state_in [] old.doing)) ≡ Some (running new.stack (state_in given new.doing))
    → IsMeasured new
unfolding HasMeasure
first_measured old new given h k kept e =
    record { setting = k; frames = kept; way = first_falls (acting_effects (output_of old.doing)) (running old.stack (state_in [] old.doing)) (running new.stack (state_in given new.doing)) h e }

measured_from : (old new : Runner) (given : List Given) → IsSound old → IsIn new.stack.top.kind new.doing → (AreKept (frames_of old.stack) → AreKept (frames_of new.stack)) → IsBodyWithin old.stack new.stack
    → next (language (acting_effects (output_of old.doing))) (running old.stack (state_in [] old.doing)) ≡ Some (running new.stack (state_in given new.doing))
    → IsMeasured new
measured_from old new given h k kept b e = grind (arith, first_measured, falls)

pub sound_of : (r : Runner) → IsMeasured r → IsSound r
sound_of r h = record { setting = h.setting; frames = h.frames; way = inr h.way }

if_done : (progress : Progress) (A B : Type 0) → (A → B) → IfDone progress A → IfDone progress B
if_done More A B f h = tt
if_done Line A B f h = tt
if_done Done A B f h = f h

module _ {P S : Type 0} (left : P → S → List Message → Type 0) where
  -- ---- what comes next is done, and the stack moves on

  pub steps : (old mid new : Runner) (out out_mid out_new : S) (act : Act) (progress : Progress)
      → Decides left old out act mid out_mid → Moves left mid out_mid act progress new out_new
      → Steps left old out progress new out_new
  steps old mid new out out_mid out_new act progress a b = record {
    output = b.output ∙ ap (λ setting. setting.output) a.setting;
    setting = b.setting;
    notes = a.notes ++ b.notes;
    came = came_both left out out_mid out_new a.notes b.notes a.came b.came;
    step =
        a.step
        ∙ ap (λ (output : Output). moved output act old.stack (map says a.notes) mid.doing) (sym (ap (λ setting. setting.output) a.setting))
        ∙ ap (λ (s : Stack). moved (output_of mid.doing) act s (map says a.notes) mid.doing) (sym a.stack)
        ∙ b.step (map says a.notes)
        ∙ ap (λ (given : List Given). reached_with progress given new) (said [] a.notes b.notes);
    body = rw a.stack at b.body;
    frames = rw a.stack at b.frames;
    done = if_done progress ⊥ ((new ≡ old) × (a.notes ++ b.notes ≡ []) × (is_nothing (next_of old.stack) ≡ true)) (λ none. absurd none) b.not_done;
  }

  -- nothing is left
  pub stops : (old : Runner) (out : S) → IsIn old.stack.top.kind old.doing → is_nothing (next_of old.stack) ≡ true → Steps left old out Done old out
  unfolding step_in reached_with
  stops old out k e = record {
    output = refl;
    setting = k;
    notes = [];
    came = came_none left out;
    step = step_next (output_of old.doing) old.stack Nothing (state_in [] old.doing) (is_nothing_next (next_of old.stack) e);
    body = same_source old.stack old.stack refl refl;
    frames = λ h. h;
    done = (refl, refl, e);
  }

  pub decided : (old mid : Runner) (out out_mid : S) (act : Act) → IsIn old.stack.top.kind old.doing → Decides left old out act mid out_mid
      → IsIn mid.stack.top.kind mid.doing × Suits act mid.stack mid.doing
  decided old mid out out_mid act k a = (rw (a.stack, a.setting) k, rw a.stack a.suits)

  -- ---- what is to come

  leads_given : (old new : Machine) (out out_new : S) (notes : List Message) → new.actions.setting.output ≡ old.actions.setting.output
      → Came left out notes out_new → outcome_of old ≡ over (in_front (map says notes)) (outcome_of new)
      → Leads left old out new out_new
  leads_given old new out out_new notes eo came e = grind (arith, notes_after, append_assoc, line_after, rest_after)

  pub leads : (old new : Runner) (out out_new : S) → Steps left old out More new out_new
      → Leads left (machine_of old) out (machine_of new) out_new
  unfolding reached_with
  leads old new out out_new s =
      leads_given (machine_of old) (machine_of new) out out_new s.notes s.output s.came
      (outcome_step (machine_of old) (machine_of new) (map says s.notes) s.output s.step)

  pub takes_line : (old new : Runner) (out out_new : S) → Steps left old out Line new out_new
      → Advances left (machine_of old) out true (machine_of new) out_new
  unfolding reached_with
  takes_line old new out out_new s =
      let line = new.doing.actions.line in
      let m = machine_of new in
      let e = outcome_step (machine_of old) m (map says s.notes ++ (takes line ∷ [])) s.output s.step in
      let given : to_come (machine_of old) ≡ map says s.notes ++ (takes line ∷ to_come m) =
      ap (λ (a : At (Budgeted State)). a.state.rest.out) e ∙ append_assoc (map says s.notes) (takes line ∷ []) (to_come m) in
      let before : notes_before (to_come (machine_of old)) ≡ s.notes =
      ap notes_before given ∙ notes_after s.notes (takes line ∷ to_come m) ∙ append-nil s.notes in
      record {
        output = s.output;
        came = rw before s.came;
        line = ap next_line given ∙ line_after s.notes (takes line ∷ to_come m);
        rest = sym (ap after_line given ∙ rest_after s.notes (takes line ∷ to_come m));
        ends = sym (ap hushed e);
        idle = tt;
      }

  pub is_done : (old new : Runner) (out out_new : S) → Steps left old out Done new out_new
      → Advances left (machine_of old) out false (machine_of new) out_new
  unfolding reached_with
  is_done old new out out_new s = grind (arith, outcome_end)

  -- ---- one after another

  pub leads_refl : (m : Machine) (out : S) → Leads left m out m out
  leads_refl m out = record { output = refl; came = λ plan more h. h; line = refl; rest = refl; ends = refl }

  pub leads_on : (a b d : Machine) (s t u : S) → Leads left a s b t → Leads left b t d u → Leads left a s d u
  leads_on a b d s t u x y = record {
    output = y.output ∙ x.output;
    came = λ plan more h. y.came plan more (x.came plan more h);
    line = y.line ∙ x.line;
    rest = y.rest ∙ x.rest;
    ends = y.ends ∙ x.ends;
  }

  pub advances_on : (a b d : Machine) (s t u : S) (result : Bool) → Leads left a s b t → Advances left b t result d u → Advances left a s result d u
  advances_on a b d s t u result x y = record {
    output = y.output ∙ x.output;
    came = λ plan more h. y.came plan more (x.came plan more h);
    line = sym x.line ∙ y.line;
    rest = y.rest ∙ x.rest;
    ends = y.ends ∙ x.ends;
    idle = y.idle;
  }

  -- ---- from step to step

  pub measured_more : (old new : Runner) (out out_new : S) → IsMeasured old → Steps left old out More new out_new → (suc (work_of new) ≤ work_of old) × IsMeasured new
  unfolding reached_with
  measured_more old new out out_new h s = falls old new (map says s.notes) h s.setting (s.frames h.frames) s.body s.step

  pub sound_more : (old new : Runner) (out out_new : S) → IsSound old → Steps left old out More new out_new → IsMeasured new
  unfolding reached_with
  sound_more old new out out_new h s = measured_from old new (map says s.notes) h s.setting s.frames s.body s.step

  pub sound_line : (old new : Runner) (out out_new : S) → IsSound old → Steps left old out Line new out_new → IsSound new
  unfolding reached_with
  sound_line old new out out_new h s = grind (arith, sound_of, measured_from)

  pub sound_done : (old new : Runner) (out out_new : S) → IsSound old → Steps left old out Done new out_new → IsSound new
  sound_done old new out out_new h s = rw s.done.0 h
