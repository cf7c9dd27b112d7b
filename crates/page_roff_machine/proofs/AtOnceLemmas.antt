-- A source line that is taken at once gives what its run gives: helpers of proofs.
use Rattle.std.proofs.Common.{arith, ◌≡◌, ℕ, ◌+◌, ◌≤◌, ◌^◌, Bool, true, false, List, [], ◌∷◌, Option, Some, None, inl, inr, refl, sym, ap, ap₂, subst, ◌∙◌}
use Rattle.page_core_base.specs.Texts.{TakenLine}
use Rattle.page_core_base.specs.declared.page_settings.Output.{Output}
use Rattle.page_core_base.specs.declared.limits.TheConstants.{REREAD}
use Rattle.page_roff_blocks.specs.declared.line_parts.LinePart.{LinePart}
use Rattle.page_roff_blocks.specs.declared.line_parts.LinePart.TheVariants.{Leaf}
use Rattle.page_roff_blocks.specs.Parts.{line_parts}
use Rattle.page_roff_blocks.specs.Forest.{Levels, outside}
use Rattle.page_roff_blocks.specs.laws.Views.{BlockCursor, at_line, after_part, reached, reached_in, reached_from, reached_if}
use Rattle.page_roff_syntax.specs.Regions.{Opened}
use Rattle.page_roff_blocks.specs.machine.Steps.{At, meet_as, met, begin_line, collect_if}
use Rattle.page_roff_blocks.specs.machine.Languages.{Kind, page, body, Language, Done, calls, gives, is_some, meaning_at, meaning_by, run_page, Budgeted, language, meaning, meet, whether_run, done_with, with_rest, Budget, budgeted, begun, renewed}
use Rattle.page_roff_blocks.specs.machine.Machine.{Frame, Running, Turning, at_page, at_part, depth, entered, next, next_in, line_next, part_next, leaf_if, leaf_next, rest_of, source_next, stands_at, AreOnLine, HasMeasure, IsFirst, IsOnLine}
use Rattle.page_roff_blocks.proofs.MachineLemmas.{next_law, end_law, page_law}
use Rattle.page_roff_blocks.specs.machine.Languages as budgets
use Rattle.page_roff_effects.specs.machine.Acting.{with_number, with_arguments, acting_effects, acting_setting, measured, ActingSetting, effects, done_after, done_by}
use Rattle.page_roff_effects.specs.Lines.{leaf_outcome}
use Rattle.page_roff_definitions.specs.machine.Buffers.{MacroCall}
use Rattle.page_roff_values.specs.Values.{arguments_in, lines_in}
use Rattle.page_roff_effects.specs.States.{Memory, PartOutcome, Given, takes, call_product, line_product, numbered}
use Rattle.page_roff_effects.specs.laws.Views.{State}
use Rattle.page_roff_stack.specs.machine.Stacks.{is_page, page_line, Stack, is_nothing, next_of}
use Rattle.page_roff_stack.specs.machine.Stacks as stacks
use Rattle.page_roff_machine.proofs.GoLemmas.{calls_next}
use Rattle.page_roff_machine.specs.declared.runners.Runner.{Runner}
use Rattle.page_roff_machine.specs.machine.Machines.{CallsAtOnce, IsOutside, TakesAtOnce, Keeps, page_after, Takes, Begins, is_idle, begun_at, outcome_of, running_of, stands_after}
use Rattle.page_roff_machine.specs.machine.Stepping.{machine_of, IsSound}
use Rattle.page_roff_machine.specs.machine.Moving.{AreKept, called, frames_of}
use Rattle.page_roff_machine.proofs.MachineLemmas.{begins, begun_sound}

-- ---- the run of a line that is one part, outside of regions, loops and skipped blocks

abbrev level : Bool → List Bool → Bool → ℕ → Levels
level bit outer in_loop skipped = record { bit = bit; outer = outer; in_loop = in_loop; skipped = skipped }

abbrev state_with : ℕ → Memory → List Given → Budgeted State
state_with taken m given = record { left = REREAD; gave_up = false; taken = taken; rest = record { memory = m; out = given } }

abbrev holds : Memory → List Given → State
holds m given = record { memory = m; out = given }

abbrev at_levels : Option Opened → Levels → Budgeted State → At (Budgeted State)
at_levels region levels s = record { place = record { region = region; levels = levels }; state = s }

abbrev frame_at : List (LinePart (List ℕ)) → BlockCursor → Frame
frame_at parts cursor = record { kind = page; region = None; parts = parts; cursor = cursor; lines = []; turning = None }

abbrev alone : Frame → Budgeted State → Running (Budgeted State)
alone f s = record { top = f; under = []; state = s }

line_begins : (output : Output) (line : List ℕ) (bit : Bool) (outer : List Bool) (m : Memory) (count : ℕ)
    → next (language (acting_effects output)) (at_page line (at_levels None (level bit outer false 0) (state_with count m [])))
    ≡ Some (alone (frame_at (line_parts line) (at_line (level bit outer false 0))) (state_with (count + 1) m []))
unfolding next next_in line_next at_page at_line begin_line collect_if meaning_at meaning_by language meaning budgets.begin_line
line_begins output line bit outer m count = refl

given_next : (l : Language (Budgeted State)) (may_run : Bool) (f : Frame) (s : Budgeted State) → leaf_next l may_run f [] (gives s) ≡ alone f s
unfolding leaf_next
given_next l true f s = refl
given_next l false f s = refl

line_given : (output : Output) (line : List ℕ) (m : Memory) (count : ℕ) (taken : TakenLine) (may_call : Bool)
    → leaf_outcome (measured (acting_setting output page)) may_call line m ≡ record { notes = []; product = line_product taken; memory = m }
    → (language (acting_effects output)).leaf may_call page line (state_with count m []) ≡ gives (state_with count m (takes taken ∷ []))
unfolding language effects done_with done_after done_by with_rest
line_given output line m count taken may_call e = rw e refl

leaf_taken : (output : Output) (line : List ℕ) (bit : Bool) (outer : List Bool) (m : Memory) (count : ℕ) (taken : TakenLine)
    → ((may_call : Bool) → leaf_outcome (measured (acting_setting output page)) may_call line m ≡ record { notes = []; product = line_product taken; memory = m })
    → next (language (acting_effects output)) (alone (frame_at (Leaf line ∷ []) (at_line (level bit outer false 0))) (state_with count m []))
    ≡ Some (alone (frame_at [] (after_part (level bit outer false 0))) (state_with count m (takes taken ∷ [])))
unfolding next next_in part_next met meet_as reached reached_in reached_from reached_if at_line at_part meaning_at meaning_by language meaning meet whether_run leaf_if
leaf_taken output line bit outer m count taken e =
    let l = language (acting_effects output) in
    let b = is_some (depth []) in
    let f = frame_at [] (after_part (level bit outer false 0)) in
    ap (λ (d : Done (Budgeted State)). Some (leaf_next l b f [] d)) (line_given output line m count taken b (e b))
    ∙ ap (λ (r : Running (Budgeted State)). Some r) (given_next l b f (state_with count m (takes taken ∷ [])))

nothing_left : (output : Output) (cursor : BlockCursor) (s : Budgeted State) → next (language (acting_effects output)) (alone (frame_at [] cursor) s) ≡ None
unfolding next next_in source_next
nothing_left output cursor s = refl

run_leaf : (output : Output) (line : List ℕ) (bit : Bool) (outer : List Bool) (m : Memory) (count : ℕ) (taken : TakenLine)
    → line_parts line ≡ Leaf line ∷ []
    → ((may_call : Bool) → leaf_outcome (measured (acting_setting output page)) may_call line m ≡ record { notes = []; product = line_product taken; memory = m })
    → run_page (language (acting_effects output)) (line ∷ []) (at_levels None (level bit outer false 0) (state_with count m []))
    ≡ at_levels None (level bit outer false 0) (state_with (count + 1) m (takes taken ∷ []))
unfolding stands_at after_part
run_leaf output line bit outer m count taken ea eo =
    let l = language (acting_effects output) in
    let at = at_levels None (level bit outer false 0) (state_with count m []) in
    let one = alone (frame_at (Leaf line ∷ []) (at_line (level bit outer false 0))) (state_with (count + 1) m []) in
    let last = alone (frame_at [] (after_part (level bit outer false 0))) (state_with (count + 1) m (takes taken ∷ [])) in
    let first : next l (at_page line at) ≡ Some one =
    line_begins output line bit outer m count
    ∙ ap (λ (parts : List (LinePart (List ℕ))). Some (alone (frame_at parts (at_line (level bit outer false 0))) (state_with (count + 1) m []))) ea in
    sym (page_law l line at)
    ∙ next_law l (at_page line at) one first
    ∙ next_law l one last (leaf_taken output line bit outer m (count + 1) taken eo)
    ∙ end_law l last (nothing_left output (after_part (level bit outer false 0)) (state_with (count + 1) m (takes taken ∷ [])))

-- ---- the run of one that calls a macro

abbrev gives_call : MacroCall → Memory → PartOutcome
gives_call call m = record { notes = []; product = call_product (lines_in call.body) (arguments_in call.packed); memory = m }

abbrev in_call : MacroCall → BlockCursor → Budgeted State → Running (Budgeted State)
in_call call cursor s = record { top = entered (lines_in call.body) (arguments_in call.packed); under = frame_at [] cursor ∷ []; state = s }

pub may_call_on_page : is_some (depth []) ≡ true
unfolding depth is_some
may_call_on_page = refl

call_given : (output : Output) (line : List ℕ) (m : Memory) (count : ℕ) (call : MacroCall) (may_call : Bool) → may_call ≡ true
    → leaf_outcome (measured (acting_setting output page)) true line m ≡ gives_call call m
    → (language (acting_effects output)).leaf may_call page line (state_with count m []) ≡ calls (lines_in call.body) (arguments_in call.packed) (state_with count m [])
unfolding language effects done_with done_after done_by with_rest
call_given output line m count call may_call t e = rw (t, e) refl

leaf_called : (output : Output) (line : List ℕ) (bit : Bool) (outer : List Bool) (m : Memory) (count : ℕ) (call : MacroCall)
    → leaf_outcome (measured (acting_setting output page)) true line m ≡ gives_call call m
    → next (language (acting_effects output)) (alone (frame_at (Leaf line ∷ []) (at_line (level bit outer false 0))) (state_with count m []))
    ≡ Some (in_call call (after_part (level bit outer false 0)) (state_with count m []))
unfolding next next_in part_next met meet_as reached reached_in reached_from reached_if at_line at_part meaning_at meaning_by language meaning meet whether_run leaf_if
leaf_called output line bit outer m count call e = grind (arith, call_given, may_call_on_page, calls_next)

-- up to the macro
run_call : (output : Output) (line : List ℕ) (bit : Bool) (outer : List Bool) (m : Memory) (count : ℕ) (call : MacroCall)
    → line_parts line ≡ Leaf line ∷ [] → leaf_outcome (measured (acting_setting output page)) true line m ≡ gives_call call m
    → run_page (language (acting_effects output)) (line ∷ []) (at_levels None (level bit outer false 0) (state_with count m []))
    ≡ rest_of (language (acting_effects output)) (in_call call (after_part (level bit outer false 0)) (state_with (count + 1) m []))
run_call output line bit outer m count call ea eo =
    let l = language (acting_effects output) in
    let at = at_levels None (level bit outer false 0) (state_with count m []) in
    let one = alone (frame_at (Leaf line ∷ []) (at_line (level bit outer false 0))) (state_with (count + 1) m []) in
    let inside = in_call call (after_part (level bit outer false 0)) (state_with (count + 1) m []) in
    let first : next l (at_page line at) ≡ Some one =
    line_begins output line bit outer m count
    ∙ ap (λ (parts : List (LinePart (List ℕ))). Some (alone (frame_at parts (at_line (level bit outer false 0))) (state_with (count + 1) m []))) ea in
    sym (page_law l line at)
    ∙ next_law l (at_page line at) one first
    ∙ next_law l one inside (leaf_called output line bit outer m (count + 1) call eo)

-- ---- the code's object

page_kind : (kind : Kind) → is_page kind ≡ true → kind ≡ page
page_kind page e = refl
page_kind (body args) e = absurd (cc)

levels_are : (l : Levels) → l.in_loop ≡ false → l.skipped ≡ 0 → l ≡ level l.bit l.outer false 0
levels_are l e s = ap₂ (λ (i : Bool) (k : ℕ). level l.bit l.outer i k) e s

-- where a stack is, with a budget and what is remembered and given
abbrev standing : Stack → Budget → Memory → List Given → At (Budgeted State)
standing s b m given = at_levels s.top.region s.top.cursor.levels (budgeted b (record { memory = m; out = given }))

pub takes_line : (old new : Runner) (taken : TakenLine) (line : List ℕ) (number : ℕ) → is_idle (machine_of old) ≡ true → IsSound old
    → TakesAtOnce taken line number old new → Takes taken line number (machine_of old) (machine_of new)
takes_line old new taken line number idle sound h =
    let output = old.doing.actions.setting.output in
    let m = numbered number old.doing.actions.memory in
    let levels = old.stack.top.cursor.levels in
    let count = old.doing.budget.taken in
    let given = takes taken ∷ [] in
    let es : old.doing.actions.setting ≡ acting_setting output page =
    sound.setting ∙ ap (acting_setting output) (page_kind old.stack.top.kind h.outside.page) in
    let el = levels_are levels h.outside.loop h.outside.skipped in
    let eo : (may_call : Bool) → leaf_outcome (measured (acting_setting output page)) may_call line m ≡ record { notes = []; product = line_product taken; memory = m } =
    λ may_call. ap (λ (s : ActingSetting). leaf_outcome (measured s) may_call line m) (sym es) ∙ h.actions.given may_call in
    let after : stands_after given (machine_of new) ≡ at_levels None (level levels.bit levels.outer false 0) (state_with (count + 1) m given) =
    ap (λ (s : Stack). standing s new.doing.budget new.doing.actions.memory given) h.stack
    ∙ ap (λ (b : Budget). standing old.stack b new.doing.actions.memory given) h.budget
    ∙ ap (λ (k : Memory). standing old.stack (begun old.doing.budget) k given) h.actions.left.memory
    ∙ ap₂ (λ (region : Option Opened) (l : Levels). at_levels region l (state_with (count + 1) m given)) h.outside.region el in
    let before : begun_at number (machine_of old) ≡ at_levels None (level levels.bit levels.outer false 0) (state_with count m []) =
    ap₂ (λ (region : Option Opened) (l : Levels). at_levels region l (state_with count m [])) h.outside.region el in
    record {
      output = ap (λ (s : ActingSetting). s.output) h.actions.left.setting;
      idle = ap (λ (s : Stack). is_nothing (next_of s)) h.stack ∙ idle;
      short = h.actions.short;
      outcome = after ∙ sym (run_leaf output line levels.bit levels.outer m count taken h.actions.leaf eo)
          ∙ sym (ap (run_page (language (acting_effects output)) (line ∷ [])) before);
    }

-- a line that is to come is not nothing
line_comes : (turning : Option Turning) (region : Option Opened) (parts : List (LinePart (List ℕ))) (lines : List (List ℕ)) (under : List Frame) (line : List ℕ)
    → region ≡ None → parts ≡ [] → lines ≡ line ∷ [] → is_nothing (stacks.next_in turning region parts lines under) ≡ true → ⊥
line_comes turning region parts lines under line er ep el e = grind arith

-- with the same sources a runner stays sound
same_sound : (old new : Runner) → is_idle (machine_of old) ≡ true → IsSound old → IsOutside old.stack → new.stack ≡ old.stack
    → new.doing.actions.setting ≡ old.doing.actions.setting → IsSound new
unfolding IsFirst HasMeasure
same_sound old new idle sound outside es ea = record {
  setting = rw (ea, es) sound.setting;
  frames = subst (λ (s : Stack). AreKept (frames_of s)) (sym es) sound.frames;
  way = elim sound.way [
    | inl first ↦ absurd (line_comes old.stack.top.turning old.stack.top.region old.stack.top.parts old.stack.top.lines old.stack.under first.0.0
        outside.region first.0.2 first.0.1 idle)
    | inr measured ↦ inr (rw es measured)
  ];
}

pub taken_sound : (old new : Runner) (taken : TakenLine) (line : List ℕ) (number : ℕ) → is_idle (machine_of old) ≡ true → IsSound old
    → TakesAtOnce taken line number old new → IsSound new
taken_sound old new taken line number idle sound h = same_sound old new idle sound h.outside h.stack h.actions.left.setting

-- ---- a macro that is called at once

-- a machine in the macro, where the page is passed
inside_is : (r new : Runner) (region : Option Opened) (levels : Levels) (s : Budgeted State) → new ≡ called (page_after r) → r.stack.top.region ≡ None
    → r.stack.top.cursor.levels ≡ levels → (running_of [] (machine_of r)).state ≡ s
    → running_of [] (machine_of new) ≡ in_call r.doing.actions.call (after_part levels) s
unfolding entered
inside_is r new region levels s e er el es = rw (e, er, el, ← es) refl

pub calls_line : (old new : Runner) (line : List ℕ) (number : ℕ) → is_idle (machine_of old) ≡ true → IsSound old → CallsAtOnce line number old new
    → Begins line number (machine_of old) (machine_of new)
unfolding outcome_of
calls_line old new line number idle sound h = grind (arith, page_kind, levels_are, ap₂, inside_is, run_call)

inside_sound : (r new : Runner) → IsSound r → new ≡ called (page_after r) → IsSound new
unfolding HasMeasure AreOnLine IsOnLine entered after_part
inside_sound r new sound e = record {
  setting = rw e refl;
  frames = rw e (record { turning = tt; region = λ h. tt }, (record { turning = tt; region = sound.frames.0.region }, tt));
  way = rw e (inr (λ k. absurd (cc), ((λ k. (refl, refl)), tt)));
}

pub called_sound : (old new : Runner) (line : List ℕ) (number : ℕ) → is_idle (machine_of old) ≡ true → IsSound old → CallsAtOnce line number old new → IsSound new
called_sound old new line number idle sound h =
    inside_sound h.before new (same_sound old h.before idle sound h.outside h.stack h.call.left.setting) h.enters

-- ---- a line that is not taken at once begins

abbrev begun_with : Stack → Budget → Memory → At (Budgeted State)
begun_with s b m = at_levels s.top.region s.top.cursor.levels (state_with b.taken m [])

pub kept_begins : (old mid new : Runner) (line : List ℕ) (number : ℕ) → Keeps number old mid
    → new.stack ≡ record { top = page_line line mid.stack.top; under = []; texts = [] }
    → new.doing.actions ≡ with_number number (with_arguments None mid.doing.actions) → new.doing.budget ≡ renewed mid.doing.budget
    → Begins line number (machine_of old) (machine_of new)
kept_begins old mid new line number h es ea eb = grind (arith, begins)

mid_sound : (old mid : Runner) (number : ℕ) → Keeps number old mid → IsSound old → IsSound mid
unfolding IsFirst HasMeasure
mid_sound old mid number h sound = record {
  setting = rw (h.setting, h.stack) sound.setting;
  frames = subst (λ (s : Stack). AreKept (frames_of s)) (sym h.stack) sound.frames;
  way = elim sound.way [ inl first ↦ inl (rw h.stack first.0, rw h.budget first.1) | inr measured ↦ inr (rw h.stack measured) ];
}

pub kept_sound : (old mid new : Runner) (line : List ℕ) (number : ℕ) → Keeps number old mid
    → new.stack ≡ record { top = page_line line mid.stack.top; under = []; texts = [] }
    → new.doing.actions ≡ with_number number (with_arguments None mid.doing.actions) → new.doing.budget ≡ renewed mid.doing.budget
    → old.doing.budget.taken ≤ 2 ^ 62 → IsSound old → IsSound new
kept_sound old mid new line number h es ea eb few sound =
    begun_sound mid new line number es ea eb (rw h.budget few) (mid_sound old mid number h sound)
