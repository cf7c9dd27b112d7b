-- Loops that are whole: helpers of proofs.
use Rattle.std.proofs.Common.{◌≡◌, ℕ, suc, Bool, true, false, List, [], ◌∷◌, ◌++◌, drop, map, length, Option, Some, refl, sym, ap, ◌∙◌, arith}
use Rattle.page_core_base.specs.Messages.{Message}
use Rattle.page_core_base.specs.declared.page_settings.Output.{Output}
use Rattle.page_roff_blocks.specs.laws.Views.{after_part}
use Rattle.page_roff_values.specs.Values.{lines_in}
use Rattle.page_roff_blocks.specs.machine.Languages.{arguments_of, Kind, page, body, inner, repeats, Language, is_some, Budgeted, language}
use Rattle.page_roff_blocks.specs.machine.Machine.{Frame, looped, at_part, depth, leaf_next, loop_next, weight}
use Rattle.page_roff_effects.specs.declared.commands.ProductKind.{ProductKind}
use Rattle.page_roff_effects.specs.declared.commands.ProductKind.TheVariants as kinds
use Rattle.page_roff_effects.specs.machine.Acting.{IsRepeatable, IfRepeated, acting_effects, acting_setting}
use Rattle.page_roff_effects.specs.Regions.{first_line, condition_in, body_in}
use Rattle.page_roff_effects.specs.laws.Views.{State}
use Rattle.page_roff_effects.specs.States.{Given, says}
use Rattle.page_roff_stack.specs.machine.Stacks.{past, with_top, first_text, unpacked}
use Rattle.page_roff_machine.specs.declared.budgeted_actions.BudgetedActions.{BudgetedActions}
use Rattle.page_roff_machine.specs.declared.acts.Act.TheVariants as acts
use Rattle.page_roff_machine.specs.declared.acts.Progress.TheVariants.{More}
use Rattle.page_roff_machine.specs.declared.runners.Runner.{Runner}
use Rattle.page_roff_machine.specs.machine.Doing.{output_of, state_in, done_as, IsIn, Makes, closed_in}
use Rattle.page_roff_machine.specs.machine.Moving.{moved, reached_with, Repeats, AreKept, frames_of, IsBodyWithin, Shifts, Closes}
use Rattle.page_roff_machine.proofs.GoLemmas.{rest_within, same_source, same_kept, gives_next}

-- ---- a loop begins

repeats_next : (l : Language (Budgeted State)) (may_run : Bool) (f : Frame) (under : List Frame) (condition : List ℕ) (lines : List (List ℕ)) (s : Budgeted State) → may_run ≡ true
    → leaf_next l may_run f under (repeats condition lines s) ≡ record { top = looped f.kind condition lines; under = f ∷ under; state = s }
unfolding leaf_next
repeats_next l true f under condition lines s e = refl
repeats_next l false f under condition lines s e = absurd (cc)

same_first : (lines : List (List ℕ)) → first_line lines ≡ first_text lines
same_first [] = refl
same_first (line ∷ lines) = refl

-- it is in its own source as in a body with the same arguments
looped_in : (kind : Kind) (condition : List ℕ) (lines : List (List ℕ)) → looped kind condition lines ≡ looped (body (arguments_of kind)) condition lines
unfolding looped inner
looped_in page condition lines = refl
looped_in (body args) condition lines = refl

setting_in : (output : Output) (kind : Kind) → acting_setting output kind ≡ acting_setting output (inner (body (arguments_of kind)))
unfolding inner
setting_in output page = refl
setting_in output (body args) = refl

-- the loop of which this was collected begins, with these arguments
abbrev begun : List ℕ → Option (List (List ℕ)) → Frame
begun text args = looped (body args) (first_text (lines_in text)) (drop 1 (lines_in text))

begun_in : (kind : Kind) (text : List ℕ) (args : Option (List (List ℕ))) → args ≡ arguments_of kind
    → looped kind (condition_in text) (body_in text) ≡ begun text args
begun_in kind text args e = grind (arith, looped_in, same_first)

module _ (mid new : Runner) (r : Repeats mid new) where
  pub repeats_setting : IsIn mid.stack.top.kind mid.doing → IsIn new.stack.top.kind new.doing
  unfolding looped
  repeats_setting k =
      let e : acting_setting (output_of mid.doing) mid.stack.top.kind ≡ acting_setting (output_of mid.doing) (inner (body (unpacked r.packed))) =
      setting_in (output_of mid.doing) mid.stack.top.kind ∙ ap (λ args. acting_setting (output_of mid.doing) (inner (body args))) (sym r.arguments) in
      rw r.loop (k ∙ e)

  pub repeats_step : (l : Language (Budgeted State)) (may_run : Bool) (given : List Given) → may_run ≡ true
      → Some (leaf_next l may_run mid.stack.top mid.stack.under (done_as kinds.Loop mid.doing given)) ≡ reached_with More given new
  unfolding reached_with
  repeats_step l may_run given e = grind (arith, repeats_next, begun_in)

  pub repeats_within : IsBodyWithin mid.stack new.stack
  unfolding looped weight
  repeats_within = record {
    begins = λ h. rw r.loop (omega arith);
    turns = λ h t. let n : length new.stack.under ≡ suc (length mid.stack.under) = ap (λ (r : Runner). length r.stack.under) r.loop in absurd (omega arith);
  }

  pub repeats_frames : (may_run : Bool) → IsRepeatable may_run mid.doing.actions.call.body → AreKept (frames_of mid.stack) → AreKept (frames_of new.stack)
  unfolding looped
  repeats_frames may_run c h = grind (arith, rest_within)

-- ---- past a loop without a block

pub shifts_loop : (old mid new : Runner) → mid ≡ record { stack = with_top (past (after_part old.stack.top.cursor.levels) old.stack.top) old.stack; doing = old.doing }
    → Repeats mid new → IsRepeatable (is_some (depth old.stack.under)) old.doing.actions.call.body → IsIn old.stack.top.kind old.doing
    → Shifts old (acts.Leaf kinds.Loop) More new
unfolding moved at_part after_part
shifts_loop old mid new e rep c k =
    let s = with_top (past (after_part old.stack.top.cursor.levels) old.stack.top) old.stack in
    let m : Runner = record { stack = s; doing = old.doing } in
    let r : Repeats m new = rw e at rep in
    let within = repeats_within m new r in
    record {
      output = ap (λ (r : Runner). output_of r.doing) r.loop;
      setting = repeats_setting m new r k;
      step = λ given. repeats_step m new r (language (acting_effects (output_of old.doing))) (is_some (depth old.stack.under)) given c.room;
      body = record { begins = within.begins; turns = within.turns };
      frames = λ h.
          repeats_frames m new r (is_some (depth old.stack.under)) c (same_kept old.stack.top (after_part old.stack.top.cursor.levels) (λ h. h) h.0, h.1);
    }

-- ---- a loop that was collected is whole

-- nothing comes of it where it is not run
pub no_loop : (product : ProductKind) (P : Type 0) → IfRepeated product P → (product ≡ kinds.Loop → ⊥) → product ≡ kinds.Nothing
no_loop kinds.Nothing P h n = refl
no_loop kinds.Line P h n = absurd h
no_loop kinds.Call P h n = absurd h
no_loop kinds.Loop P h n = absurd (n refl)

module _ {P S : Type 0} (left : P → S → List Message → Type 0) (old : Runner) (doing : BudgetedActions) (out out_new : S) (may_run : Bool) (em : may_run ≡ is_some (depth old.stack.under)) where
  closes_as : (product : ProductKind) (given : List Given) (a : Makes left old.doing out (λ kind. IsIn kind old.doing) (closed_in old.doing may_run) doing (done_as product) out_new)
      → IsIn old.stack.top.kind old.doing
      → Some (loop_next (language (acting_effects (output_of old.doing))) old.stack.top old.stack.under (state_in given old.doing))
      ≡ Some (leaf_next (language (acting_effects (output_of old.doing))) may_run old.stack.top old.stack.under (done_as product doing (given ++ map says a.notes)))
  unfolding loop_next
  closes_as product given a k =
      let l = language (acting_effects (output_of old.doing)) in
      ap (λ may_run. Some (leaf_next l may_run old.stack.top old.stack.under (l.closes may_run (state_in given old.doing)))) (sym em)
      ∙ ap (λ done. Some (leaf_next l may_run old.stack.top old.stack.under done)) (a.state old.stack.top.kind k given)

  pub closes_loop : (new : Runner) → Makes left old.doing out (λ kind. IsIn kind old.doing) (closed_in old.doing may_run) doing (done_as kinds.Loop) out_new
      → IsRepeatable may_run doing.actions.call.body
      → Repeats (record { stack = old.stack; doing = doing }) new
      → IsIn old.stack.top.kind old.doing
      → Closes left old out new out_new
  closes_loop new a c r k =
      let m : Runner = record { stack = old.stack; doing = doing } in
      record {
        output = ap (λ (r : Runner). output_of r.doing) r.loop ∙ ap (λ setting. setting.output) a.setting;
        setting = repeats_setting m new r (rw a.setting k);
        notes = a.notes;
        came = a.came;
        step = λ given.
            closes_as kinds.Loop given a k
            ∙ repeats_step m new r (language (acting_effects (output_of old.doing))) may_run (given ++ map says a.notes) c.room;
        body = repeats_within m new r;
        frames = repeats_frames m new r may_run c;
        not_done = tt;
      }

  pub closes_none : (product : ProductKind) → product ≡ kinds.Nothing
      → Makes left old.doing out (λ kind. IsIn kind old.doing) (closed_in old.doing may_run) doing (done_as product) out_new
      → IsIn old.stack.top.kind old.doing
      → Closes left old out (record { stack = old.stack; doing = doing }) out_new
  unfolding reached_with
  closes_none product e a k =
      let l = language (acting_effects (output_of old.doing)) in
      record {
        output = ap (λ setting. setting.output) a.setting;
        setting = rw a.setting k;
        notes = a.notes;
        came = a.came;
        step = λ given.
            closes_as product given a k
            ∙ ap (λ product. Some (leaf_next l may_run old.stack.top old.stack.under (done_as product doing (given ++ map says a.notes)))) e
            ∙ ap (λ next. Some next) (gives_next l may_run old.stack.top old.stack.under (state_in (given ++ map says a.notes) doing));
        body = same_source old.stack old.stack refl refl;
        frames = λ h. h;
        not_done = tt;
      }
