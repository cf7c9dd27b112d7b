-- What is so of each source that runs: helpers of proofs.
use Rattle.std.proofs.Common.{◌≡◌, ℕ, zero, suc, ◌+◌, ◌*◌, ◌≤◌, ◌==◌, Bool, true, false, List, [], ◌∷◌, drop, length, Option, Some, None, refl, sym, ap, if◌then◌else◌, arith, ◌++◌, map, ◌∙◌}
use Rattle.page_core_base.specs.declared.limits.TheConstants.{BODY}
use Rattle.page_roff_blocks.specs.declared.line_parts.LinePart.{LinePart}
use Rattle.page_roff_blocks.specs.declared.line_parts.LinePart.TheVariants.{Region}
use Rattle.page_roff_blocks.specs.declared.block_cursors.Pass.{Pass}
use Rattle.page_roff_blocks.specs.declared.block_cursors.Pass.TheVariants as passes
use Rattle.page_roff_blocks.specs.declared.levels.Way.{Way}
use Rattle.page_roff_blocks.specs.declared.levels.Way.TheVariants.{Runs, Skips, Exceeds}
use Rattle.page_roff_blocks.specs.Forest.{Levels}
use Rattle.page_roff_blocks.specs.laws.Views.{BlockCursor, at_line, after_part, enter, skip, leave_level, leave_loop, leave_from, leave, passed, what_ends}
use Rattle.page_roff_syntax.specs.Regions.{Opened, opened}
use Rattle.page_roff_values.specs.Values.{begin_first, arguments_in, lines_in}
use Rattle.page_roff_blocks.specs.machine.Machine.{Frame, Turning, turned, at_part, entered, depth, leaf_next, end_next, weight, turns_of}
use Rattle.page_roff_stack.specs.declared.movements.Movement.{Movement}
use Rattle.page_roff_stack.specs.declared.movements.Movement.TheVariants as moves
use Rattle.page_roff_stack.specs.machine.Stacks.{past, in_turn_of, region_of, first_region, went, IfEnters, next_line, is_page, Stack, with_top, has_begun, turn_in, turn_or_end, next_around, next_in, next_of, is_part, Suits, running, call_of}
use Rattle.page_roff_machine.specs.machine.Moving.{HUGE, IsTurningWithin, IsPassed, IsKept, AreKept, frames_of, IsBodyWithin, Keeps, moved, reached_with, progress_as, way_after, with_arguments_of, called, IfDone, Shifts, Moves, Closes}
use Rattle.std.proofs.lemmas.List.{append-nil}
use Rattle.page_core_base.specs.Messages.{Message}
use Rattle.page_core_base.specs.declared.page_settings.Output.{Output}
use Rattle.page_roff_blocks.specs.declared.levels.Ended.{Ended}
use Rattle.page_roff_blocks.specs.declared.levels.Ended.TheVariants as endings
use Rattle.page_roff_blocks.specs.declared.line_parts.Branch.TheVariants.{Else}
use Rattle.page_roff_blocks.specs.declared.levels.Answer.{Answer}
use Rattle.page_roff_blocks.specs.machine.Steps.{refuse_if}
use Rattle.page_roff_blocks.specs.machine.Languages.{arguments_of, Kind, page, body, gives, calls, Language, is_some, Budgeted, meaning, language, with_rest}
use Rattle.page_roff_effects.specs.declared.commands.ProductKind.{ProductKind}
use Rattle.page_roff_effects.specs.declared.commands.ProductKind.TheVariants as kinds
use Rattle.page_roff_effects.specs.machine.Acting as acting
use Rattle.page_roff_effects.specs.machine.Acting.{Acting, IsCallable, acting_effects, acting_setting, effects}
use Rattle.page_roff_effects.specs.States.{block_outcome, Given, says}
use Rattle.page_roff_effects.specs.laws.Views.{State}
use Rattle.page_roff_stack.specs.machine.Stacks as stacks
use Rattle.page_roff_stack.proofs.InputStackLemmas.{went_kind}
use Rattle.page_roff_machine.specs.declared.budgeted_actions.BudgetedActions.{BudgetedActions}
use Rattle.page_roff_machine.specs.declared.acts.Act.{Act}
use Rattle.page_roff_machine.specs.declared.acts.Act.TheVariants as acts
use Rattle.page_roff_machine.specs.declared.acts.Progress.{Progress}
use Rattle.page_roff_machine.specs.declared.acts.Progress.TheVariants.{More, Line}
use Rattle.page_roff_machine.specs.declared.runners.Runner.{Runner}
use Rattle.page_roff_machine.specs.machine.Doing.{output_of, state_in, state_after, IsIn, IsAt, Makes, unopened_in}
use Rattle.page_roff_machine.proofs.DoingLemmas.{came_none, acted}

-- ---- bodies

begun_weight : (byte : ℕ) (texts : List (List ℕ)) (n : ℕ) → weight texts ≤ 5 * n + 5 → weight (begin_first byte texts) ≤ 5 * suc n + 5
unfolding weight
begun_weight byte [] n h = omega arith
begun_weight byte (text ∷ texts) n h = omega arith

byte_weight : (is_end : Bool) (byte : ℕ) (texts : List (List ℕ)) (n : ℕ) → weight texts ≤ 5 * n + 5
    → weight (if is_end then [] ∷ texts else begin_first byte texts) ≤ 5 * suc n + 5
unfolding weight
byte_weight true byte texts n h = omega arith
byte_weight false byte texts n h = begun_weight byte texts n h

body_weight : (bytes : List ℕ) → weight (arguments_in bytes) ≤ 5 * length bytes + 5
unfolding weight arguments_in
body_weight [] = omega arith
body_weight (byte ∷ bytes) = byte_weight (byte == 10) byte (arguments_in bytes) (length bytes) (body_weight bytes)

pub within_huge : (bytes : List ℕ) → length bytes ≤ BODY → suc (weight (arguments_in bytes)) ≤ 100000
within_huge bytes h = let w = body_weight bytes in omega arith

-- those of a loop come after its condition
rest_weight : (lines : List (List ℕ)) → weight (drop 1 lines) ≤ weight lines
unfolding weight
rest_weight [] = omega arith
rest_weight (line ∷ lines) = omega arith

pub rest_within : (bytes : List ℕ) → length bytes ≤ BODY → suc (weight (drop 1 (lines_in bytes))) ≤ 100000
rest_within bytes h = let w = within_huge bytes h in let r = rest_weight (lines_in bytes) in omega arith

-- ---- the sources that run

-- nothing was begun
pub same_source : (old new : Stack) → new.under ≡ old.under → new.top.turning ≡ old.top.turning → IsBodyWithin old new
same_source old new eu et = record {
  begins = λ h. let k : length new.under ≡ length old.under = ap length eu in absurd (omega arith);
  turns = λ h t. let k : turns_of new.top.turning ≡ turns_of old.top.turning = ap turns_of et in absurd (omega arith);
}

pub same_frames : (old new : Stack) → new.under ≡ old.under → (IsKept old.top → IsKept new.top) → AreKept (frames_of old) → AreKept (frames_of new)
same_frames old new eu f h = (f h.0, rw eu h.1)

-- the turns of a loop and its open region stay as they are, where it is not collected from now on
pub same_kept : (f : Frame) (cursor : BlockCursor) → (cursor.levels.in_loop ≡ true → f.cursor.levels.in_loop ≡ true) → IsKept f → IsKept (past cursor f)
unfolding at_part
same_kept f cursor h k = record { turning = k.turning; region = λ e. k.region (h e) }

-- a loop is collected from now on, where no region is open
pub open_kept : (f : Frame) (cursor : BlockCursor) → f.region ≡ None → IsKept f → IsKept (past cursor f)
unfolding at_part
open_kept f cursor h k = record { turning = k.turning; region = λ e. rw h tt }

-- ---- the bit of a loop that is collected

enter_out : (way : Way) (bit : Bool) (l : Levels) → (enter way bit l).in_loop ≡ false
unfolding enter
enter_out Runs bit l = refl
enter_out _ bit l = refl

pub enter_in : (way : Way) (bit : Bool) (l : Levels) → (after_part (enter way bit l)).levels.in_loop ≡ true → l.in_loop ≡ true
unfolding after_part
enter_in way bit l e = let k = enter_out way bit l in absurd (cc)

level_in : (outer : List Bool) (l : Levels) → (leave_level outer l).in_loop ≡ true → l.in_loop ≡ true
unfolding leave_level
level_in [] l e = e
level_in (bit ∷ outer) l e = absurd (cc)

loop_in : (in_loop : Bool) (l : Levels) → in_loop ≡ l.in_loop → (leave_loop in_loop l).in_loop ≡ true → l.in_loop ≡ true
unfolding leave_loop
loop_in true l h e = sym h
loop_in false l h e = level_in l.outer l e

from_in : (skipped : ℕ) (l : Levels) → (leave_from skipped l).in_loop ≡ true → l.in_loop ≡ true
unfolding leave_from
from_in zero l e = loop_in l.in_loop l refl e
from_in (suc skipped) l e = e

pub leave_in : (l : Levels) → (after_part (leave l)).levels.in_loop ≡ true → l.in_loop ≡ true
unfolding after_part leave
leave_in l e = from_in l.skipped l e

-- ---- regions

not_part : (turn : Option (List ℕ)) (region : Option Opened) (begun : Bool) → is_part (turn_or_end turn region begun) ≡ true → ⊥
not_part None region begun e = cc
not_part (Some condition) region begun e = cc

not_part_around : (turning : Option Turning) (region : Option Opened) (under : List Frame) → is_part (next_around turning region under) ≡ true → ⊥
not_part_around turning region [] e = cc
not_part_around turning region (f ∷ fs) e = not_part (turn_in turning) region (has_begun turning) e

-- a part comes next where no region is open
part_outside : (turning : Option Turning) (region : Option Opened) (parts : List (LinePart (List ℕ))) (lines : List (List ℕ)) (under : List Frame)
    → is_part (next_in turning region parts lines under) ≡ true → region ≡ None
part_outside turning None parts lines under e = refl
part_outside turning (Some o) parts (line ∷ more) under e = absurd (cc)
part_outside turning (Some o) parts [] under e = absurd (not_part_around turning (Some o) under e)

pub outside_regions : (s : Stack) → is_part (next_of s) ≡ true → s.top.region ≡ None
outside_regions s e = part_outside s.top.turning s.top.region s.top.parts s.top.lines s.under e

head_passed : (is_run : Bool) (part : LinePart (List ℕ)) → is_run ≡ false → IsPassed (region_of is_run part)
unfolding opened
head_passed is_run (Region head) e = e
head_passed is_run _ e = tt

region_passed : (is_run : Bool) (parts : List (LinePart (List ℕ))) → is_run ≡ false → IsPassed (first_region is_run parts)
region_passed is_run [] e = tt
region_passed is_run (part ∷ more) e = head_passed is_run part e

-- ---- turns

turn_kept : (turning : Option Turning) (f : Frame) → IsTurningWithin turning → IsKept f → IsKept (in_turn_of turning f)
unfolding turned
turn_kept None f h k = k
turn_kept (Some t) f h k = record { turning = h; region = λ e. tt }

turn_within : (turning : Option Turning) (f : Frame) → f.turning ≡ turning → IsTurningWithin turning
    → suc (turns_of (in_turn_of turning f).turning) ≡ turns_of turning → suc (weight (in_turn_of turning f).lines) ≤ HUGE
unfolding turned turns_of
turn_within None f e h t = let k : turns_of f.turning ≡ 0 = ap turns_of e in absurd (omega arith)
turn_within (Some turning) f e h t = h

-- ---- what comes next is passed

-- by a part
pass_kept : (pass : Pass) (s : Stack) → IfEnters pass (is_part (next_of s) ≡ true) → IsKept s.top → IsKept (past (passed pass s.top.cursor) s.top)
unfolding after_part skip
pass_kept (passes.Block (Some a)) s h = grind (arith, same_kept, enter_in)
pass_kept (passes.Loop true) s h = open_kept s.top (passed (passes.Loop true) s.top.cursor) (outside_regions s h)
pass_kept passes.End s h = same_kept s.top (passed passes.End s.top.cursor) (leave_in s.top.cursor.levels)
pass_kept (passes.Guard (Some a)) s h = same_kept s.top (passed (passes.Guard (Some a)) s.top.cursor) (λ e. e)
pass_kept pass s h = same_kept s.top (passed pass s.top.cursor) (λ e. e)

pub moved_kept : (movement : Movement) (s : Stack) → Suits movement (next_of s) → Keeps movement s.top → IsKept s.top → IsKept (went movement s.top)
unfolding at_line
moved_kept (moves.Part pass) s h k = pass_kept pass s h
moved_kept (moves.Region is_run) s h k = λ f. record { turning = f.turning; region = λ e. region_passed is_run s.top.parts (k e) }
moved_kept moves.RegionLine s h k = λ f. record { turning = f.turning; region = f.region }
moved_kept moves.Turn s h k = turn_kept s.top.turning s.top k
moved_kept _ s h k = λ f. record { turning = f.turning; region = λ e. tt }

pub moved_source : (movement : Movement) (s : Stack) → Keeps movement s.top → IsBodyWithin s (with_top (went movement s.top) s)
unfolding at_part
moved_source moves.Turn s k = record {
  begins = λ e. let n : length s.under ≡ suc (length s.under) = e in absurd (omega arith);
  turns = λ e n. turn_within s.top.turning s.top refl k n;
}
moved_source movement s k = same_source s (with_top (went movement s.top) s) refl refl

-- ---- The input stack moves on: helpers of proofs.

-- ---- past a line that heads nothing

pub gives_next : (l : Language (Budgeted State)) (may_call : Bool) (f : Frame) (under : List Frame) (s : Budgeted State)
    → leaf_next l may_call f under (gives s) ≡ record { top = f; under = under; state = s }
unfolding leaf_next
gives_next l true f under s = refl
gives_next l false f under s = refl

pub calls_next : (l : Language (Budgeted State)) (may_call : Bool) (f : Frame) (under : List Frame) (lines args : List (List ℕ)) (s : Budgeted State) → may_call ≡ true
    → leaf_next l may_call f under (calls lines args s) ≡ record { top = entered lines args; under = f ∷ under; state = s }
unfolding leaf_next
calls_next l true f under lines args s e = refl
calls_next l false f under lines args s e = absurd (cc)

pub setting_is : (output : Output) (kind : Kind) → record { output = output; arguments = arguments_of kind } ≡ acting_setting output kind
setting_is output kind = refl

pub shifts_to : (old new : Runner) (act : Act) (progress : Progress) (s : Stack)
    → new ≡ record { stack = s; doing = old.doing } → s.top.kind ≡ old.stack.top.kind → s.under ≡ old.stack.under → s.top.turning ≡ old.stack.top.turning
    → (IsKept old.stack.top → IsKept s.top) → IsIn old.stack.top.kind old.doing
    → ((given : List Given) → moved (output_of old.doing) act old.stack given old.doing ≡ reached_with progress given (record { stack = s; doing = old.doing }))
    → Shifts old act progress new
shifts_to old new act progress s e ek eu et kept k step = record {
  output = ap (λ (r : Runner). output_of r.doing) e;
  setting = rw (e, ek) k;
  step = λ given. step given ∙ ap (reached_with progress given) (sym e);
  body = same_source old.stack new.stack (ap (λ (r : Runner). r.stack.under) e ∙ eu) (ap (λ (r : Runner). r.stack.top.turning) e ∙ et);
  frames = λ h. rw e (same_frames old.stack s eu kept h);
}

pub shifts_leaf : (old new : Runner) → new ≡ record { stack = with_top (past (after_part old.stack.top.cursor.levels) old.stack.top) old.stack; doing = old.doing }
    → IsIn old.stack.top.kind old.doing → Shifts old (acts.Leaf kinds.Nothing) More new
unfolding moved reached_with at_part after_part
shifts_leaf old new e k = grind (arith, shifts_to, same_kept, gives_next)

pub shifts_leaf_line : (old new : Runner) → new ≡ record { stack = with_top (past (after_part old.stack.top.cursor.levels) old.stack.top) old.stack; doing = old.doing }
    → IsIn old.stack.top.kind old.doing → Shifts old (acts.Leaf kinds.Line) Line new
unfolding moved reached_with at_part after_part
shifts_leaf_line old new e k = grind (arith, shifts_to, same_kept, gives_next)

pub shifts_call : (old mid new : Runner) → mid ≡ record { stack = with_top (past (after_part old.stack.top.cursor.levels) old.stack.top) old.stack; doing = old.doing }
    → new ≡ called mid → IsCallable (is_some (depth old.stack.under)) old.doing.actions.call
    → Shifts old (acts.Leaf kinds.Call) More new
unfolding moved reached_with at_part after_part entered
shifts_call old mid new em e callable = grind (arith, setting_is, calls_next, within_huge, same_kept)

-- the macro that was taken last is called
pub calls_it : (r new : Runner) (stack : Stack) (bytes packed : List ℕ)
    → bytes ≡ r.doing.actions.call.body → packed ≡ r.doing.actions.call.packed
    → stack ≡ call_of bytes packed r.stack
    → new ≡ with_arguments_of stack.top.kind (record { stack = stack; doing = r.doing }) → new ≡ called r
unfolding entered
calls_it r new stack bytes packed eb ep es e = grind arith

-- ---- past what comes next, where nothing else is to be done

pub shifts_move : (old new : Runner) (movement : Movement)
    → new ≡ record { stack = with_top (went movement old.stack.top) old.stack; doing = old.doing }
    → IsIn old.stack.top.kind old.doing → stacks.Suits movement (next_of old.stack) × Keeps movement old.stack.top
    → Shifts old (acts.Move movement) More new
unfolding moved reached_with
shifts_move old new movement e k suits = grind (arith, went_kind, moved_source, same_frames, moved_kept)

region_line_step : (old : Runner) (product : ProductKind) (given : List Given)
    → moved (output_of old.doing) (acts.RegionLine product) old.stack given old.doing
    ≡ reached_with (progress_as product) given (record { stack = with_top (next_line old.stack.top.region [] old.stack.top) old.stack; doing = old.doing })
unfolding moved reached_with
region_line_step old kinds.Line given = refl
region_line_step old _ given = grind (arith, append-nil)

pub shifts_region_line : (old new : Runner) (product : ProductKind)
    → new ≡ record { stack = with_top (next_line old.stack.top.region [] old.stack.top) old.stack; doing = old.doing }
    → IsIn old.stack.top.kind old.doing → Shifts old (acts.RegionLine product) (progress_as product) new
shifts_region_line old new product e k =
    shifts_to old new (acts.RegionLine product) (progress_as product) (with_top (next_line old.stack.top.region [] old.stack.top) old.stack) e refl refl refl (moved_kept moves.RegionLine old.stack tt tt) k
    (λ given. region_line_step old product given)

-- ---- back to the source around the innermost one

left_to : (under more : List Frame) (top : Frame) (state : Budgeted State) → under ≡ top ∷ more
    → stacks.left under state ≡ Some (record { top = top; under = more; state = state })
left_to under more top state e = rw e refl

around_kept : (under more : List Frame) (top : Frame) → under ≡ top ∷ more → AreKept under → AreKept (top ∷ more)
around_kept under more top e h = rw e at h

pub shifts_source_end : (old mid new : Runner) → mid.doing ≡ old.doing → old.stack.under ≡ mid.stack.top ∷ mid.stack.under
    → new ≡ with_arguments_of mid.stack.top.kind mid → Shifts old acts.SourceEnd More new
unfolding moved reached_with
shifts_source_end old mid new ed eu e = grind (arith, setting_is, left_to, around_kept)

-- ---- with a message

module _ {P S : Type 0} (left : P → S → List Message → Type 0) where
  -- the stack moved on without one
  pub quiet : (old new : Runner) (out : S) (act : Act) (progress : Progress) → Shifts old act progress new
      → IfDone progress ⊥
      → Moves left old out act progress new out
  quiet old new out act progress h not_done = record {
    output = h.output;
    setting = h.setting;
    notes = [];
    came = came_none left out;
    step = λ given. h.step given ∙ ap (λ given. reached_with progress given new) (sym (append-nil given));
    body = h.body;
    frames = h.frames;
    not_done = not_done;
  }

  product_done : (product : ProductKind) (P : Type 0) → IfDone (progress_as product) P
  product_done kinds.Line P = tt
  product_done _ P = tt

  pub quiet_product : (old new : Runner) (out : S) (act : Act) (product : ProductKind) → Shifts old act (progress_as product) new
      → Moves left old out act (progress_as product) new out
  quiet_product old new out act product h = quiet old new out act (progress_as product) h (product_done product _)

  -- into the block of a conditional
  in_block : Runner → Option Answer → Stack
  in_block old answer = with_top (went (moves.Part (passes.Block answer)) old.stack.top) old.stack

  block_kept : (old : Runner) (answer : Option Answer) → is_part (next_of old.stack) ≡ true → IsKept old.stack.top → IsKept (in_block old answer).top
  unfolding in_block
  block_kept old answer h = moved_kept (moves.Part (passes.Block answer)) old.stack h tt

  block_step : (old : Runner) (answer : Option Answer) (column : ℕ) (way : Way) (given : List Given) (doing : BudgetedActions) (given_then : List Given)
      → way ≡ way_after answer old.stack.top.cursor
      → refuse_if (meaning (acting_effects (output_of old.doing)) page) way (record { column = column; branch = Else }) (state_in given old.doing) ≡ state_in given_then doing
      → moved (output_of old.doing) (acts.Block answer column) old.stack given old.doing
      ≡ reached_with More given_then (record { stack = in_block old answer; doing = doing })
  unfolding moved reached_with in_block
  block_step old answer column way given doing given_then e h = grind (arith, in_block)

  not_refused : (output : Output) (way : Way) (column : ℕ) (state : Budgeted State) → (way ≡ Exceeds → ⊥)
      → refuse_if (meaning (acting_effects output) page) way (record { column = column; branch = Else }) state ≡ state
  unfolding refuse_if
  not_refused output Runs column state h = refl
  not_refused output Skips column state h = refl
  not_refused output Exceeds column state h = absurd (h refl)

  pub moves_block : (old new : Runner) (out : S) (answer : Option Answer) (column : ℕ) (way : Way)
      → way ≡ way_after answer old.stack.top.cursor → (way ≡ Exceeds → ⊥)
      → new ≡ record { stack = with_top (went (moves.Part (passes.Block answer)) old.stack.top) old.stack; doing = old.doing }
      → IsIn old.stack.top.kind old.doing → is_part (next_of old.stack) ≡ true → Moves left old out (acts.Block answer column) More new out
  unfolding at_part in_block
  moves_block old new out answer column way ew not_over e k part = grind (arith, quiet, shifts_to, in_block, block_kept, block_step, not_refused)

  pub moves_exceeds : (old : Runner) (actions : Acting) (out out_new : S) (answer : Option Answer) (column : ℕ)
      → Exceeds ≡ way_after answer old.stack.top.cursor
      → acting.Does left old.doing.actions out (block_outcome column old.doing.actions.memory) actions out_new
      → IsIn old.stack.top.kind old.doing → is_part (next_of old.stack) ≡ true
      → Moves left old out (acts.Block answer column) More
      (record {
        stack = with_top (went (moves.Part (passes.Block answer)) old.stack.top) old.stack;
        doing = record { actions = actions; budget = old.doing.budget };
      }) out_new
  unfolding refuse_if in_block meaning effects with_rest at_part block_outcome
  moves_exceeds old actions out out_new answer column ew d k part =
      let b : BudgetedActions = record { actions = actions; budget = old.doing.budget } in
      let outcome = block_outcome column old.doing.actions.memory in
      record {
        output = ap (λ setting. setting.output) d.setting;
        setting = rw d.setting k;
        notes = outcome.notes;
        came = d.came;
        step = λ given.
            block_step old answer column Exceeds given b (given ++ map says outcome.notes) ew
            (acted old.doing.budget old.doing.actions.memory b given outcome refl d.memory refl);
        body = same_source old.stack (in_block old answer) refl refl;
        frames = same_frames old.stack (in_block old answer) refl (block_kept old answer part);
        not_done = tt;
      }

  -- a block ends
  left_block : Runner → Stack
  left_block old = with_top (past (after_part (leave old.stack.top.cursor.levels)) old.stack.top) old.stack

  left_kept : (old : Runner) → IsKept old.stack.top → IsKept (left_block old).top
  unfolding left_block
  left_kept old = grind (arith, same_kept, leave_in)

  ends_as : (old : Runner) (ended : Ended) (given : List Given) → ended ≡ what_ends old.stack.top.cursor.levels
      → moved (output_of old.doing) acts.BlockEnd old.stack given old.doing
      ≡ Some (end_next (language (acting_effects (output_of old.doing))) (meaning (acting_effects (output_of old.doing)) old.stack.top.kind) ended
      (left_block old).top old.stack.under (state_in given old.doing))
  unfolding moved left_block
  ends_as old ended given e = grind (arith, left_block)

  pub leaves_block : (old new : Runner) (out : S)
      → endings.Block ≡ what_ends old.stack.top.cursor.levels
      → new ≡ record { stack = with_top (past (after_part (leave old.stack.top.cursor.levels)) old.stack.top) old.stack; doing = old.doing }
      → IsIn old.stack.top.kind old.doing → Moves left old out acts.BlockEnd More new out
  unfolding reached_with at_part end_next left_block
  leaves_block old new out ended e k =
      quiet old new out acts.BlockEnd More
      (shifts_to old new acts.BlockEnd More (left_block old) e refl refl refl (left_kept old) k (λ given. ends_as old endings.Block given ended)) tt

  pub leaves_none : (old : Runner) (doing : BudgetedActions) (out out_new : S) (is_page_now : Bool)
      → endings.Nothing ≡ what_ends old.stack.top.cursor.levels → is_page_now ≡ is_page old.stack.top.kind
      → Makes left old.doing out (IsAt is_page_now old.doing) (unopened_in old.doing) doing state_after out_new
      → IsIn old.stack.top.kind old.doing
      → Moves left old out acts.BlockEnd More
      (record { stack = with_top (past (after_part (leave old.stack.top.cursor.levels)) old.stack.top) old.stack; doing = doing }) out_new
  unfolding reached_with at_part end_next left_block
  leaves_none old doing out out_new is_page_now ended ep a k = record {
    output = ap (λ setting. setting.output) a.setting;
    setting = rw a.setting k;
    notes = a.notes;
    came = a.came;
    step = λ given.
        ends_as old endings.Nothing given ended
        ∙ ap (λ state. Some (running (left_block old) state)) (a.state old.stack.top.kind (record { page = sym ep; setting = k }) given);
    body = same_source old.stack (left_block old) refl refl;
    frames = same_frames old.stack (left_block old) refl (left_kept old);
    not_done = tt;
  }

  -- the loop that is collected ends
  pub leaves_setting : (old : Runner) (stack : Stack)
      → stack ≡ with_top (past (after_part (leave old.stack.top.cursor.levels)) old.stack.top) old.stack
      → IsIn old.stack.top.kind old.doing → IsIn stack.top.kind old.doing
  unfolding at_part
  leaves_setting old stack e k = rw e k

  pub leaves_loop : (old mid new : Runner) (out out_new : S)
      → endings.Loop ≡ what_ends old.stack.top.cursor.levels
      → mid ≡ record { stack = with_top (past (after_part (leave old.stack.top.cursor.levels)) old.stack.top) old.stack; doing = old.doing }
      → Closes left mid out new out_new → Moves left old out acts.BlockEnd More new out_new
  unfolding at_part end_next left_block
  leaves_loop old mid new out out_new ended e c =
      let h : Closes left (record { stack = left_block old; doing = old.doing }) out new out_new = rw e at c in
      record {
        output = h.output;
        setting = h.setting;
        notes = h.notes;
        came = h.came;
        step = λ given. ends_as old endings.Loop given ended ∙ h.step given;
        body = record { begins = h.body.begins; turns = h.body.turns };
        frames = λ k. h.frames (same_frames old.stack (left_block old) refl (left_kept old) k);
        not_done = tt;
      }
