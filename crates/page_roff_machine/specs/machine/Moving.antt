-- How the input stack moves on, once the part that comes next was done: the code's own form of a step. Trust needs no reading of it.
use Rattle.std.specs.Prelude.{◌≡◌, ℕ, ◌≤◌, suc, Bool, true, false, List, [], ◌∷◌, ◌++◌, length, map, Option, Some, None, IfSome}
use Rattle.page_core_base.specs.Messages.{Message}
use Rattle.page_core_base.specs.declared.page_settings.Output.{Output}
use Rattle.page_roff_blocks.specs.declared.line_parts.Branch.TheVariants.{Else}
use Rattle.page_roff_blocks.specs.declared.levels.Answer.{Answer}
use Rattle.page_roff_blocks.specs.declared.levels.Way.{Way}
use Rattle.page_roff_blocks.specs.declared.levels.Way.TheVariants.{Skips}
use Rattle.page_roff_blocks.specs.declared.block_cursors.Pass.TheVariants as passes
use Rattle.page_roff_blocks.specs.declared.block_cursors.Reached.{Reached}
use Rattle.page_roff_blocks.specs.declared.block_cursors.Reached.TheVariants.{PassedOver}
use Rattle.page_roff_blocks.specs.laws.Views.{BlockCursor, way_of, what_ends}
use Rattle.page_roff_syntax.specs.Regions.{Opened}
use Rattle.page_roff_blocks.specs.machine.Steps.{refuse_if, collect_if}
use Rattle.page_roff_values.specs.Values.{arguments_in}
use Rattle.page_core_base.specs.laws.Views.{Came}
use Rattle.page_roff_blocks.specs.machine.Languages.{arguments_of, Kind, page, body, is_some, Budgeted, meaning, language}
use Rattle.page_roff_blocks.specs.machine.Machine.{Frame, Running, Turning, depth, leaf_next, loop_next, end_next, next, weight, turns_of}
use Rattle.page_roff_effects.specs.declared.commands.ProductKind.{ProductKind}
use Rattle.page_roff_effects.specs.declared.commands.ProductKind.TheVariants as kinds
use Rattle.page_roff_effects.specs.machine.Acting.{with_arguments, IsCallable, IsRepeatable, acting_effects}
use Rattle.page_roff_effects.specs.laws.Views.{State}
use Rattle.page_roff_effects.specs.States.{Given, says, takes}
use Rattle.page_roff_stack.specs.declared.next.Next.{Next}
use Rattle.page_roff_stack.specs.declared.next.Next.TheVariants as things
use Rattle.page_roff_stack.specs.declared.movements.Movement.{Movement}
use Rattle.page_roff_stack.specs.declared.movements.Movement.TheVariants as moves
use Rattle.page_roff_stack.specs.machine.Stacks.{went, Stack, running, with_top, call_of, loop_of, next_of, is_part, opens_block, may_end, unpacked}
use Rattle.page_roff_stack.specs.machine.Stacks as stacks
use Rattle.page_roff_machine.specs.declared.budgeted_actions.BudgetedActions.{BudgetedActions}
use Rattle.page_roff_machine.specs.declared.acts.Act.{Act}
use Rattle.page_roff_machine.specs.declared.acts.Act.TheVariants as acts
use Rattle.page_roff_machine.specs.declared.acts.Progress.{Progress}
use Rattle.page_roff_machine.specs.declared.acts.Progress.TheVariants.{More, Line, Done}
use Rattle.page_roff_machine.specs.declared.runners.Runner.{Runner}
use Rattle.page_roff_machine.specs.machine.Doing.{Makes, IsIn, output_of, state_in, state_after, parts_of, line_of, done_as}

-- how a block is entered whose head leaves this, if it was run
abbrev pub way_after : Option Answer → BlockCursor → Way
way_after None cursor = Skips
way_after (Some a) cursor = way_of a.value (length cursor.levels.outer)

-- a true block beyond the limit of open ones
abbrev pub refused : Output → Option Answer → ℕ → BlockCursor → Budgeted State → Budgeted State
refused output answer column cursor s =
    refuse_if (meaning (acting_effects output) page) (way_after answer cursor) (record { column = column; branch = Else }) s

-- the stack moves on, and what was done is the state
unfoldable pub moved : Output → Act → Stack → List Given → BudgetedActions
    → Option (Running (Budgeted State))
moved output (acts.Move movement) s given b = Some (running (with_top (went movement s.top) s) (state_in given b))
moved output (acts.Leaf product) s given b =
    Some (leaf_next (language (acting_effects output)) (is_some (depth s.under)) (went (moves.Part passes.Leaf) s.top) s.under (done_as product b given))
moved output (acts.Block answer column) s given b =
    Some (running (with_top (went (moves.Part (passes.Block answer)) s.top) s)
    (refused output answer column s.top.cursor (state_in given b)))
moved output acts.BlockEnd s given b =
    Some (end_next (language (acting_effects output)) (meaning (acting_effects output) s.top.kind) (what_ends s.top.cursor.levels)
    (went (moves.Part passes.End) s.top) s.under (state_in given b))
moved output (acts.RegionLine product) s given b =
    Some (running (with_top (went moves.RegionLine s.top) s) (state_in (given ++ line_of product b.actions) b))
moved output acts.SourceEnd s given b = stacks.left s.under (state_in given b)

-- what came of a part, as a step
abbrev pub progress_as : ProductKind → Progress
progress_as kinds.Line = Line
progress_as _ = More

-- ---- the arguments of the innermost source

abbrev pub with_arguments_of : Kind → Runner → Runner
with_arguments_of kind r = record {
  stack = r.stack;
  doing = record { actions = with_arguments (arguments_of kind) r.doing.actions; budget = r.doing.budget };
}

-- the macro that was taken last is called
abbrev pub with_call : Runner → Runner
with_call r = record {
  stack = call_of r.doing.actions.call.body r.doing.actions.call.packed r.stack;
  doing = r.doing;
}

abbrev pub called : Runner → Runner
called r = with_arguments_of (body (Some (arguments_in r.doing.actions.call.packed))) (with_call r)

-- the loop that came last runs, with these arguments as they are packed
abbrev pub with_loop : Option (List ℕ) → Runner → Runner
with_loop packed r = record { stack = loop_of r.doing.actions.call.body packed r.stack; doing = r.doing }

-- they are those of the source in which it is
pub record Repeats (old new : Runner) : Type 0 where
  pub packed : Option (List ℕ)
  pub arguments : unpacked packed ≡ arguments_of old.stack.top.kind
  pub loop : new ≡ with_loop packed old

-- what was taken can run, if it is a macro or a loop
abbrev pub CanBegin : ProductKind → Stack → BudgetedActions → Type 0
CanBegin kinds.Call s b = IsCallable (is_some (depth s.under)) b.actions.call
CanBegin kinds.Loop s b = IsRepeatable (is_some (depth s.under)) b.actions.call.body
CanBegin _ s b = Unit {0}

-- ---- what is so of each source that runs

-- bodies have less than this weight: a byte of a line counts four times, and its end five times
abbrev pub HUGE : ℕ
HUGE = 100000

abbrev pub IsTurningWithin : Option Turning → Type 0
IsTurningWithin None = Unit {0}
IsTurningWithin (Some t) = suc (weight t.lines) ≤ HUGE

-- a region that is open is passed over
abbrev pub IsPassed : Option Opened → Type 0
IsPassed region = IfSome region (λ o. o.is_run ≡ false)

-- in each turn of a loop its body has less, and in a loop that is collected no region is run
pub record IsKept (f : Frame) : Type 0 where
  pub turning : IsTurningWithin f.turning
  pub region : f.cursor.levels.in_loop ≡ true → IsPassed f.region

abbrev pub AreKept : List Frame → Type 0
AreKept [] = Unit {0}
AreKept (f ∷ fs) = IsKept f × AreKept fs

abbrev pub frames_of : Stack → List Frame
frames_of s = s.top ∷ s.under

-- ---- one step

-- a block comes that is passed over
abbrev pub passes_block : Reached → Next (List ℕ) Opened → Bool
passes_block PassedOver x = opens_block x
passes_block _ x = false

-- the line that begins next
abbrev pub line_in : Next (List ℕ) Opened → List ℕ
line_in (things.Line line) = line
line_in _ = []

-- what of it belongs to the loop that is collected, if one is, was collected, without changing the stack
pub record Collects {P S : Type 0} (left : P → S → List Message → Type 0) (old : Runner) (out : S)
    (new : Runner) (out_new : S) : Type 0 where
  pub stack : new.stack ≡ old.stack
  pub does : Makes left old.doing out (λ kind. IsIn kind old.doing)
      (λ kind s. let l = old.stack.top.cursor.levels in collect_if (parts_of old.doing kind) l.in_loop l.skipped (line_in (next_of old.stack)) s)
      new.doing state_after out_new

-- what is so of each source that runs stays so
abbrev pub Keeps : Movement → Frame → Type 0
Keeps (moves.Region is_run) f = f.cursor.levels.in_loop ≡ true → is_run ≡ false
Keeps moves.Turn f = IsTurningWithin f.turning
Keeps _ f = Unit {0}

-- it is an act for what comes next
abbrev pub Suits : Act → Stack → BudgetedActions → Type 0
Suits (acts.Move movement) s b = stacks.Suits movement (next_of s) × Keeps movement s.top
Suits (acts.Leaf product) s b = CanBegin product s b
Suits (acts.Block answer column) s b = is_part (next_of s) ≡ true
Suits acts.SourceEnd s b = may_end (next_of s) ≡ true
Suits _ s b = Unit {0}

-- What comes next was done, without changing the stack: with this act the step of the definition is made.
pub record Decides {P S : Type 0} (left : P → S → List Message → Type 0) (old : Runner) (out : S)
    (result : Act) (new : Runner) (out_new : S) : Type 0 where
  pub stack : new.stack ≡ old.stack
  pub setting : new.doing.actions.setting ≡ old.doing.actions.setting
  pub notes : List Message
  pub came : Came left out notes out_new
  pub step : next (language (acting_effects (output_of old.doing))) (running old.stack (state_in [] old.doing))
      ≡ moved (output_of old.doing) result old.stack (map says notes) new.doing
  pub suits : Suits result old.stack new.doing

-- ---- after a step

-- what was reached: the line that was taken last is given too
unfoldable pub reached_with : Progress → List Given → Runner → Option (Running (Budgeted State))
reached_with More given r = Some (running r.stack (state_in given r.doing))
reached_with Line given r =
    Some (running r.stack (state_in (given ++ (takes r.doing.actions.line ∷ [])) r.doing))
reached_with Done given r = None

-- where a macro, a loop or a turn of a loop was begun, what is left of its lines has less
pub record IsBodyWithin (old new : Stack) : Type 0 where
  pub begins : length new.under ≡ suc (length old.under) → suc (weight new.top.lines) ≤ HUGE
  pub turns : length new.under ≡ length old.under → suc (turns_of new.top.turning) ≡ turns_of old.top.turning
      → suc (weight new.top.lines) ≤ HUGE

-- where nothing was left
abbrev pub IfDone : Progress → Type 0 → Type 0
IfDone More P = Unit {0}
IfDone Line P = Unit {0}
IfDone Done P = P

-- the stack moved on without a message
pub record Shifts (old : Runner) (act : Act) (result : Progress) (new : Runner) : Type 0 where
  pub output : output_of new.doing ≡ output_of old.doing
  pub setting : IsIn new.stack.top.kind new.doing
  pub step : (given : List Given) → moved (output_of old.doing) act old.stack given old.doing
      ≡ reached_with result given new
  pub body : IsBodyWithin old.stack new.stack
  pub frames : AreKept (frames_of old.stack) → AreKept (frames_of new.stack)

-- It went on from here: messages came, and perhaps a line was taken.
pub record Goes {P S : Type 0} (left : P → S → List Message → Type 0) (old : Runner) (out : S)
    (from : List Given → Option (Running (Budgeted State))) (result : Progress) (new : Runner) (out_new : S) : Type 0 where
  pub output : output_of new.doing ≡ output_of old.doing
  pub setting : IsIn new.stack.top.kind new.doing
  pub notes : List Message
  pub came : Came left out notes out_new
  pub step : (given : List Given) → from given ≡ reached_with result (given ++ map says notes) new
  pub body : IsBodyWithin old.stack new.stack
  pub frames : AreKept (frames_of old.stack) → AreKept (frames_of new.stack)
  -- a step never says that the source line is done
  pub not_done : IfDone result ⊥

-- the stack moved on
abbrev pub Moves : {P S : Type 0} → (P → S → List Message → Type 0) → Runner → S → Act → Progress → Runner → S → Type 0
Moves left old out act result new out_new =
    Goes left old out (λ given. moved (output_of old.doing) act old.stack given old.doing) result new out_new

-- a loop that is collected was whole
abbrev pub Closes : {P S : Type 0} → (P → S → List Message → Type 0) → Runner → S → Runner → S → Type 0
Closes left old out new out_new =
    Goes left old out (λ given. Some (loop_next (language (acting_effects (output_of old.doing))) old.stack.top old.stack.under (state_in given old.doing)))
    More new out_new
