-- What comes next is done, without changing the stack: helpers of proofs.
use Rattle.std.proofs.Common.{◌≡◌, ℕ, ◌<◌, ◌≤◌, ◌^◌, Bool, true, false, List, [], ◌∷◌, ◌++◌, map, drop, length, Option, Some, None, refl, sym, ap, ◌∙◌, arith}
use Rattle.page_core_base.specs.Messages.{Message}
use Rattle.page_core_base.specs.declared.page_settings.Output.{Output}
use Rattle.page_roff_heads.specs.declared.loops.LoopHead.{LoopHead}
use Rattle.page_roff_blocks.specs.declared.line_parts.LinePart.{LinePart}
use Rattle.page_roff_blocks.specs.declared.line_parts.LinePart.TheVariants.{Leaf, Guard, Block, Loop, End, Region}
use Rattle.page_roff_blocks.specs.declared.line_parts.Branch.{Branch}
use Rattle.page_roff_blocks.specs.declared.line_parts.Branch.TheVariants.{If, IfElse, Else}
use Rattle.page_roff_blocks.specs.declared.line_parts.Head.{Head}
use Rattle.page_roff_blocks.specs.declared.line_parts.Opening.{Opening}
use Rattle.page_roff_blocks.specs.declared.line_parts.Opening.TheVariants as openings
use Rattle.page_roff_blocks.specs.declared.levels.Ended.{Ended}
use Rattle.page_roff_blocks.specs.declared.levels.Ended.TheVariants as endings
use Rattle.page_roff_blocks.specs.declared.levels.Way.{Way}
use Rattle.page_roff_blocks.specs.declared.levels.Way.TheVariants.{Runs, Skips, Exceeds}
use Rattle.page_roff_syntax.specs.declared.region_heads.RegionHead.{RegionHead}
use Rattle.page_roff_blocks.specs.declared.block_cursors.Pass.TheVariants as passes
use Rattle.page_roff_blocks.specs.declared.block_cursors.Reached.{Reached}
use Rattle.page_roff_blocks.specs.declared.block_cursors.Reached.TheVariants.{PassedOver, First, Remainder}
use Rattle.page_roff_blocks.specs.Parts.{line_parts}
use Rattle.page_roff_blocks.specs.Forest.{Levels}
use Rattle.page_roff_blocks.specs.laws.Views.{BlockCursor, answered, after_part, guarded_by, passed, reached, reached_in, skip, what_ends, at_line, leave}
use Rattle.page_roff_syntax.specs.Regions.{Opened, opened}
use Rattle.page_roff_blocks.specs.machine.Steps.{Meaning, meet_as, value, refuse_if, keep_if, met, guard_with, guard_met, step_guard, block_with, opening_met, block_met, step_block, step_region, collect_if}
use Rattle.page_roff_blocks.specs.machine.Steps as steps
use Rattle.page_roff_blocks.specs.machine.Languages.{Kind, page, body, Language, is_some, meaning_by, meaning_at, finish_at, Budget, Budgeted, meaning, language, end_line}
use Rattle.page_roff_blocks.specs.machine.Machine as machine
use Rattle.page_roff_blocks.specs.machine.Machine.{Frame, Running, Turning, depth, at_part, between, leaf_next, loop_next, end_next, finish_if, part_next, line_next, region_next, next, HasMeasure, IsOnLine}
use Rattle.page_roff_effects.specs.declared.commands.ProductKind.{ProductKind}
use Rattle.page_roff_effects.specs.declared.commands.ProductKind.TheVariants as kinds
use Rattle.page_roff_effects.specs.machine.Acting.{IfCalled, IsCallable, IfRepeated, IsRepeatable, acting_effects, effects}
use Rattle.page_roff_effects.specs.laws.Views.{State}
use Rattle.page_roff_effects.specs.States.{Given, says}
use Rattle.page_roff_stack.specs.declared.next.Next.{Next}
use Rattle.page_roff_stack.specs.declared.next.Next.TheVariants.{Part, Line, RegionLine, Turn, SourceEnd, Nothing}
use Rattle.page_roff_stack.specs.machine.Stacks.{is_page, next_line, first_line_parts, first_region, region_of, past, Stack, running, with_top, has_begun, turn_in, turn_or_end, next_around, next_in, next_of, part_in, is_part, is_line, is_turn, may_end, is_nothing, end_of, turn_if, step_in, step_of}
use Rattle.page_roff_stack.specs.declared.movements.Movement.TheVariants as moves
use Rattle.page_roff_stack.specs.machine.Stacks as stacks
use Rattle.page_roff_stack.proofs.InputStackLemmas.{next_steps}
use Rattle.page_roff_machine.specs.declared.budgeted_actions.BudgetedActions.{BudgetedActions}
use Rattle.page_roff_machine.specs.declared.acts.Act.{Act}
use Rattle.page_roff_machine.specs.declared.acts.Act.TheVariants as acts
use Rattle.page_roff_machine.specs.declared.acts.Progress.TheVariants.{More}
use Rattle.page_roff_machine.specs.declared.runners.Runner.{Runner}
use Rattle.page_roff_machine.specs.machine.Doing.{HasRoom, output_of, state_in, state_after, answer_with, line_after, IsIn, IsAt, Makes, Does, Answers, parts_of, begun_in, answer_if, answer_after, answer_in, region_after, region_in, opens_if, opens_after, opened_in, collected_in, closes_after, passed_in, turned_in, leaf_if, leaf_after, leaf_in, line_of, done_as, read_kept_in, ended_kept_in, finished_in}
use Rattle.page_roff_machine.specs.machine.Moving.{refused, moved, reached_with, CanBegin, passes_block, line_in, Collects, Suits, Decides}
use Rattle.page_roff_machine.specs.machine.Stepping.{IsSound, Steps}
use Rattle.page_roff_machine.proofs.DoingLemmas.{came_none, stays, both, kind_after}
use Rattle.page_roff_machine.proofs.GoLemmas.{same_source}

-- ---- the meaning of parts, however many macros may run

module _ (output : Output) (d : ℕ) (kind : Kind) where
  m : Meaning (Budgeted State)
  m = meaning_at (language (acting_effects output)) d kind

  p : Meaning (Budgeted State)
  p = meaning (acting_effects output) kind

  met_same : (r : Reached) (s : Budgeted State) → meet_as m r s ≡ meet_as p r s
  unfolding m p meaning_at meaning_by language meet_as
  met_same PassedOver s = refl
  met_same First s = refl
  met_same Remainder s = refl

  value_same : (branch : Branch (List ℕ)) (bit : Bool) (s : Budgeted State) → value m branch bit s ≡ value p branch bit s
  unfolding m p meaning_at meaning_by language value
  value_same (If condition) bit s = refl
  value_same (IfElse condition) bit s = refl
  value_same Else bit s = refl

  answer_same_if : (branch : Branch (List ℕ)) (bit is_run : Bool) (s : Budgeted State) → answer_if m branch bit is_run s ≡ answer_if p branch bit is_run s
  answer_same_if branch bit true s = ap (λ (v : Bool × Budgeted State). (Some v.0, v.1)) (value_same branch bit s)
  answer_same_if branch bit false s = refl

  answer_same : (branch : Branch (List ℕ)) (bit : Bool) (r : Reached) (s : Budgeted State)
      → answer_after m branch bit (meet_as m r s) ≡ answer_after p branch bit (meet_as p r s)
  answer_same branch bit r s = grind (arith, met_same, answer_same_if)

  refuse_same : (way : Way) (h : Head (List ℕ)) (s : Budgeted State)
      → refuse_if m way h s ≡ refuse_if (meaning (acting_effects output) page) way (record { column = h.column; branch = Else }) s
  unfolding m meaning_at meaning_by language meaning effects refuse_if
  refuse_same Runs h s = refl
  refuse_same Skips h s = refl
  refuse_same Exceeds h s = refl

  -- heads of conditionals
  guard_same_if : (h : Head (List ℕ)) (is_run : Bool) (cursor : BlockCursor) (s : Budgeted State)
      → guard_met m is_run h cursor s ≡ (let a = answer_if m h.branch cursor.levels.bit is_run s in (passed (passes.Guard (answered h.branch cursor.levels.bit a.0)) cursor, a.1))
  unfolding guard_met guard_with guarded_by
  guard_same_if h true cursor s = refl
  guard_same_if h false cursor s = refl

  guard_same : (h : Head (List ℕ)) (cursor : BlockCursor) (s : Budgeted State)
      → step_guard m h cursor s ≡ (let a = answer_after p h.branch cursor.levels.bit (meet_as p (reached cursor) s) in (passed (passes.Guard (answered h.branch cursor.levels.bit a.0)) cursor, a.1))
  unfolding step_guard met
  guard_same h cursor s = grind (arith, guard_same_if, answer_same)

  block_same_if : (h : Head (List ℕ)) (is_run : Bool) (cursor : BlockCursor) (s : Budgeted State)
      → block_met m is_run (openings.Conditional h) cursor s
      ≡ (let a = answer_if m h.branch cursor.levels.bit is_run s in (passed (passes.Block (answered h.branch cursor.levels.bit a.0)) cursor, refused output (answered h.branch cursor.levels.bit a.0) h.column cursor a.1))
  unfolding block_met opening_met block_with refuse_if
  block_same_if h true cursor s = grind (arith, refuse_same)
  block_same_if h false cursor s = refl

  block_same : (h : Head (List ℕ)) (cursor : BlockCursor) (s : Budgeted State)
      → step_block m (openings.Conditional h) cursor s
      ≡ (let a = answer_after p h.branch cursor.levels.bit (meet_as p (reached cursor) s) in (passed (passes.Block (answered h.branch cursor.levels.bit a.0)) cursor, refused output (answered h.branch cursor.levels.bit a.0) h.column cursor a.1))
  unfolding step_block met
  block_same h cursor s = grind (arith, block_same_if, answer_same)

  passed_same : (h : Opening (List ℕ)) (cursor : BlockCursor) (s : Budgeted State) → reached cursor ≡ PassedOver → step_block m h cursor s ≡ (after_part (skip cursor.levels), s)
  unfolding step_block met meet_as block_met
  passed_same h cursor s e = rw e refl

  -- heads of loops
  opening_same_if : (h : LoopHead (List ℕ)) (is_run : Bool) (cursor : BlockCursor) (s : Budgeted State)
      → block_met m is_run (openings.Loop h) cursor s ≡ (let q = opens_if p h is_run s in (passed (passes.Loop q.0) cursor, q.1))
  unfolding block_met opening_met m p meaning_at meaning_by language
  opening_same_if h true cursor s = refl
  opening_same_if h false cursor s = refl

  opening_same : (h : LoopHead (List ℕ)) (cursor : BlockCursor) (s : Budgeted State)
      → step_block m (openings.Loop h) cursor s ≡ (let q = opens_after p h (meet_as p (reached cursor) s) in (passed (passes.Loop q.0) cursor, q.1))
  unfolding step_block met
  opening_same h cursor s = grind (arith, opening_same_if, met_same)

  loop_same_if : (may_run is_run : Bool) (h : LoopHead (List ℕ)) (f : Frame) (under : List Frame) (s : Budgeted State) → is_some (depth under) ≡ may_run
      → machine.loop_if (language (acting_effects output)) m is_run h f under s
      ≡ leaf_next (language (acting_effects output)) may_run f under (closes_after (language (acting_effects output)) may_run (opens_if p h is_run s))
  unfolding machine.loop_if loop_next leaf_next m p meaning_at meaning_by language
  loop_same_if true true h f under s e = rw e refl
  loop_same_if false true h f under s e = rw e refl
  loop_same_if true false h f under s e = refl
  loop_same_if false false h f under s e = refl

  -- the end of a block
  end_same : (ended : Ended) (f : Frame) (under : List Frame) (s : Budgeted State)
      → end_next (language (acting_effects output)) m ended f under s ≡ end_next (language (acting_effects output)) p ended f under s
  unfolding end_next m p meaning_at meaning_by language
  end_same endings.Block f under s = refl
  end_same endings.Loop f under s = refl
  end_same endings.Nothing f under s = refl

  -- lines in a loop that is collected
  keep_same : (in_loop : Bool) (line : List ℕ) (s : Budgeted State) → keep_if m in_loop line s ≡ keep_if p in_loop line s
  unfolding keep_if m p meaning_at meaning_by language
  keep_same true line s = refl
  keep_same false line s = refl

  begin_same_if : (in_loop : Bool) (skipped : ℕ) (line : List ℕ) (s : Budgeted State)
      → collect_if m in_loop skipped line (m.begins line s) ≡ collect_if p in_loop skipped line (p.begins line s)
  unfolding collect_if m p meaning_at meaning_by language
  begin_same_if true skipped line s = refl
  begin_same_if false skipped line s = refl

  begin_same : (line : List ℕ) (l : Levels) (s : Budgeted State)
      → steps.begin_line m line l s ≡ collect_if p l.in_loop l.skipped line (p.begins line s)
  unfolding steps.begin_line
  begin_same line l s = begin_same_if l.in_loop l.skipped line s

-- a leaf, passed over or run
leaf_same : (l : Language (Budgeted State)) (may_call is_run : Bool) (text : List ℕ) (f : Frame) (under : List Frame) (s : Budgeted State) → is_some (depth under) ≡ may_call
    → machine.leaf_if l is_run text f under s ≡ leaf_next l may_call f under (leaf_if l may_call f.kind text is_run s)
unfolding machine.leaf_if leaf_next
leaf_same l true true text f under s e = rw e refl
leaf_same l false true text f under s e = rw e refl
leaf_same l true false text f under s e = refl
leaf_same l false false text f under s e = refl

-- ---- what comes next

-- the step, from what was looked at
pub step_next : (output : Output) (s : Stack) (x : Next (List ℕ) Opened) (state : Budgeted State) → x ≡ next_of s
    → let l = language (acting_effects output) in
    next l (running s state) ≡ step_in l (meaning_at l (depth s.under) s.top.kind) x s.top.parts s.top.lines s.top s.under state
unfolding step_of
step_next output s x state e = grind (arith, next_steps)

pub is_the_line : (x : Next (List ℕ) Opened) → is_line x ≡ true → Line (line_in x) ≡ x
is_the_line (Line line) e = refl
is_the_line _ e = absurd (cc)

-- the part that comes next
pub is_the_part : (x : Next (List ℕ) Opened) (part : LinePart (List ℕ)) → Some part ≡ part_in x → Part part ≡ x
is_the_part (Part first) part e = let k : part ≡ first = cc in ap (λ part. Part part) k
is_the_part _ part e = absurd (cc)

pub is_nothing_next : (x : Next (List ℕ) Opened) → is_nothing x ≡ true → Nothing ≡ x
is_nothing_next Nothing e = refl
is_nothing_next _ e = absurd (cc)

-- where nothing is left of a source no line comes
abbrev is_around : Next (List ℕ) Opened → Bool
is_around (Turn region begun condition) = true
is_around (SourceEnd region begun) = true
is_around Nothing = true
is_around _ = false

end_or_turn : (turn : Option (List ℕ)) (region : Option Opened) (begun : Bool) → is_around (turn_or_end turn region begun) ≡ true
end_or_turn None region begun = refl
end_or_turn (Some condition) region begun = refl

end_around : (turning : Option Turning) (region : Option Opened) (under : List Frame) → is_around (next_around turning region under) ≡ true
end_around turning region [] = refl
end_around turning region (f ∷ fs) = end_or_turn (turn_in turning) region (has_begun turning)

not_around : (turning : Option Turning) (region : Option Opened) (under : List Frame) (x : Next (List ℕ) Opened) → is_around x ≡ false → x ≡ next_around turning region under → ⊥
not_around turning region under x none e = let k : is_around x ≡ true = ap is_around e ∙ end_around turning region under in cc

part_first : (turning : Option Turning) (region : Option Opened) (parts : List (LinePart (List ℕ))) (lines : List (List ℕ)) (under : List Frame) (part : LinePart (List ℕ)) (is_run : Bool)
    → Part part ≡ next_in turning region parts lines under → first_region is_run parts ≡ region_of is_run part
part_first turning None (first ∷ more) lines under part is_run e = let k : first ≡ part = cc in ap (region_of is_run) k
part_first turning None [] (first ∷ more) under part is_run e = absurd (cc)
part_first turning None [] [] under part is_run e = absurd (not_around turning None under (Part part) refl e)
part_first turning (Some o) parts (first ∷ more) under part is_run e = absurd (cc)
part_first turning (Some o) parts [] under part is_run e = absurd (not_around turning (Some o) under (Part part) refl e)

-- the region of the head that comes next
region_there : (s : Stack) (part : LinePart (List ℕ)) (is_run : Bool) → Part part ≡ next_of s → first_region is_run s.top.parts ≡ region_of is_run part
region_there s part is_run e = part_first s.top.turning s.top.region s.top.parts s.top.lines s.under part is_run e

line_first : (turning : Option Turning) (region : Option Opened) (parts : List (LinePart (List ℕ))) (lines : List (List ℕ)) (under : List Frame) (line : List ℕ)
    → Line line ≡ next_in turning region parts lines under → (first_line_parts lines ≡ line_parts line) × (region ≡ None) × (0 < length lines)
line_first turning None (part ∷ more) lines under line e = absurd (cc)
line_first turning None [] (first ∷ more) under line e = let k : first ≡ line = cc in (ap line_parts k, refl, omega arith)
line_first turning None [] [] under line e = absurd (not_around turning None under (Line line) refl e)
line_first turning (Some o) parts (first ∷ more) under line e = absurd (cc)
line_first turning (Some o) parts [] under line e = absurd (not_around turning (Some o) under (Line line) refl e)

pub line_there : (s : Stack) (line : List ℕ) → Line line ≡ next_of s → 0 < length s.top.lines
line_there s line e = (line_first s.top.turning s.top.region s.top.parts s.top.lines s.under line e).2

region_first : (turning : Option Turning) (region : Option Opened) (parts : List (LinePart (List ℕ))) (lines : List (List ℕ)) (under : List Frame) (o : Opened) (line : List ℕ) (is_last : Bool)
    → RegionLine o line is_last ≡ next_in turning region parts lines under → (region ≡ Some o) × (0 < length lines)
region_first turning None (part ∷ more) lines under o line is_last e = absurd (cc)
region_first turning None [] (first ∷ more) under o line is_last e = absurd (cc)
region_first turning None [] [] under o line is_last e = absurd (not_around turning None under (RegionLine o line is_last) refl e)
region_first turning (Some p) parts (first ∷ more) under o line is_last e = let k : p ≡ o = cc in (ap (λ o. Some o) k, omega arith)
region_first turning (Some p) parts [] under o line is_last e = absurd (not_around turning (Some p) under (RegionLine o line is_last) refl e)

pub region_line_there : (s : Stack) (o : Opened) (line : List ℕ) (is_last : Bool) → RegionLine o line is_last ≡ next_of s → 0 < length s.top.lines
region_line_there s o line is_last e = (region_first s.top.turning s.top.region s.top.parts s.top.lines s.under o line is_last e).1

-- in a loop that is collected a region is passed over
pub region_passed : (r : Runner) (o : Opened) (line : List ℕ) (is_last in_loop : Bool) → RegionLine o line is_last ≡ next_of r.stack → in_loop ≡ r.stack.top.cursor.levels.in_loop
    → IsSound r → in_loop ≡ true → o.is_run ≡ false
region_passed r o line is_last in_loop e el sound h = grind (arith, region_first)

-- ---- room for the count of lines

room_of : (is_page_now : Bool) (b : Budget) → b.taken ≤ 2 ^ 62 → HasRoom is_page_now b
room_of true b h = h
room_of false b h = tt

no_room : (kind : Kind) (b : Budget) → (kind ≡ page → ⊥) → HasRoom (is_page kind) b
no_room page b h = absurd (h refl)
no_room (body args) b h = tt

-- only the first line of the page begins there
pub room : (r : Runner) → IsSound r → 0 < length r.stack.top.lines → HasRoom (is_page r.stack.top.kind) r.doing.budget
unfolding HasMeasure IsOnLine
room r sound h = grind (arith, room_of, no_room)

-- ---- deciding

-- what was taken can run
can_call : (product : ProductKind) (may_call : Bool) (s : Stack) (b : BudgetedActions) → may_call ≡ is_some (depth s.under)
    → IfCalled product (IsCallable may_call b.actions.call) → CanBegin product s b
can_call kinds.Call may_call s b e h = rw (← e) h
can_call kinds.Loop may_call s b e h = absurd h
can_call _ may_call s b e h = tt

can_repeat : (product : ProductKind) (may_run : Bool) (s : Stack) (b : BudgetedActions) → may_run ≡ is_some (depth s.under)
    → IfRepeated product (IsRepeatable may_run b.actions.call.body) → CanBegin product s b
can_repeat kinds.Nothing may_run s b e h = tt
can_repeat kinds.Loop may_run s b e h = rw (← e) h
can_repeat _ may_run s b e h = absurd h

reached_in_loop : (cursor : BlockCursor) → cursor.levels.in_loop ≡ true → reached cursor ≡ PassedOver
unfolding reached reached_in
reached_in_loop cursor e = rw e refl

-- a source that was begun ends
finish_same : (b : BudgetedActions) (begun : Bool) (region : Option Opened) (f : Frame) (s : Budgeted State)
    → finish_if (language (acting_effects (output_of b))) begun (end_of region f s) ≡ finished_in b begun region f.cursor.levels.in_loop f.kind s
unfolding finish_if finish_at
finish_same b true region f s = refl
finish_same b false region f s = refl

decided : {P S A : Type 0} {left : P → S → List Message → Type 0} {old : Runner} {new : BudgetedActions} {out out_new : S} {suits : Kind → Type 0}
    {does : Kind → Budgeted State → A} {to : BudgetedActions → List Given → A} (result : Act) (a : Makes left old.doing out suits does new to out_new)
    → next (language (acting_effects (output_of old.doing))) (running old.stack (state_in [] old.doing)) ≡ moved (output_of old.doing) result old.stack (map says a.notes) new
    → Suits result old.stack new → Decides left old out result (record { stack = old.stack; doing = new }) out_new
decided result a step suits = record { stack = refl; setting = a.setting; notes = a.notes; came = a.came; step = step; suits = suits }

module _ {P S : Type 0} (left : P → S → List Message → Type 0) (old : Runner) (new : BudgetedActions) (out out_new : S) where
  abbrev pub output : Output
  output = output_of old.doing

  abbrev pub s : Stack
  s = old.stack

  abbrev pub d : ℕ
  d = depth old.stack.under

  abbrev pub state : Budgeted State
  state = state_in [] old.doing

  pub decides_leaf : (text : List ℕ) (r : Reached) (may_call : Bool) (result : ProductKind)
      → Part (Leaf text) ≡ next_of old.stack → r ≡ reached old.stack.top.cursor → may_call ≡ is_some (depth old.stack.under)
      → IsIn old.stack.top.kind old.doing
      → Makes left old.doing out (λ kind. IsIn kind old.doing) (leaf_in old.doing may_call text r) new (done_as result) out_new
      → IfCalled result (IsCallable may_call new.actions.call)
      → Decides left old out (acts.Leaf result) (record { stack = old.stack; doing = new }) out_new
  unfolding moved step_in part_next met at_part p meaning meet_as leaf_next language meaning_at meaning_by m
  decides_leaf text r may_call result e er em k a callable =
      let l = language (acting_effects output) in
      let f = past (after_part s.top.cursor.levels) s.top in
      let q = meet_as (meaning_at l d s.top.kind) (reached s.top.cursor) state in
      decided _ a
      (step_next output s (Part (Leaf text)) state e
      ∙ ap (λ next. Some next) (leaf_same l may_call q.0 text f s.under q.1 (sym em))
      ∙ ap (λ (q : Bool × Budgeted State). Some (leaf_next l may_call f s.under (leaf_after l may_call s.top.kind text q)))
      (met_same output d s.top.kind (reached s.top.cursor) state ∙ ap (λ r. meet_as (meaning (acting_effects output) s.top.kind) r state) (sym er))
      ∙ ap (λ done. Some (leaf_next l may_call f s.under done)) (a.state s.top.kind k [])
      ∙ ap (λ may_call. Some (leaf_next l may_call f s.under (done_as result new (map says a.notes)))) em)
      (can_call result may_call s new em callable)

  pub decides_loop : (head : LoopHead (List ℕ)) (r : Reached) (may_run : Bool) (result : ProductKind)
      → Part (Loop head) ≡ next_of old.stack → r ≡ reached old.stack.top.cursor → may_run ≡ is_some (depth old.stack.under)
      → IsIn old.stack.top.kind old.doing
      → Makes left old.doing out (λ kind. IsIn kind old.doing) (passed_in old.doing may_run head r) new (done_as result) out_new
      → IfRepeated result (IsRepeatable may_run new.actions.call.body)
      → Decides left old out (acts.Leaf result) (record { stack = old.stack; doing = new }) out_new
  unfolding moved step_in part_next met at_part p meaning meet_as language meaning_at meaning_by m
  decides_loop head r may_run result e er em k a repeatable =
      let l = language (acting_effects output) in
      let f = past (after_part s.top.cursor.levels) s.top in
      let q = meet_as (meaning_at l d s.top.kind) (reached s.top.cursor) state in
      decided _ a
      (step_next output s (Part (Loop head)) state e
      ∙ ap (λ next. Some next) (loop_same_if output d s.top.kind may_run q.0 head f s.under q.1 (sym em))
      ∙ ap (λ (q : Bool × Budgeted State). Some (leaf_next l may_run f s.under (closes_after l may_run (opens_after (parts_of old.doing s.top.kind) head q))))
      (met_same output d s.top.kind (reached s.top.cursor) state ∙ ap (λ r. meet_as (meaning (acting_effects output) s.top.kind) r state) (sym er))
      ∙ ap (λ done. Some (leaf_next l may_run f s.under done)) (a.state s.top.kind k [])
      ∙ ap (λ may_run. Some (leaf_next l may_run f s.under (done_as result new (map says a.notes)))) em)
      (can_repeat result may_run s new em repeatable)

  pub decides_guard : (h : Head (List ℕ)) (r : Reached) (bit : Bool) (result : Option Bool)
      → Part (Guard h) ≡ next_of old.stack → r ≡ reached old.stack.top.cursor → bit ≡ old.stack.top.cursor.levels.bit
      → IsIn old.stack.top.kind old.doing
      → Answers left old.doing out (answer_in old.doing h.branch bit r) result new out_new
      → Decides left old out (acts.Move (moves.Part (passes.Guard (answered h.branch bit result)))) (record { stack = old.stack; doing = new }) out_new
  unfolding moved step_in part_next p meet_as at_part meaning_at meaning_by m
  decides_guard h r bit result e er eb k a =
      let to : BlockCursor × Budgeted State → Option (Running (Budgeted State)) = λ t. Some (running (with_top (past t.0 s.top) s) t.1) in
      decided _ a
      (step_next output s (Part (Guard h)) state e
      ∙ ap to (guard_same output d s.top.kind h s.top.cursor state)
      ∙ ap (λ (a : Option Bool × Budgeted State). to (passed (passes.Guard (answered h.branch s.top.cursor.levels.bit a.0)) s.top.cursor, a.1))
      (ap (λ r. answer_in old.doing h.branch s.top.cursor.levels.bit r s.top.kind state) (sym er)
      ∙ ap (λ bit. answer_in old.doing h.branch bit r s.top.kind state) (sym eb)
      ∙ a.state s.top.kind k [])
      ∙ ap (λ bit. to (passed (passes.Guard (answered h.branch bit result)) s.top.cursor, state_in (map says a.notes) new)) (sym eb))
      (tt, tt)

  pub decides_block : (h : Head (List ℕ)) (r : Reached) (bit : Bool) (result : Option Bool)
      → Part (Block (openings.Conditional h)) ≡ next_of old.stack → r ≡ reached old.stack.top.cursor → bit ≡ old.stack.top.cursor.levels.bit
      → IsIn old.stack.top.kind old.doing
      → Answers left old.doing out (answer_in old.doing h.branch bit r) result new out_new
      → Decides left old out (acts.Block (answered h.branch bit result) h.column) (record { stack = old.stack; doing = new }) out_new
  unfolding moved step_in part_next p meet_as at_part meaning_at meaning_by m
  decides_block h r bit result e er eb k a =
      let to : BlockCursor × Budgeted State → Option (Running (Budgeted State)) = λ t. Some (running (with_top (past t.0 s.top) s) t.1) in
      decided _ a
      (step_next output s (Part (Block (openings.Conditional h))) state e
      ∙ ap to (block_same output d s.top.kind h s.top.cursor state)
      ∙ ap (λ (a : Option Bool × Budgeted State). let answer = answered h.branch s.top.cursor.levels.bit a.0 in to (passed (passes.Block answer) s.top.cursor, refused output answer h.column s.top.cursor a.1))
      (ap (λ r. answer_in old.doing h.branch s.top.cursor.levels.bit r s.top.kind state) (sym er)
      ∙ ap (λ bit. answer_in old.doing h.branch bit r s.top.kind state) (sym eb)
      ∙ a.state s.top.kind k [])
      ∙ ap (λ bit. let answer = answered h.branch bit result in to (passed (passes.Block answer) s.top.cursor, refused output answer h.column s.top.cursor (state_in (map says a.notes) new))) (sym eb))
      (ap is_part (sym e))

  pub decides_open_loop : (head : LoopHead (List ℕ)) (r : Reached) (result : Bool)
      → Part (Block (openings.Loop head)) ≡ next_of old.stack → r ≡ reached old.stack.top.cursor
      → IsIn old.stack.top.kind old.doing
      → Answers left old.doing out (opened_in old.doing head r) result new out_new
      → Decides left old out (acts.Move (moves.Part (passes.Loop result))) (record { stack = old.stack; doing = new }) out_new
  unfolding moved step_in part_next p meet_as at_part meaning_at meaning_by m
  decides_open_loop head r result e er k a =
      let to : BlockCursor × Budgeted State → Option (Running (Budgeted State)) = λ t. Some (running (with_top (past t.0 s.top) s) t.1) in
      decided _ a
      (step_next output s (Part (Block (openings.Loop head))) state e
      ∙ ap to (opening_same output d s.top.kind head s.top.cursor state)
      ∙ ap (λ (q : Bool × Budgeted State). to (passed (passes.Loop q.0) s.top.cursor, q.1))
      (ap (λ r. opened_in old.doing head r s.top.kind state) (sym er) ∙ a.state s.top.kind k []))
      (ap is_part (sym e), tt)

  pub decides_region : (head : RegionHead (List ℕ)) (r : Reached) (result : Bool)
      → Part (Region head) ≡ next_of old.stack → r ≡ reached old.stack.top.cursor
      → IsIn old.stack.top.kind old.doing
      → Answers left old.doing out (region_in old.doing head r) result new out_new
      → Decides left old out (acts.Move (moves.Region result)) (record { stack = old.stack; doing = new }) out_new
  unfolding moved step_in part_next step_region met meaning_at meaning_by language p meet_as at_line between opened m
  decides_region head r result e er k a =
      let frame : Option Opened → Frame =
      λ region. record { kind = s.top.kind; region = region; parts = []; cursor = at_line s.top.cursor.levels; lines = s.top.lines; turning = s.top.turning } in
      let to : Bool × Budgeted State → Option (Running (Budgeted State)) = λ t. Some (running (with_top (frame (Some (opened head t.0))) s) t.1) in
      decided _ a
      (step_next output s (Part (Region head)) state e
      ∙ ap (λ (q : Bool × Budgeted State). to (region_after (parts_of old.doing s.top.kind) head q))
      (met_same output d s.top.kind (reached s.top.cursor) state ∙ ap (λ r. meet_as (parts_of old.doing s.top.kind) r state) (sym er))
      ∙ ap to (a.state s.top.kind k [])
      ∙ ap (λ region. Some (running (with_top (frame region) s) (state_in (map says a.notes) new))) (sym (region_there s (Region head) result e)))
      (ap is_part (sym e), λ h. sym (ap (λ (q : Bool × Budgeted State). q.0) (a.state s.top.kind k [])) ∙ ap (λ r. (meet_as (parts_of old.doing s.top.kind) r state).0) (er ∙ reached_in_loop s.top.cursor h))

  pub decides_region_line : (o : Opened) (line : List ℕ) (is_page_now in_loop : Bool) (result : ProductKind)
      → RegionLine o line false ≡ next_of old.stack → is_page_now ≡ is_page old.stack.top.kind → in_loop ≡ old.stack.top.cursor.levels.in_loop
      → IsIn old.stack.top.kind old.doing
      → Makes left old.doing out (IsAt is_page_now old.doing) (read_kept_in old.doing in_loop o line) new (line_after result) out_new
      → Decides left old out (acts.RegionLine result) (record { stack = old.stack; doing = new }) out_new
  unfolding moved step_in region_next between m p meaning_at meaning_by language
  decides_region_line o line is_page_now in_loop result e ep el k a =
      let to : Option Opened → Budgeted State → Option (Running (Budgeted State)) =
      λ region state.
      Some (running (with_top (record { kind = s.top.kind; region = region; parts = []; cursor = at_line s.top.cursor.levels; lines = drop 1 s.top.lines; turning = s.top.turning }) s) state) in
      decided _ a
      (step_next output s (RegionLine o line false) state e
      ∙ ap (to (Some o))
      (keep_same output d s.top.kind s.top.cursor.levels.in_loop line ((parts_of old.doing s.top.kind).reads o line state)
      ∙ ap (λ in_loop. read_kept_in old.doing in_loop o line s.top.kind state) (sym el)
      ∙ a.state s.top.kind (record { page = sym ep; setting = k }) [])
      ∙ ap (λ region. to region (state_in (map says a.notes ++ line_of result new.actions) new))
      (sym (region_first s.top.turning s.top.region s.top.parts s.top.lines s.under o line false e).0))
      tt

  pub decides_region_end : (o : Opened) (line : List ℕ) (is_page_now in_loop : Bool)
      → RegionLine o line true ≡ next_of old.stack → is_page_now ≡ is_page old.stack.top.kind → in_loop ≡ old.stack.top.cursor.levels.in_loop
      → IsIn old.stack.top.kind old.doing
      → Makes left old.doing out (IsAt is_page_now old.doing) (ended_kept_in old.doing in_loop o line) new state_after out_new
      → Decides left old out (acts.Move moves.RegionEnd) (record { stack = old.stack; doing = new }) out_new
  unfolding moved step_in region_next between m p meaning_at meaning_by language meaning end_line effects
  decides_region_end o line is_page_now in_loop e ep el k a =
      let to : Budgeted State → Option (Running (Budgeted State)) =
      λ state. Some (running (with_top (record { kind = s.top.kind; region = None; parts = []; cursor = at_line s.top.cursor.levels; lines = drop 1 s.top.lines; turning = s.top.turning }) s) state) in
      decided _ a
      (step_next output s (RegionLine o line true) state e
      ∙ ap to
      (keep_same output d s.top.kind s.top.cursor.levels.in_loop line ((parts_of old.doing s.top.kind).ends_region o line state)
      ∙ ap (λ in_loop. ended_kept_in old.doing in_loop o line s.top.kind state) (sym el)
      ∙ a.state s.top.kind (record { page = sym ep; setting = k }) []))
      (tt, tt)

  pub decides_source_end : (region : Option Opened) (begun in_loop : Bool)
      → SourceEnd region begun ≡ next_of old.stack → in_loop ≡ old.stack.top.cursor.levels.in_loop
      → IsIn old.stack.top.kind old.doing
      → Does left old.doing out (finished_in old.doing begun region in_loop) new out_new
      → Decides left old out acts.SourceEnd (record { stack = old.stack; doing = new }) out_new
  unfolding moved step_in
  decides_source_end region begun in_loop e el k a =
      decided _ a
      (step_next output s (SourceEnd region begun) state e
      ∙ ap (λ state. stacks.left s.under state)
      (finish_same old.doing begun region s.top state
      ∙ ap (λ in_loop. finished_in old.doing begun region in_loop s.top.kind state) (sym el)
      ∙ a.state s.top.kind k []))
      (ap may_end (sym e))

-- ---- turns of loops

module _ {P S : Type 0} (left : P → S → List Message → Type 0) (old : Runner) (mid new : BudgetedActions) (out out_mid out_new : S) where
  -- the turn before it ends, and it comes
  turns_after : (region : Option Opened) (begun in_loop : Bool) (condition : List ℕ) (result : Bool)
      → Does left old.doing out (finished_in old.doing begun region in_loop) mid out_mid
      → Answers left mid out_mid (turned_in mid condition) result new out_new
      → Answers left old.doing out (λ kind s. turned_in old.doing condition kind (finished_in old.doing begun region in_loop kind s)) result new out_new
  turns_after region begun in_loop condition result a t =
      both left old.doing mid new out out_mid out_new (λ kind. IsIn kind old.doing) (λ kind. IsIn kind mid)
      (finished_in old.doing begun region in_loop) (turned_in old.doing condition) (turned_in mid condition)
      state_after (answer_with result) a t
      (kind_after left old.doing mid a.setting)
      (λ kind k given.
      ap (λ (output : Output). (language (acting_effects output)).turn kind condition (state_in given mid))
      (sym (ap (λ setting. setting.output) a.setting)))

  turn_step : (region : Option Opened) (begun in_loop : Bool) (condition : List ℕ) (result : Bool)
      → Turn region begun condition ≡ next_of old.stack → in_loop ≡ old.stack.top.cursor.levels.in_loop
      → IsIn old.stack.top.kind old.doing
      → (a : Answers left old.doing out (λ kind s. turned_in old.doing condition kind (finished_in old.doing begun region in_loop kind s)) result new out_new)
      → next (language (acting_effects (output_of old.doing))) (running old.stack (state_in [] old.doing))
      ≡ turn_if result old.stack.top old.stack.under (state_in (map says a.notes) new)
  unfolding step_in
  turn_step region begun in_loop condition result e el k a =
      let output = output_of old.doing in
      let s = old.stack in
      let state = state_in [] old.doing in
      step_next output s (Turn region begun condition) state e
      ∙ ap (λ (t : Budgeted State). let v = turned_in old.doing condition s.top.kind t in turn_if v.0 s.top s.under v.1)
      (finish_same old.doing begun region s.top state ∙ ap (λ in_loop. finished_in old.doing begun region in_loop s.top.kind state) (sym el))
      ∙ ap (λ (v : Bool × Budgeted State). turn_if v.0 s.top s.under v.1) (a.state s.top.kind k [])

  pub decides_turn : (region : Option Opened) (begun in_loop : Bool) (condition : List ℕ)
      → Turn region begun condition ≡ next_of old.stack → in_loop ≡ old.stack.top.cursor.levels.in_loop
      → IsSound old
      → Does left old.doing out (finished_in old.doing begun region in_loop) mid out_mid
      → Answers left mid out_mid (turned_in mid condition) true new out_new
      → Decides left old out (acts.Move moves.Turn) (record { stack = old.stack; doing = new }) out_new
  unfolding moved
  decides_turn region begun in_loop condition e el sound f t =
      let a = turns_after region begun in_loop condition true f t in
      decided _ a
      (turn_step region begun in_loop condition true e el sound.setting a)
      (ap is_turn (sym e), sound.frames.0.turning)

  pub decides_last_turn : (region : Option Opened) (begun in_loop : Bool) (condition : List ℕ)
      → Turn region begun condition ≡ next_of old.stack → in_loop ≡ old.stack.top.cursor.levels.in_loop
      → IsSound old
      → Does left old.doing out (finished_in old.doing begun region in_loop) mid out_mid
      → Answers left mid out_mid (turned_in mid condition) false new out_new
      → Decides left old out acts.SourceEnd (record { stack = old.stack; doing = new }) out_new
  unfolding moved
  decides_last_turn region begun in_loop condition e el sound f t =
      let a = turns_after region begun in_loop condition false f t in
      decided _ a
      (turn_step region begun in_loop condition false e el sound.setting a)
      (ap may_end (sym e))

-- ---- a line begins

module _ {P S : Type 0} (left : P → S → List Message → Type 0) (old : Runner) where
  -- a line outside of loops
  pub collects_nothing : (out : S) → old.stack.top.cursor.levels.in_loop ≡ false → Collects left old out old out
  unfolding collect_if
  collects_nothing out e = grind (arith, stays)

  -- a line in the loop that is collected
  pub collects_here : (doing : BudgetedActions) (out out_new : S) (line : List ℕ) (open_blocks : ℕ) → old.stack.top.cursor.levels.in_loop ≡ true
      → open_blocks ≡ old.stack.top.cursor.levels.skipped → Line line ≡ next_of old.stack
      → Does left old.doing out (collected_in old.doing open_blocks line) doing out_new
      → Collects left old out (record { stack = old.stack; doing = doing }) out_new
  unfolding collect_if
  collects_here doing out out_new line open_blocks e eb el a = grind arith

module _ {P S : Type 0} (left : P → S → List Message → Type 0) (old collected : Runner) (mid : BudgetedActions) (out out_mid out_new : S) where
  -- its line feed comes first, and then what of it belongs to the loop
  begins_in : (is_page_now : Bool)
      → Makes left old.doing out (IsAt is_page_now old.doing) (begun_in old.doing) mid state_after out_mid
      → Collects left (record { stack = old.stack; doing = mid }) out_mid collected out_new
      → Makes left old.doing out (IsAt is_page_now old.doing)
      (λ kind s. let l = old.stack.top.cursor.levels in
      collect_if (parts_of old.doing kind) l.in_loop l.skipped (line_in (next_of old.stack)) (begun_in old.doing kind s))
      collected.doing state_after out_new
  begins_in is_page_now a c =
      let l = old.stack.top.cursor.levels in
      let line = line_in (next_of old.stack) in
      both left old.doing mid collected.doing out out_mid out_new (IsAt is_page_now old.doing) (λ kind. IsIn kind mid)
      (begun_in old.doing) (λ kind s. collect_if (parts_of old.doing kind) l.in_loop l.skipped line s)
      (λ kind s. collect_if (parts_of mid kind) l.in_loop l.skipped line s)
      state_after state_after a c.does
      (λ kind k. kind_after left old.doing mid a.setting kind k.setting)
      (λ kind k given.
      ap (λ (output : Output). collect_if (meaning (acting_effects output) kind) l.in_loop l.skipped line (state_in given mid))
      (sym (ap (λ setting. setting.output) a.setting)))

  pub begins : (is_page_now : Bool) (stack : Stack)
      → is_line (next_of old.stack) ≡ true → is_page_now ≡ is_page old.stack.top.kind
      → IsIn old.stack.top.kind old.doing
      → Makes left old.doing out (IsAt is_page_now old.doing) (begun_in old.doing) mid state_after out_mid
      → Collects left (record { stack = old.stack; doing = mid }) out_mid collected out_new
      → stack ≡ with_top (next_line None (first_line_parts collected.stack.top.lines) collected.stack.top) collected.stack
      → Steps left old out More (record { stack = stack; doing = collected.doing }) out_new
  unfolding reached_with step_in line_next meaning_at meaning_by language meaning m p
  begins is_page_now stack h ep k a c es =
      let output = output_of old.doing in
      let s = old.stack in
      let state = state_in [] old.doing in
      let line = line_in (next_of s) in
      let e = is_the_line (next_of s) h in
      let b = begins_in is_page_now a c in
      let same : stack ≡ with_top (next_line None (first_line_parts s.top.lines) s.top) s =
      es ∙ ap (λ (s : Stack). with_top (next_line None (first_line_parts s.top.lines) s.top) s) c.stack in
      let frame : List (LinePart (List ℕ)) → Frame =
      λ parts. record { kind = s.top.kind; region = None; parts = parts; cursor = at_line s.top.cursor.levels; lines = drop 1 s.top.lines; turning = s.top.turning } in
      record {
        output = ap (λ setting. setting.output) b.setting;
        setting = rw (same, b.setting) k;
        notes = b.notes;
        came = b.came;
        step =
            step_next output s (Line line) state e
            ∙ ap (λ state. Some (running (with_top (frame (line_parts line)) s) state))
            (begin_same output (depth s.under) s.top.kind line s.top.cursor.levels state
            ∙ b.state s.top.kind (record { page = sym ep; setting = k }) [])
            ∙ ap (λ parts. Some (running (with_top (frame parts) s) (state_in (map says b.notes) collected.doing)))
            (sym (line_first s.top.turning s.top.region s.top.parts s.top.lines s.under line e).0)
            ∙ ap (λ (stack : Stack). Some (running stack (state_in (map says b.notes) collected.doing))) (sym same);
        body = same_source s stack (ap (λ (stack : Stack). stack.under) same) (ap (λ (stack : Stack). stack.top.turning) same);
        frames = λ kept. rw same (record { turning = kept.0.turning; region = λ h. tt }, kept.1);
        done = tt;
      }

-- a block that comes and is passed over
passed_block : (r : Reached) (x : Next (List ℕ) Opened) → passes_block r x ≡ true → (r ≡ PassedOver) × ((h : Opening (List ℕ)) × (Part (Block h) ≡ x))
passed_block PassedOver (Part (Block h)) e = (refl, (h, refl))
passed_block _ _ e = absurd (cc)

module _ {P S : Type 0} (left : P → S → List Message → Type 0) (old : Runner) (out : S) where
  pub decides_passed : (r : Reached) → r ≡ reached old.stack.top.cursor → passes_block r (next_of old.stack) ≡ true → Decides left old out (acts.Move (moves.Part (passes.Block None))) old out
  unfolding moved step_in part_next at_part meaning_at m
  decides_passed r er e =
      let output = output_of old.doing in
      let s = old.stack in
      let state = state_in [] old.doing in
      let k = passed_block r (next_of s) e in
      record {
        stack = refl;
        setting = refl;
        notes = [];
        came = came_none left out;
        step =
            step_next output s (Part (Block k.1.0)) state k.1.1
            ∙ ap (λ (t : BlockCursor × Budgeted State). Some (running (with_top (past t.0 s.top) s) t.1))
            (passed_same output (depth s.under) s.top.kind k.1.0 s.top.cursor state (sym er ∙ k.0));
        suits = (ap is_part (sym k.1.1), tt);
      }

  pub decides_block_end : Part End ≡ next_of old.stack → Decides left old out acts.BlockEnd old out
  unfolding moved step_in part_next at_part m p
  decides_block_end e =
      let output = output_of old.doing in
      let s = old.stack in
      let state = state_in [] old.doing in
      record {
        stack = refl;
        setting = refl;
        notes = [];
        came = came_none left out;
        step =
            step_next output s (Part End) state e
            ∙ ap (λ next. Some next)
            (end_same output (depth s.under) s.top.kind (what_ends s.top.cursor.levels) (past (after_part (leave s.top.cursor.levels)) s.top) s.under state);
        suits = tt;
      }
