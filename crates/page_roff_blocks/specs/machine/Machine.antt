-- The sources that are being run, one inside another: the steps of the code (`machine_law`). Trust needs no reading of it, but for moments of a
-- run. Source: roff(7), "Macros", "while".
use Rattle.std.specs.Prelude.{ℕ, zero, suc, ◌-◌, Bool, true, false, List, [], ◌∷◌, length, Option, Some, None, ◌≡◌, ◌+◌, ◌*◌, ◌≤◌}
use Rattle.page_roff_heads.specs.declared.loops.LoopHead.{LoopHead}
use Rattle.page_roff_blocks.specs.declared.line_parts.LinePart.{LinePart}
use Rattle.page_roff_blocks.specs.declared.line_parts.LinePart.TheVariants.{Leaf, Guard, Block, Loop, End, Region}
use Rattle.page_roff_blocks.specs.declared.levels.Ended.{Ended}
use Rattle.page_roff_blocks.specs.declared.levels.Ended.TheVariants as endings
use Rattle.page_roff_blocks.specs.Parts.{line_parts}
use Rattle.page_roff_syntax.specs.Regions.{is_ending, Opened}
use Rattle.page_roff_blocks.specs.laws.Views.{BlockCursor, at_line, after_part, leave, what_ends}
use Rattle.page_roff_blocks.specs.Forest.{outside}
use Rattle.page_roff_blocks.specs.machine.Steps.{Meaning, At, keep_if, met, step_guard, step_block, step_region, step_parts, begin_line, step_lines}
use Rattle.page_core_base.specs.Limits.{CALLS}
use Rattle.page_roff_blocks.specs.machine.Languages.{Kind, page, body, inner, Done, gives, calls, repeats, TURNS, Language, is_some, finish_at, run_body, turns, meaning_at, Budgeted}
use Rattle.page_roff_heads.specs.declared.conditions.Condition.{Condition}
use Rattle.page_roff_blocks.specs.declared.line_parts.Head.{Head}
use Rattle.page_roff_syntax.specs.declared.region_heads.RegionHead.{RegionHead}

-- The turns of a loop that is being run: its condition, all lines of its body, how many turns may still come, and whether one was begun.
pub record Turning : Type 0 where
  pub condition : List ℕ
  pub lines : List (List ℕ)
  pub left : ℕ
  pub begun : Bool

-- A source that is being run: its open region, what is left of its present line, the cursor there, the lines after it, and for a loop its turns.
pub record Frame : Type 0 where
  pub kind : Kind
  pub region : Option Opened
  pub parts : List (LinePart (List ℕ))
  pub cursor : BlockCursor
  pub lines : List (List ℕ)
  pub turning : Option Turning

-- the innermost source, those around it from the inside out, and the state
pub record Running (S : Type 0) : Type 0 where
  pub top : Frame
  pub under : List Frame
  pub state : S

-- a macro begins
unfoldable pub entered : List (List ℕ) → List (List ℕ) → Frame
entered lines args =
    record { kind = body (Some args); region = None; parts = []; cursor = at_line outside; lines = lines; turning = None }

-- a loop begins in a source of this kind: it is over, so that its first turn comes as all others do
unfoldable pub looped : Kind → List ℕ → List (List ℕ) → Frame
looped kind condition lines =
    record {
      kind = inner kind;
      region = None;
      parts = [];
      cursor = at_line outside;
      lines = [];
      turning = Some (record { condition = condition; lines = lines; left = TURNS; begun = false });
    }

-- a turn of a loop begins, after which this many may come
unfoldable pub turned : Kind → Turning → ℕ → Frame
turned kind t left =
    record {
      kind = kind;
      region = None;
      parts = [];
      cursor = at_line outside;
      lines = t.lines;
      turning = Some (record { condition = t.condition; lines = t.lines; left = left; begun = true });
    }

unfoldable pub at_part : Frame → List (LinePart (List ℕ)) → BlockCursor → Frame
at_part f parts cursor = record f { parts = parts; cursor = cursor }

-- between two lines
unfoldable pub between : Frame → Option Opened → List (List ℕ) → Frame
between f region lines = record f { region = region; parts = []; cursor = at_line f.cursor.levels; lines = lines }

-- a line of the page, from where the lines before it left it
unfoldable pub at_page : {S : Type 0} → List ℕ → At S → Running S
at_page line a =
    record {
      top = record { kind = page; region = a.place.region; parts = []; cursor = at_line a.place.levels; lines = line ∷ []; turning = None };
      under = [];
      state = a.state;
    }

-- how many more macros and loops may run inside the innermost source
unfoldable pub depth : List Frame → ℕ
depth under = CALLS - length under

-- where the innermost source is between two lines
unfoldable pub stands_at : {S : Type 0} → Running S → At S
stands_at r = record { place = record { region = r.top.region; levels = r.top.cursor.levels }; state = r.state }

module _ {S : Type 0} (l : Language S) where
  -- what is left of a source's present line
  unfoldable pub line_in : Meaning S → Option Opened → Frame → S → At S
  line_in m None f s = step_parts m f.parts f.cursor s
  line_in m (Some o) f s = record { place = record { region = Some o; levels = f.cursor.levels }; state = s }

  unfoldable pub line_rest : Meaning S → Frame → S → At S
  line_rest m f s = line_in m f.region f s

  -- a turn of a loop that was begun ends
  unfoldable pub finish_if : Bool → At S → S
  finish_if true a = finish_at l a
  finish_if false a = a.state

  -- a body's lines are over: a loop may have more turns
  unfoldable pub ended : Option Turning → Meaning S → Kind → At S → S
  ended None m kind a = finish_at l a
  ended (Some t) m kind a = turns l t.left (run_body l m t.lines) kind t.condition (finish_if t.begun a)

  -- what comes after the innermost source's present line, in it and then in those around it
  unfoldable pub after_line : Kind → Option Turning → List (List ℕ) → List Frame → At S → At S
  after_line kind turning lines [] a = step_lines (meaning_at l (depth []) kind) lines a
  after_line kind turning lines (g ∷ gs) a =
      let m = meaning_at l (depth (g ∷ gs)) kind in
      after_line g.kind g.turning g.lines gs
      (line_rest (meaning_at l (depth gs) g.kind) g (ended turning m kind (step_lines m lines a)))

  unfoldable pub rest : Frame → List Frame → S → At S
  rest f under s = after_line f.kind f.turning f.lines under (line_rest (meaning_at l (depth under) f.kind) f s)

  -- all that is still to come of a page's line, and where it leaves the page
  unfoldable pub rest_of : Running S → At S
  rest_of r = rest r.top r.under r.state

  -- a leaf or a loop gives a state, or it calls a macro or repeats where one more source may run
  unfoldable pub leaf_next : Bool → Frame → List Frame → Done S → Running S
  leaf_next may_run f under (gives s) = record { top = f; under = under; state = s }
  leaf_next true f under (calls lines args s) = record { top = entered lines args; under = f ∷ under; state = s }
  leaf_next false f under (calls lines args s) = record { top = f; under = under; state = s }
  leaf_next true f under (repeats condition lines s) = record { top = looped f.kind condition lines; under = f ∷ under; state = s }
  leaf_next false f under (repeats condition lines s) = record { top = f; under = under; state = s }

  unfoldable pub leaf_if : Bool → List ℕ → Frame → List Frame → S → Running S
  leaf_if true text f under s =
      let may_run = is_some (depth under) in leaf_next may_run f under (l.leaf may_run f.kind text s)
  leaf_if false text f under s = record { top = f; under = under; state = s }

  -- a loop is whole
  unfoldable pub loop_next : Frame → List Frame → S → Running S
  loop_next f under s =
      let may_run = is_some (depth under) in leaf_next may_run f under (l.closes may_run s)

  unfoldable pub loop_if : Meaning S → Bool → LoopHead (List ℕ) → Frame → List Frame → S → Running S
  loop_if m true h f under s = loop_next f under (m.opens_loop h s)
  loop_if m false h f under s = record { top = f; under = under; state = s }

  unfoldable pub end_next : Meaning S → Ended → Frame → List Frame → S → Running S
  end_next m endings.Block f under s = record { top = f; under = under; state = s }
  end_next m endings.Loop f under s = loop_next f under s
  end_next m endings.Nothing f under s = record { top = f; under = under; state = m.unopened s }

  -- a part of a line
  unfoldable pub part_next : Meaning S → LinePart (List ℕ) → List (LinePart (List ℕ)) → Frame → List Frame → S → Running S
  part_next m (Leaf text) more f under s =
      let q = met m f.cursor s in leaf_if q.0 text (at_part f more (after_part f.cursor.levels)) under q.1
  part_next m (Guard h) more f under s =
      let r = step_guard m h f.cursor s in record { top = at_part f more r.0; under = under; state = r.1 }
  part_next m (Block h) more f under s =
      let r = step_block m h f.cursor s in record { top = at_part f more r.0; under = under; state = r.1 }
  part_next m (Loop h) more f under s =
      let q = met m f.cursor s in loop_if m q.0 h (at_part f more (after_part f.cursor.levels)) under q.1
  part_next m End more f under s =
      end_next m (what_ends f.cursor.levels) (at_part f more (after_part (leave f.cursor.levels))) under s
  part_next m (Region head) more f under s =
      let a = step_region m head f.cursor s in record { top = between f a.place.region f.lines; under = under; state = a.state }

  -- a line in a region, which belongs to the loop around it, if one is collected
  unfoldable pub region_next : Meaning S → Bool → Opened → List ℕ → List (List ℕ) → Frame → List Frame → S → Running S
  region_next m true o line more f under s =
      record { top = between f None more; under = under; state = keep_if m f.cursor.levels.in_loop line (m.ends_region o line s) }
  region_next m false o line more f under s =
      record { top = between f (Some o) more; under = under; state = keep_if m f.cursor.levels.in_loop line (m.reads o line s) }

  -- a line begins
  unfoldable pub line_next : Meaning S → List ℕ → List (List ℕ) → Frame → List Frame → S → Running S
  line_next m line more f under s =
      record {
        top = record f { region = None; parts = line_parts line; cursor = at_line f.cursor.levels; lines = more };
        under = under;
        state = begin_line m line f.cursor.levels s;
      }

  -- a turn of a loop comes, or the loop is over
  unfoldable pub turn_if : Bool → Kind → Turning → ℕ → Frame → List Frame → S → Running S
  turn_if true kind t left g gs s = record { top = turned kind t left; under = g ∷ gs; state = s }
  turn_if false kind t left g gs s = record { top = g; under = gs; state = s }

  unfoldable pub turn_next : ℕ → Kind → Turning → Frame → List Frame → S → Running S
  turn_next zero kind t g gs s = record { top = g; under = gs; state = s }
  turn_next (suc left) kind t g gs s =
      let v = l.turn kind t.condition s in turn_if v.0 kind t left g gs v.1

  -- a source ends
  unfoldable pub body_next : Option Turning → Kind → Frame → List Frame → At S → Running S
  body_next None kind g gs a = record { top = g; under = gs; state = finish_at l a }
  body_next (Some t) kind g gs a = turn_next t.left kind t g gs (finish_if t.begun a)

  unfoldable pub source_next : Option Turning → Kind → List Frame → At S → Option (Running S)
  source_next turning kind [] a = None
  source_next turning kind (g ∷ gs) a = Some (body_next turning kind g gs a)

  unfoldable pub next_in : Meaning S → Option Opened → List (LinePart (List ℕ)) → List (List ℕ) → Frame → List Frame → S → Option (Running S)
  next_in m None (part ∷ more) lines f under s = Some (part_next m part more f under s)
  next_in m None [] (line ∷ more) f under s = Some (line_next m line more f under s)
  next_in m None [] [] f under s =
      source_next f.turning f.kind under (record { place = record { region = None; levels = f.cursor.levels }; state = s })
  next_in m (Some o) parts (line ∷ more) f under s = Some (region_next m (is_ending o.ending line) o line more f under s)
  next_in m (Some o) parts [] f under s =
      source_next f.turning f.kind under (record { place = record { region = Some o; levels = f.cursor.levels }; state = s })

  -- one step
  unfoldable pub next : Running S → Option (Running S)
  next r = next_in (meaning_at l (depth r.under) r.top.kind) r.top.region r.top.parts r.top.lines r.top r.under r.state

-- ---- A change of the state that nothing of a source looks at, as what was given out before: for proofs. Trust needs no reading of it.
-- Source: roff(7), "Macros".

module _ {S : Type 0} (front : S → S) where
  -- what a part answers and the state after it
  abbrev pub over_pair : {A : Type 0} → A × S → A × S
  over_pair r = (r.0, front r.1)

  abbrev pub over : At S → At S
  over a = record { place = a.place; state = front a.state }

  abbrev pub over_running : Running S → Running S
  over_running r = record { top = r.top; under = r.under; state = front r.state }

  abbrev pub over_done : Done S → Done S
  over_done (gives s) = gives (front s)
  over_done (calls lines args s) = calls lines args (front s)
  over_done (repeats condition lines s) = repeats condition lines (front s)

  -- the parts of a source do the same after it
  pub record IsFrontOfParts (m : Meaning S) : Type 0 where
    pub begins : (line : List ℕ) (s : S) → m.begins line (front s) ≡ front (m.begins line s)
    pub meets : (is_remainder : Bool) (s : S) → m.meets is_remainder (front s) ≡ over_pair (m.meets is_remainder s)
    pub tests : (condition : Condition (List ℕ)) (s : S) → m.tests condition (front s) ≡ over_pair (m.tests condition s)
    pub refuses : (h : Head (List ℕ)) (s : S) → m.refuses h (front s) ≡ front (m.refuses h s)
    pub unopened : (s : S) → m.unopened (front s) ≡ front (m.unopened s)
    pub opens_region : (head : RegionHead (List ℕ)) (is_run : Bool) (s : S)
        → m.opens_region head is_run (front s) ≡ front (m.opens_region head is_run s)
    pub reads : (o : Opened) (line : List ℕ) (s : S) → m.reads o line (front s) ≡ front (m.reads o line s)
    pub ends_region : (o : Opened) (line : List ℕ) (s : S) → m.ends_region o line (front s) ≡ front (m.ends_region o line s)
    pub opens_loop : (h : LoopHead (List ℕ)) (s : S) → m.opens_loop h (front s) ≡ front (m.opens_loop h s)
    pub collects : (open_blocks : ℕ) (line : List ℕ) (s : S) → m.collects open_blocks line (front s) ≡ front (m.collects open_blocks line s)
    pub keeps : (line : List ℕ) (s : S) → m.keeps line (front s) ≡ front (m.keeps line s)

  pub record IsFront (l : Language S) : Type 0 where
    pub parts : (kind : Kind) → IsFrontOfParts (l.parts kind)
    pub leaf : (may_call : Bool) (kind : Kind) (text : List ℕ) (s : S)
        → l.leaf may_call kind text (front s) ≡ over_done (l.leaf may_call kind text s)
    pub closes : (may_run : Bool) (s : S) → l.closes may_run (front s) ≡ over_done (l.closes may_run s)
    pub turn : (kind : Kind) (condition : List ℕ) (s : S) → l.turn kind condition (front s) ≡ over_pair (l.turn kind condition s)
    pub finish : (region : Option Opened) (in_loop : Bool) (s : S) → l.finish region in_loop (front s) ≡ front (l.finish region in_loop s)

-- ---- How much work is left of sources that are run, at most: steps of the code. Trust needs no reading of it. Source: mandoc(1), "input stack limit".

-- A line has at most two parts a byte, and two. A part counts twice: with the one that closes a loop the loop begins.
unfoldable pub weight : List (List ℕ) → ℕ
weight [] = 0
weight (line ∷ lines) = 4 * length line + 5 + weight lines

unfoldable pub work_in : Frame → ℕ
work_in f = 2 * length f.parts + weight f.lines

unfoldable pub works : List Frame → ℕ
works [] = 0
works (f ∷ fs) = suc (work_in f + works fs)

-- the first part of a line may call a macro, and so may each re-read line
unfoldable pub fresh_if : Bool → ℕ
fresh_if true = 0
fresh_if false = 1

unfoldable pub fresh_at : List (LinePart (List ℕ)) → BlockCursor → ℕ
fresh_at [] cursor = 0
fresh_at (part ∷ more) cursor = fresh_if cursor.begun

unfoldable pub fresh_in : Frame → ℕ
fresh_in f = fresh_at f.parts f.cursor

unfoldable pub freshes : List Frame → ℕ
freshes [] = 0
freshes (f ∷ fs) = fresh_in f + freshes fs

-- how many macros may still be called, and turns of loops begun
unfoldable pub credit_if : Bool → ℕ → ℕ → ℕ
credit_if true left fresh = 0
credit_if false left fresh = 2 * left + fresh

unfoldable pub credit : {R : Type 0} → Budgeted R → ℕ → ℕ
credit s fresh = credit_if s.gave_up s.left fresh

-- all that is left, where the bodies of macros and loops have less than this weight
unfoldable pub measure : {R : Type 0} → ℕ → Running (Budgeted R) → ℕ
measure huge r = huge * credit r.state (fresh_in r.top + freshes r.under) + (work_in r.top + works r.under)

-- a line of the page is run by itself
unfoldable pub IsOnLine : Frame → Type 0
IsOnLine f = f.kind ≡ page → (f.lines ≡ []) × (f.turning ≡ None)

unfoldable pub AreOnLine : List Frame → Type 0
AreOnLine [] = Unit {0}
AreOnLine (f ∷ fs) = IsOnLine f × AreOnLine fs

unfoldable pub HasMeasure : {R : Type 0} → Running (Budgeted R) → Type 0
HasMeasure r = IsOnLine r.top × AreOnLine r.under

-- how many turns may still come
unfoldable pub turns_of : Option Turning → ℕ
turns_of None = 0
turns_of (Some t) = t.left

-- After a step: where a macro or a loop was begun, or a turn of a loop, what is left of its lines has less than this weight.
pub record HasBodyWithin {S : Type 0} (huge : ℕ) (r q : Running S) : Type 0 where
  pub begins : length q.under ≡ suc (length r.under) → suc (weight q.top.lines) ≤ huge
  pub turns : length q.under ≡ length r.under → suc (turns_of q.top.turning) ≡ turns_of r.top.turning → suc (weight q.top.lines) ≤ huge

-- before the first step of a line of the page
unfoldable pub IsFirst : {S : Type 0} → Running S → Type 0
IsFirst r = (line : List ℕ) × (r.top.lines ≡ line ∷ []) × (r.top.parts ≡ []) × (r.under ≡ []) × (r.top.turning ≡ None)

-- ---- A machine: what the lines taken spend, as interpolations, step by step. Trust needs no reading of it. Source: mandoc(1), "input stack limit".

-- what a line that was taken may still spend: all of it until its first part is passed, where not all was given up
unfoldable pub unspent_if : Bool → Bool → ℕ → ℕ
unspent_if true gave_up most = 0
unspent_if false true most = 0
unspent_if false false most = most

unfoldable pub unspent_at : Option Opened → List (LinePart (List ℕ)) → Bool → Bool → ℕ → ℕ
unspent_at (Some o) parts begun gave_up most = 0
unspent_at None [] begun gave_up most = 0
unspent_at None (part ∷ more) begun gave_up most = unspent_if begun gave_up most

unfoldable pub unspent : {R : Type 0} → ℕ → Running (Budgeted R) → ℕ
unspent most r = unspent_at r.top.region r.top.parts r.top.cursor.begun r.state.gave_up most

-- each source around the innermost one is past a part, which called the next
unfoldable pub AreMet : List Frame → Type 0
AreMet [] = Unit {0}
AreMet (f ∷ fs) = (f.cursor.begun ≡ true) × AreMet fs

module _ {S : Type 0} (l : Language S) where
  -- a number of steps leads from one moment to another
  unfoldable pub LeadsIn : ℕ → Running S → Running S → Type 0
  LeadsIn zero r q = r ≡ q
  LeadsIn (suc n) r q = (p : Running S) × (next l r ≡ Some p) × LeadsIn n p q

  unfoldable pub Leads : Running S → Running S → Type 0
  Leads r q = (n : ℕ) × LeadsIn n r q
