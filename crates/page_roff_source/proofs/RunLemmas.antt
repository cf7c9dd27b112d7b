-- What a source does by `Runs` is what the machine's steps do, part by part and line by line: helpers of proofs.
use Rattle.std.proofs.Common.{arith, ◌≡◌, ℕ, zero, suc, Bool, true, false, not, ◌&&◌, nat_lt, if◌then◌else◌, List, [], ◌∷◌, Option, Some, None, refl, sym, ap, ◌∙◌, length}
use Rattle.page_core_base.specs.Limits.{CONDS}
use Rattle.page_roff_heads.specs.declared.conditions.Condition.{Condition}
use Rattle.page_roff_heads.specs.declared.loops.LoopHead.{LoopHead}
use Rattle.page_roff_blocks.specs.declared.line_parts.Branch.{Branch}
use Rattle.page_roff_blocks.specs.declared.line_parts.Branch.TheVariants.{If, IfElse, Else}
use Rattle.page_roff_blocks.specs.declared.line_parts.Head.{Head}
use Rattle.page_roff_blocks.specs.declared.line_parts.LinePart.{LinePart}
use Rattle.page_roff_blocks.specs.declared.line_parts.LinePart.TheVariants.{Leaf, Guard, Block, Loop, End, Region}
use Rattle.page_roff_blocks.specs.declared.line_parts.Opening.{Opening}
use Rattle.page_roff_blocks.specs.declared.line_parts.Opening.TheVariants as openings
use Rattle.page_roff_blocks.specs.Forest.{Forest, line, leaf, guard, block, loop, region, Source, ends, shuts, opens, holds, Inside, unended, ended, before, enclose, enregion, keep, line_of, source_of, inside_of, Levels, bit_after}
use Rattle.page_roff_blocks.specs.Forest as forests
use Rattle.page_roff_blocks.specs.laws.Views as levels
use Rattle.page_roff_blocks.specs.laws.Views.{BlockCursor, at_line, after_part, guarded_by, reached, reached_in, reached_from, reached_if}
use Rattle.page_roff_blocks.specs.Parts.{loop_text, line_parts}
use Rattle.page_roff_blocks.specs.machine.Steps as old
use Rattle.page_roff_blocks.specs.machine.Steps.{Meaning, met, step_leaf, step_guard, guard_met, guard_with, step_block, block_met, opening_met, block_with, step_loop, step_end, step_parts, step_inside, step_from, begin_line, collect_if, each_line}
use Rattle.page_roff_blocks.specs.machine.Languages.{Budgeted}
use Rattle.page_roff_syntax.specs.declared.region_heads.RegionHead.{RegionHead}
use Rattle.page_roff_syntax.specs.Regions.{Opened, opened, is_ending}
use Rattle.page_roff_effects.specs.States.{block_outcome, end_of_block_outcome}
use Rattle.page_roff_effects.specs.Lines.{leaf_outcome}
use Rattle.page_roff_effects.specs.Regions.{loop_outcome, head_outcome, line_outcome, end_outcome}
use Rattle.page_roff_effects.specs.laws.Views as states
use Rattle.page_roff_source.specs.Runs.{State, after, reread, Around, mode_by, mode, are_run, Spot, fresh, past, At, meet, gather_some, gather_line, test, value, with_bit, enter_if, enter_run, enter, does, close_loop, leave_level, leave_by, leave, leaf_after, loop_after, guard_after, line_after, region_line, region_lines, region_end, open_region, region_after, run, run_source, run_inside, run_from, run_lines}

-- ---- the same states

abbrev pub Old : Type 0
Old = Budgeted states.State

abbrev pub new : Old → State
new b = record { memory = b.rest.memory; out = b.rest.out; left = b.left; gave_up = b.gave_up; taken = b.taken }

abbrev pub named : Bool × Old → Bool × State
named q = (q.0, new q.1)

abbrev pub spot : BlockCursor → Old → Spot
spot c b = record { levels = c.levels; begun = c.begun; passing = c.passing; state = new b }

abbrev pub spot_of : BlockCursor × Old → Spot
spot_of q = spot q.0 q.1

abbrev pub at : old.At Old → At
at p = record { place = p.place; state = new p.state }

abbrev pub lv : Bool → List Bool → Bool → ℕ → Levels
lv b o i n = record { bit = b; outer = o; in_loop = i; skipped = n }

abbrev pub cursor : Levels → Bool → Bool → BlockCursor
cursor l begun passing = record { levels = l; begun = begun; passing = passing }

abbrev pub meets_new : Bool → State → Bool × State
meets_new begun s = let t = if begun then reread s else s in (not t.gave_up, t)

-- the parts of a source mean what `Runs` does, where this comes before a line
pub record Alike {X : Type 0} (text : X → List ℕ) (start : X → State → State) (head : X → Old → Old) (a : Around) (m : Meaning Old) : Type 0 where
  pub begins : (x : X) (b : Old) → start x (new b) ≡ new (m.begins (text x) (head x b))
  pub meets : (begun : Bool) (b : Old) → meets_new begun (new b) ≡ named (m.meets begun b)
  pub tests : (c : Condition (List ℕ)) (b : Old) → test a c (new b) ≡ named (m.tests c b)
  pub gives : (t : List ℕ) (b : Old) → does a (leaf_outcome a.setting a.may_run t b.rest.memory) (new b) ≡ new (m.gives t b)
  pub refuses : (h : Head (List ℕ)) (b : Old) → after (block_outcome h.column b.rest.memory) (new b) ≡ new (m.refuses h b)
  pub unopened : (b : Old) → (if not a.is_page && b.gave_up then new b else after (end_of_block_outcome b.rest.memory) (new b)) ≡ new (m.unopened b)
  pub opens_region : (r : RegionHead (List ℕ)) (is_run : Bool) (b : Old) → after (head_outcome r is_run b.rest.memory) (new b) ≡ new (m.opens_region r is_run b)
  pub reads : (o : Opened) (x : X) (b : Old)
      → (let t = start x (new b) in after (line_outcome a.setting o (o.is_run && not t.gave_up) (text x) t.memory) t) ≡ new (m.reads o (text x) (head x b))
  pub ends_region : (o : Opened) (x : X) (b : Old)
      → (let t = start x (new b) in after (end_outcome o (o.is_run && not t.gave_up) t.memory) t) ≡ new (m.ends_region o (text x) (head x b))
  pub opens_loop : (h : LoopHead (List ℕ)) (b : Old) → after (loop_outcome h b.rest.memory) (new b) ≡ new (m.opens_loop h b)
  pub collects : (k : ℕ) (t : List ℕ) (b : Old) → gather_some (loop_text k t) (new b) ≡ new (m.collects k t b)
  pub keeps : (t : List ℕ) (b : Old) → gather_some (Some t) (new b) ≡ new (m.keeps t b)
  pub closes_loop : (b : Old) → close_loop a (new b) ≡ new (m.closes_loop b)

module _ {X : Type 0} (text : X → List ℕ) (start : X → State → State) (head : X → Old → Old) (a : Around) (m : Meaning Old)
    (al : Alike text start head a m) where
  -- ---- parts without blocks

  meet_at : (bit : Bool) (o : List Bool) (i : Bool) (n : ℕ) (begun passing : Bool) (b : Old)
      → let c = cursor (lv bit o i n) begun passing in meet (spot c b) ≡ named (met m c b)
  unfolding meet mode_by are_run met old.meet_as reached reached_in reached_from reached_if
  meet_at bit o true n begun passing b = refl
  meet_at bit o false (suc n) begun passing b = refl
  meet_at bit o false zero begun true b = refl
  meet_at bit o false zero false false b = al.meets false b
  meet_at bit o false zero true false b = al.meets true b

  meet_law : (c : BlockCursor) (b : Old) → meet (spot c b) ≡ named (met m c b)
  meet_law c b = meet_at c.levels.bit c.levels.outer c.levels.in_loop c.levels.skipped c.begun c.passing b

  leaf_by : (t : List ℕ) (l : Levels) (is_met : Bool) (b : Old)
      → past (l, if is_met then does a (leaf_outcome a.setting a.may_run t b.rest.memory) (new b) else new b) ≡ spot (after_part l) (old.leaf_if m is_met t b)
  unfolding after_part old.leaf_if
  leaf_by t l true b = ap (λ s. past (l, s)) (al.gives t b)
  leaf_by t l false b = refl

  leaf_law : (t : List ℕ) (c : BlockCursor) (b : Old) → leaf_after a t (spot c b) ≡ spot_of (step_leaf m t c b)
  unfolding leaf_after step_leaf
  leaf_law t c b =
      ap (λ q. past (c.levels, if q.0 then does a (leaf_outcome a.setting a.may_run t q.1.memory) q.1 else q.1)) (meet_law c b)
      ∙ leaf_by t c.levels (met m c b).0 (met m c b).1

  loop_by : (h : LoopHead (List ℕ)) (l : Levels) (is_met : Bool) (b : Old)
      → past (l, if is_met then close_loop a (after (loop_outcome h b.rest.memory) (new b)) else new b) ≡ spot (after_part l) (old.loop_if m is_met h b)
  unfolding after_part old.loop_if
  loop_by h l true b = grind arith
  loop_by h l false b = refl

  loop_law : (h : LoopHead (List ℕ)) (c : BlockCursor) (b : Old) → loop_after a h (spot c b) ≡ spot_of (step_loop m h c b)
  unfolding loop_after step_loop
  loop_law h c b =
      ap (λ q. past (c.levels, if q.0 then close_loop a (after (loop_outcome h q.1.memory) q.1) else q.1)) (meet_law c b)
      ∙ loop_by h c.levels (met m c b).0 (met m c b).1

  value_law : (h : Branch (List ℕ)) (bit : Bool) (b : Old) → value a h bit (new b) ≡ named (old.value m h bit b)
  unfolding value old.value
  value_law (If c) bit b = al.tests c b
  value_law (IfElse c) bit b = al.tests c b
  value_law Else bit b = refl

  abbrev guarded_as : Head (List ℕ) → Levels → Bool × State → Spot
  guarded_as h l v = record { levels = with_bit a h v.0 l; begun = true; passing = not v.0; state = v.1 }

  guard_by : (h : Head (List ℕ)) (c : BlockCursor) (is_met : Bool) (b : Old)
      → (if is_met then guarded_as h c.levels (value a h.branch c.levels.bit (new b)) else record (spot c b) { begun = true })
      ≡ spot_of (guard_met m is_met h c b)
  unfolding guard_met guard_with guarded_by
  guard_by h c true b = ap (λ v. guarded_as h c.levels v) (value_law h.branch c.levels.bit b)
  guard_by h c false b = refl

  guard_law : (h : Head (List ℕ)) (c : BlockCursor) (b : Old) → guard_after a h (spot c b) ≡ spot_of (step_guard m h c b)
  unfolding guard_after step_guard
  guard_law h c b =
      ap (λ q. if q.0 then guarded_as h c.levels (value a h.branch c.levels.bit q.1) else record (spot c b) { begun = true; state = q.1 }) (meet_law c b)
      ∙ guard_by h c (met m c b).0 (met m c b).1

  -- ---- blocks

  enter_room : (room : Bool) (h : Head (List ℕ)) (c bit : Bool) (o : List Bool) (b : Old)
      → past (if room then (lv false (bit ∷ o) false 0, new b) else (lv bit o false 1, after (block_outcome h.column b.rest.memory) (new b)))
      ≡ (let way = levels.way_in room in spot (after_part (levels.enter way bit (lv c o false 0))) (old.refuse_if m way h b))
  unfolding levels.way_in levels.enter after_part old.refuse_if
  enter_room true h c bit o b = refl
  enter_room false h c bit o b = ap (λ s. past (lv bit o false 1, s)) (al.refuses h b)

  enter_value : (h : Head (List ℕ)) (bit : Bool) (o : List Bool) (is_true : Bool) (b : Old)
      → past (enter_if a is_true h (lv (bit_after h.branch is_true bit) o false 0, new b))
      ≡ (let way = levels.way_of is_true (length o) in
      spot (after_part (levels.enter way (bit_after h.branch is_true bit) (lv bit o false 0))) (old.refuse_if m way h b))
  unfolding enter_if levels.way_of levels.enter after_part old.refuse_if
  enter_value h bit o true b = enter_room (nat_lt (length o) CONDS) h bit (bit_after h.branch true bit) o b
  enter_value h bit o false b = refl

  enter_by : (h : Opening (List ℕ)) (bit : Bool) (o : List Bool) (begun passing is_met : Bool) (b : Old)
      → past (if is_met then enter_run a h (lv bit o false 0) (new b) else (lv bit o false 1, new b))
      ≡ spot_of (block_met m is_met h (cursor (lv bit o false 0) begun passing) b)
  unfolding enter_run block_met opening_met block_with levels.open_loop levels.skip after_part
  enter_by (openings.Conditional h) bit o begun passing true b = grind (arith, value_law, enter_value)
  enter_by (openings.Loop h) bit o begun passing true b = ap (λ s. past (lv bit o true 0, s)) (al.opens_loop h b)
  enter_by h bit o begun passing false b = refl

  enter_at : (h : Opening (List ℕ)) (bit : Bool) (o : List Bool) (i : Bool) (n : ℕ) (begun passing : Bool) (b : Old)
      → let c = cursor (lv bit o i n) begun passing in enter a h (spot c b) ≡ spot_of (step_block m h c b)
  unfolding enter meet mode_by are_run step_block met old.meet_as reached reached_in reached_from block_met levels.skip after_part
  enter_at h bit o true n begun passing b = refl
  enter_at h bit o false zero begun passing b =
      let c = cursor (lv bit o false 0) begun passing in
      ap (λ q. past (if q.0 then enter_run a h (lv bit o false 0) q.1 else (lv bit o false 1, q.1))) (meet_law c b)
      ∙ enter_by h bit o begun passing (met m c b).0 (met m c b).1
  enter_at h bit o false (suc n) begun passing b = refl

  enter_law : (h : Opening (List ℕ)) (c : BlockCursor) (b : Old) → enter a h (spot c b) ≡ spot_of (step_block m h c b)
  enter_law h c b = enter_at h c.levels.bit c.levels.outer c.levels.in_loop c.levels.skipped c.begun c.passing b

  leave_at : (bit : Bool) (o : List Bool) (i : Bool) (n : ℕ) (begun passing : Bool) (b : Old)
      → let c = cursor (lv bit o i n) begun passing in leave a (spot c b) ≡ spot_of (step_end m c b)
  unfolding leave leave_by leave_level mode_by step_end levels.leave levels.leave_from levels.leave_loop levels.leave_level levels.what_ends
      levels.ends_from levels.loop_ends levels.level_ends old.end_by after_part
  leave_at bit o true zero begun passing b = ap (λ s. past (lv bit o false 0, s)) (al.closes_loop b)
  leave_at bit o true (suc n) begun passing b = refl
  leave_at bit [] false zero begun passing b = ap (λ s. past (lv bit [] false 0, s)) (al.unopened b)
  leave_at bit (x ∷ o) false zero begun passing b = refl
  leave_at bit o false (suc n) begun passing b = refl

  leave_law : (c : BlockCursor) (b : Old) → leave a (spot c b) ≡ spot_of (step_end m c b)
  leave_law c b = leave_at c.levels.bit c.levels.outer c.levels.in_loop c.levels.skipped c.begun c.passing b

  -- ---- lines

  keep_law : (in_loop : Bool) (t : List ℕ) (b : Old) → gather_some (if in_loop then Some t else None) (new b) ≡ new (old.keep_if m in_loop t b)
  unfolding old.keep_if
  keep_law true t b = al.keeps t b
  keep_law false t b = refl

  read_law : (in_loop : Bool) (o : Opened) (x : X) (b : Old)
      → region_line a text start (line_outcome a.setting) in_loop o x (new b) ≡ new (old.keep_if m in_loop (text x) (m.reads o (text x) (head x b)))
  unfolding region_line
  read_law in_loop o x b = grind (arith, keep_law)

  end_law : (in_loop : Bool) (o : Opened) (x : X) (b : Old)
      → region_end a text start in_loop o x (new b) ≡ new (old.keep_if m in_loop (text x) (m.ends_region o (text x) (head x b)))
  unfolding region_end region_line
  end_law in_loop o x b = grind (arith, keep_law)

  gather_law : (bit : Bool) (o : List Bool) (i : Bool) (n : ℕ) (t : List ℕ) (b : Old)
      → gather_line (mode (lv bit o i n)) t (new b) ≡ new (collect_if m i n t b)
  unfolding gather_line mode_by collect_if
  gather_law bit o true n t b = al.collects n t b
  gather_law bit o false zero t b = refl
  gather_law bit o false (suc n) t b = refl

  begin_law : (x : X) (l : Levels) (b : Old) → line_after a text start x (fresh l (new b)) ≡ spot (at_line l) (begin_line m (text x) l (head x b))
  unfolding line_after begin_line at_line
  begin_law x l b =
      ap (λ s. fresh l (gather_line (mode l) (text x) s)) (al.begins x b)
      ∙ ap (λ s. fresh l s) (gather_law l.bit l.outer l.in_loop l.skipped (text x) (m.begins (text x) (head x b)))

  -- ---- a source after a node, after a block that is entered, and after the head of a region

  after_node : (node : Forest X → Forest X) (w v : Spot) → ((f : Forest X) → run a text start (node f) w ≡ run a text start f v)
      → (src : Source X) → run_source a text start (before node src) w ≡ run_source a text start src v
  unfolding before run_source
  after_node node w v e (ends f) = ap (λ v. record { place = record { region = None; levels = v.levels }; state = v.state }) (e f)
  after_node node w v e (shuts f rest) = ap (λ v. run_source a text start rest (leave a v)) (e f)
  after_node node w v e (opens f h rest) = ap (λ v. run_source a text start rest (enter a h v)) (e f)
  after_node node w v e (holds f r xs) = ap (λ v. open_region a text start r xs v) (e f)

  after_enter : (h : Opening (List ℕ)) (src : Source X) (w : Spot) → run_source a text start (enclose h src) w ≡ run_source a text start src (enter a h w)
  unfolding enclose run_source run
  after_enter h (ends f) w = refl
  after_enter h (opens f g rest) w = refl
  after_enter h (holds f r xs) w = refl
  after_enter h (shuts f rest) w = after_node (block h f) w (leave a (run a text start f (enter a h w))) (λ g. refl) rest

  after_head : (r : RegionHead (List ℕ)) (inside : Inside X) (w : Spot)
      → run_source a text start (enregion r inside) w
      ≡ (let q = meet w in run_inside a text start (opened r q.0) inside w.levels (after (head_outcome r q.0 q.1.memory) q.1))
  unfolding enregion run_source run run_inside open_region region_after
  after_head r (unended xs) w = refl
  after_head r (ended xs e rest) w = after_node (region r xs e) w (region_after a text start r xs e w) (λ g. refl) rest

  -- ---- lines after one another

  abbrev from : List X → old.At Old → At
  from xs p = run_from a text start xs p.place.region p.place.levels (new p.state)

  -- what follows a line begins a line
  steady : (xs : List X) (w : Spot) → run_source a text start (source_of text xs) w ≡ run_source a text start (source_of text xs) (fresh w.levels w.state)
  unfolding source_of run_source run line_after
  steady [] w = refl
  steady (x ∷ xs) w =
      let rest = line_of (line_parts (text x)) (source_of text xs) (inside_of text xs) in
      let v = line_after a text start x w in
      after_node (line x) w v (λ g. refl) rest ∙ sym (after_node (line x) (fresh w.levels w.state) v (λ g. refl) rest)

  parts_law : (parts : List (LinePart (List ℕ))) (xs : List X) (c : BlockCursor) (b : Old)
      → run_source a text start (line_of parts (source_of text xs) (inside_of text xs)) (spot c b) ≡ from xs (step_parts m parts c b)
  unfolding line_of step_parts run_from run run_source old.step_region opened
  parts_law [] xs c b = steady xs (spot c b)
  parts_law (Leaf t ∷ rest) xs c b =
      let src = line_of rest (source_of text xs) (inside_of text xs) in
      let r = step_leaf m t c b in
      after_node (leaf t) (spot c b) (leaf_after a t (spot c b)) (λ g. refl) src ∙ ap (λ w. run_source a text start src w) (leaf_law t c b)
      ∙ parts_law rest xs r.0 r.1
  parts_law (Guard h ∷ rest) xs c b =
      let src = line_of rest (source_of text xs) (inside_of text xs) in
      let r = step_guard m h c b in
      after_node (guard h) (spot c b) (guard_after a h (spot c b)) (λ g. refl) src ∙ ap (λ w. run_source a text start src w) (guard_law h c b)
      ∙ parts_law rest xs r.0 r.1
  parts_law (Block h ∷ rest) xs c b =
      let src = line_of rest (source_of text xs) (inside_of text xs) in
      let r = step_block m h c b in
      after_enter h src (spot c b) ∙ ap (λ w. run_source a text start src w) (enter_law h c b) ∙ parts_law rest xs r.0 r.1
  parts_law (Loop h ∷ rest) xs c b =
      let src = line_of rest (source_of text xs) (inside_of text xs) in
      let r = step_loop m h c b in
      after_node (loop h) (spot c b) (loop_after a h (spot c b)) (λ g. refl) src ∙ ap (λ w. run_source a text start src w) (loop_law h c b)
      ∙ parts_law rest xs r.0 r.1
  parts_law (End ∷ rest) xs c b =
      let r = step_end m c b in
      ap (λ w. run_source a text start (line_of rest (source_of text xs) (inside_of text xs)) w) (leave_law c b) ∙ parts_law rest xs r.0 r.1
  parts_law (Region r ∷ rest) xs c b = grind (arith, after_head, meet_law)

  kept : (o : Opened) (x : X) (inside : Inside X) (l : Levels) (s : State)
      → run_inside a text start o (keep x inside) l s
      ≡ run_inside a text start o inside l (region_line a text start (line_outcome a.setting) l.in_loop o x s)
  unfolding keep run_inside region_lines
  kept o x (unended xs) l s = refl
  kept o x (ended xs e rest) l s = refl

  inside_law : (is_end : Bool) (x : X) (xs : List X) (o : Opened) (l : Levels) (b : Old)
      → run_inside a text start o (forests.region_line is_end x (source_of text xs) (inside_of text xs o.ending)) l (new b)
      ≡ from xs (step_inside m is_end o (text x) l (head x b))
  unfolding forests.region_line run_inside region_lines step_inside run_from
  inside_law true x xs o l b = ap (λ s. run_source a text start (source_of text xs) (fresh l s)) (end_law l.in_loop o x b)
  inside_law false x xs o l b = grind (arith, kept, read_law)

  line_law : (x : X) (xs : List X) (o : Option Opened) (l : Levels) (b : Old)
      → run_from a text start (x ∷ xs) o l (new b) ≡ from xs (step_from m o (text x) l (head x b))
  unfolding run_from source_of inside_of step_from run
  line_law x xs None l b =
      let rest = line_of (line_parts (text x)) (source_of text xs) (inside_of text xs) in
      after_node (line x) (fresh l (new b)) (line_after a text start x (fresh l (new b))) (λ g. refl) rest
      ∙ ap (λ w. run_source a text start rest w) (begin_law x l b)
      ∙ parts_law (line_parts (text x)) xs (at_line l) (begin_line m (text x) l (head x b))
  line_law x xs (Some o) l b = inside_law (is_ending o.ending (text x)) x xs o l b

  no_line : (o : Option Opened) (l : Levels) (s : State) → run_from a text start [] o l s ≡ record { place = record { region = o; levels = l }; state = s }
  unfolding run_from source_of inside_of run_source run_inside region_lines run
  no_line None l s = refl
  no_line (Some o) l s = refl

  -- lines, from where they begin
  pub lines_law : (xs : List X) (p : old.At Old) → run_lines a text start xs (at p) ≡ at (each_line m text head xs p)
  unfolding each_line old.step
  lines_law [] p = no_line p.place.region p.place.levels (new p.state)
  lines_law (x ∷ xs) p = grind (arith, line_law, lines_law xs (old.step m (text x) (old.after_head m text head x p)))
