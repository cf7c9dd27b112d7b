-- Two languages side by side: with the macros that they call and their loops, states that are tied stay tied. Helpers of proofs.
use Rattle.std.proofs.Common.{ℕ, zero, suc, Bool, true, false, List, Option, Some, None, refl, subst, arith, ◌≡◌, [], ◌∷◌, sym, ◌-◌, ap, ◌∙◌}
use Rattle.page_roff_syntax.specs.Regions.{Opened, is_ending}
use Rattle.page_roff_blocks.specs.machine.Steps.{At, Meaning, end_by, step_lines, step_leaf, step_loop, step_end, step_region, step_parts, step_inside, step_from, step}
use Rattle.page_core_base.specs.declared.limits.TheConstants.{CALLS}
use Rattle.page_roff_blocks.specs.machine.Languages.{Kind, page, body, inner, Done, gives, calls, repeats, state_of, TURNS, Language, is_some, run_if, turns, finish_at, run_body, done_by, meaning_by, done_at, meaning_at, run_page}
use Rattle.page_roff_blocks.proofs.LinePartLemmas.{AreSuch, HasLeaves, IsAny, any_lines, any_leaves, any_line}
use Rattle.page_roff_blocks.proofs.TieLemmas.{Alike, Both, BothAt, TiesParts, TiesLine, lines_tied, Met, one_tie, of_one, same_at, parts_tied}
use Rattle.page_roff_blocks.specs.machine.Machine.{Turning, Frame, Running, depth, line_in, line_rest, finish_if, ended, after_line, rest, rest_of, entered, looped, turned, at_part, between, at_page, stands_at, leaf_next, leaf_if, loop_next, loop_if, end_next, part_next, region_next, line_next, turn_if, turn_next, body_next, source_next, next_in, next, over_pair, over, over_running, over_done, IsFront}
use Rattle.page_roff_heads.specs.declared.loops.LoopHead.{LoopHead}
use Rattle.page_roff_blocks.specs.declared.line_parts.LinePart.{LinePart}
use Rattle.page_roff_blocks.specs.declared.line_parts.LinePart.TheVariants.{Leaf, Guard, Block, Loop, End, Region}
use Rattle.page_roff_blocks.specs.declared.levels.Ended.{Ended}
use Rattle.page_roff_blocks.specs.declared.levels.Ended.TheVariants as endings
use Rattle.page_roff_blocks.specs.laws.Views.{BlockCursor, at_line}
use Rattle.page_roff_blocks.specs.Forest.{first_place}
use Rattle.page_roff_blocks.specs.machine.Steps as blocks

-- States that are tied are given, or the same lines are called or repeated, which are such.
pub data DoneTied {S Q : Type 0} (T : List ℕ → Type 0) (K : Kind → Type 0) (B : S → Q → Type 0) : Done S → Done Q → Type 0 where
  give : (s : S) (t : Q) → B s t → DoneTied T K B (gives s) (gives t)
  call : (lines args : List (List ℕ)) (s : S) (t : Q) → AreSuch T lines → K (body (Some args)) → B s t → DoneTied T K B (calls lines args s) (calls lines args t)
  repeat : (condition : List ℕ) (lines : List (List ℕ)) (s : S) (t : Q) → T condition → AreSuch T lines → B s t → DoneTied T K B (repeats condition lines s) (repeats condition lines t)

-- sources of any kind
abbrev pub AnyKind : Kind → Type 0
AnyKind kind = Unit {0}

pub kept_done : {S : Type 0} (P : S → Type 0) (done : Done S) → P (state_of done) → DoneTied IsAny AnyKind (Alike P) done done
kept_done P (gives s) h = give s s (refl, h)
kept_done P (calls lines args s) h = call lines args s s (any_lines lines) tt (refl, h)
kept_done P (repeats condition lines s) h = repeat condition lines s s tt (any_lines lines) (refl, h)

-- In sources of such kinds. The lines are those of bodies.
pub record TiesLanguages {S Q : Type 0} (T : List ℕ → Type 0) (K : Kind → Type 0) (N F B : S → Q → Type 0) (l : Language S) (o : Language Q) : Type 0 where
  pub inner : (kind : Kind) → K kind → K (inner kind)
  pub parts : (d : ℕ) (kind : Kind) → K kind → TiesParts T N F B (meaning_at l d kind) (meaning_at o d kind)
  pub lines : (d : ℕ) (args : Option (List (List ℕ))) → K (body args) → (line : List ℕ) → T line → TiesLine B N B (meaning_at l d (body args)) (meaning_at o d (body args)) line
  pub leaf : (may_call : Bool) (kind : Kind) (text : List ℕ) (s : S) (t : Q) → K kind → T text → F s t → DoneTied T K B (l.leaf may_call kind text s) (o.leaf may_call kind text t)
  pub closes : (may_run : Bool) (s : S) (t : Q) → B s t → DoneTied T K B (l.closes may_run s) (o.closes may_run t)
  pub turn : (kind : Kind) (condition : List ℕ) (s : S) (t : Q) → K kind → T condition → B s t → Both B (l.turn kind condition s) (o.turn kind condition t)
  pub finish : (region : Option Opened) (in_loop : Bool) (s : S) (t : Q) → B s t → B (l.finish region in_loop s) (o.finish region in_loop t)

module _ {S Q : Type 0} (T : List ℕ → Type 0) (K : Kind → Type 0) (N F B : S → Q → Type 0) (l : Language S) (o : Language Q)
    (leaves : HasLeaves T) (k : TiesLanguages T K N F B l o) where
  pub finish_tied : (a : At S) (b : At Q) → BothAt B a b → B (finish_at l a) (finish_at o b)
  unfolding finish_at
  finish_tied a b h = grind arith

  if_tied : (x : S → S) (y : Q → Q) → ((s : S) (t : Q) → B s t → B (x s) (y t)) → (runs : Bool) (s : S) (t : Q) → B s t → B (run_if runs x s) (run_if runs y t)
  unfolding run_if
  if_tied x y then true s t h = then s t h
  if_tied x y then false s t h = h

  pub turns_tied : (kind : Kind) (condition : List ℕ) → K kind → T condition → (run : S → S) (other : Q → Q) → ((s : S) (t : Q) → B s t → B (run s) (other t))
      → (n : ℕ) (s : S) (t : Q) → B s t → B (turns l n run kind condition s) (turns o n other kind condition t)
  unfolding turns
  turns_tied kind condition a c run other same zero s t h = h
  turns_tied kind condition a c run other same (suc n) s t h =
      let v = l.turn kind condition s in
      let w = o.turn kind condition t in
      let e = k.turn kind condition s t a c h in
      let x : S → S = λ s. turns l n run kind condition (run s) in
      let y : Q → Q = λ t. turns o n other kind condition (other t) in
      subst (λ (runs : Bool). B (run_if v.0 x v.1) (run_if runs y w.1)) e.0
      (if_tied x y (λ s t h. turns_tied kind condition a c run other same n (run s) (other t) (same s t h)) v.0 v.1 w.1 e.1)

  -- what comes of leaves and loops is tied, where so many more sources may run
  pub DonesTied : ℕ → Type 0
  DonesTied d = (kind : Kind) → K kind → (done : Done S) (other : Done Q) → DoneTied T K B done other → B (done_at l d kind done) (done_at o d kind other)

  pub gives_tied : (d : ℕ) → DonesTied d → (kind : Kind) → K kind → (text : List ℕ) (s : S) (t : Q) → T text → F s t → B ((meaning_at l d kind).gives text s) ((meaning_at o d kind).gives text t)
  unfolding meaning_at meaning_by DonesTied
  gives_tied d dones kind a text s t c h = grind arith

  pub closes_tied : (d : ℕ) → DonesTied d → (kind : Kind) → K kind → (s : S) (t : Q) → B s t → B ((meaning_at l d kind).closes_loop s) ((meaning_at o d kind).closes_loop t)
  unfolding meaning_at meaning_by DonesTied
  closes_tied d dones kind a s t h = dones kind a (l.closes (is_some d) s) (o.closes (is_some d) t) (k.closes (is_some d) s t h)

  -- lines of a source
  source_tied : (d : ℕ) → DonesTied d → (kind : Kind) → K kind → ((line : List ℕ) → T line → TiesLine B N B (meaning_at l d kind) (meaning_at o d kind) line)
      → (lines : List (List ℕ)) → AreSuch T lines → (a : At S) (b : At Q) → BothAt B a b
      → BothAt B (step_lines (meaning_at l d kind) lines a) (step_lines (meaning_at o d kind) lines b)
  source_tied d dones kind a i lines c = grind (arith, lines_tied, gives_tied, closes_tied)

  body_by : (d : ℕ) → DonesTied d → (kind : Kind) → K kind → ((line : List ℕ) → T line → TiesLine B N B (meaning_at l d kind) (meaning_at o d kind) line)
      → (lines : List (List ℕ)) → AreSuch T lines → (s : S) (t : Q) → B s t → B (run_body l (meaning_at l d kind) lines s) (run_body o (meaning_at o d kind) lines t)
  unfolding run_body
  body_by d dones kind a i lines c s t h = grind (arith, finish_tied, source_tied)

  loop_by : (d : ℕ) → DonesTied d → (args : Option (List (List ℕ))) → K (body args) → (condition : List ℕ) → T condition → (lines : List (List ℕ)) → AreSuch T lines → (s : S) (t : Q) → B s t
      → B (turns l TURNS (run_body l (meaning_at l d (body args)) lines) (body args) condition s) (turns o TURNS (run_body o (meaning_at o d (body args)) lines) (body args) condition t)
  loop_by d dones args a condition c lines such s t h = grind (arith, turns_tied, body_by)

  pub dones_tied : (d : ℕ) → DonesTied d
  unfolding DonesTied done_at done_by meaning_at inner
  dones_tied zero kind a _ _ (give s t h) = h
  dones_tied zero kind a _ _ (call lines args s t c b h) = h
  dones_tied zero kind a _ _ (repeat condition lines s t c b h) = h
  dones_tied (suc d) kind a _ _ (give s t h) = h
  dones_tied (suc d) kind a _ _ (call lines args s t c b h) = body_by d (dones_tied d) (body (Some args)) b (k.lines d (Some args) b) lines c s t h
  dones_tied (suc d) page a _ _ (repeat condition lines s t c b h) = loop_by d (dones_tied d) None (k.inner page a) condition c lines b s t h
  dones_tied (suc d) (body args) a _ _ (repeat condition lines s t c b h) = loop_by d (dones_tied d) args (k.inner (body args) a) condition c lines b s t h

  pub body_tied : (d : ℕ) (kind : Kind) → K kind → ((line : List ℕ) → T line → TiesLine B N B (meaning_at l d kind) (meaning_at o d kind) line)
      → (lines : List (List ℕ)) → AreSuch T lines → (s : S) (t : Q) → B s t → B (run_body l (meaning_at l d kind) lines s) (run_body o (meaning_at o d kind) lines t)
  body_tied d = body_by d (dones_tied d)

  pub page_tied : K page → ((line : List ℕ) → T line → TiesLine B N B (meaning_at l CALLS page) (meaning_at o CALLS page) line)
      → (lines : List (List ℕ)) → AreSuch T lines → (a : At S) (b : At Q) → BothAt B a b → BothAt B (run_page l lines a) (run_page o lines b)
  unfolding run_page
  page_tied a i lines c = source_tied CALLS (dones_tied CALLS) page a i lines c

-- ---- What is in front stays there: helpers of proofs.

module _ {S : Type 0} (front : S → S) (l : Language S) (f : IsFront front l) where
  abbrev pub Front : S → S → Type 0
  Front s t = front s ≡ t

  met_front : (v w : Bool × S) → w ≡ over_pair front v → Met Front Front v w
  met_front v w e = rw e (refl, one_tie Front v.0 v.1 (front v.1) refl)

  both_front : (v w : Bool × S) → w ≡ over_pair front v → Both Front v w
  both_front v w e = rw e (refl, refl)

  parts_front : (d : ℕ) (kind : Kind) → TiesParts IsAny Front Front Front (meaning_at l d kind) (meaning_at l d kind)
  unfolding meaning_at meaning_by
  parts_front d kind = grind (arith, of_one, met_front, both_front)

  line_front : (d : ℕ) (kind : Kind) (line : List ℕ) → IsAny line → TiesLine Front Front Front (meaning_at l d kind) (meaning_at l d kind) line
  unfolding meaning_at meaning_by
  line_front d kind line c = grind arith

  done_front : (done : Done S) → DoneTied IsAny AnyKind Front done (over_done front done)
  done_front (gives s) = give s (front s) refl
  done_front (calls lines args s) = call lines args s (front s) (any_lines lines) tt refl
  done_front (repeats condition lines s) = repeat condition lines s (front s) tt (any_lines lines) refl

  front_tied : TiesLanguages IsAny AnyKind Front Front Front l l
  front_tied = record {
    inner = λ kind a. tt;
    parts = λ d kind a. parts_front d kind;
    lines = λ d args a. line_front d _;
    leaf = λ may kind text s t a c r. rw (← r, f.leaf may kind text s) (done_front (l.leaf may kind text s));
    closes = λ may s t r. rw (← r, f.closes may s) (done_front (l.closes may s));
    turn = λ kind condition s t a c r. rw (← r) (both_front _ _ (f.turn kind condition s));
    finish = λ region in_loop s t r. rw (← r) (sym (f.finish region in_loop s));
  }

  gives_front : (d : ℕ) (kind : Kind) (text : List ℕ) (s t : S) → IsAny text → Front s t → Front ((meaning_at l d kind).gives text s) ((meaning_at l d kind).gives text t)
  gives_front d kind =
      gives_tied IsAny AnyKind Front Front Front l l any_line front_tied d (dones_tied IsAny AnyKind Front Front Front l l any_line front_tied d) kind tt

  closes_front : (d : ℕ) (kind : Kind) (s t : S) → Front s t → Front ((meaning_at l d kind).closes_loop s) ((meaning_at l d kind).closes_loop t)
  closes_front d kind =
      closes_tied IsAny AnyKind Front Front Front l l any_line front_tied d (dones_tied IsAny AnyKind Front Front Front l l any_line front_tied d) kind tt

  in_front : (d : ℕ) (kind : Kind) (region : Option Opened) (g : Frame) (s t : S) → Front s t
      → BothAt Front (line_in l (meaning_at l d kind) region g s) (line_in l (meaning_at l d kind) region g t)
  unfolding line_in
  in_front d kind None g s t r =
      let m = meaning_at l d kind in
      parts_tied IsAny Front Front Front m m (parts_front d kind) (gives_front d kind) (closes_front d kind) g.parts (any_leaves g.parts) g.cursor s t
      (one_tie Front g.cursor.begun s t r)
  in_front d kind (Some o) g s t r = (refl, r)

  lines_front : (d : ℕ) (kind : Kind) (lines : List (List ℕ)) (a b : At S) → BothAt Front a b
      → BothAt Front (step_lines (meaning_at l d kind) lines a) (step_lines (meaning_at l d kind) lines b)
  lines_front d kind lines =
      let m = meaning_at l d kind in
      lines_tied IsAny Front Front Front m m (parts_front d kind) (gives_front d kind) (closes_front d kind) any_line (line_front d kind) lines (any_lines lines)

  last_front : (begun : Bool) (a b : At S) → BothAt Front a b → Front (finish_if l begun a) (finish_if l begun b)
  unfolding finish_if
  last_front true a b r = finish_tied IsAny AnyKind Front Front Front l l any_line front_tied a b r
  last_front false a b r = r.1

  ended_front : (turning : Option Turning) (d : ℕ) (kind : Kind) (a b : At S) → BothAt Front a b → Front (ended l turning (meaning_at l d kind) kind a) (ended l turning (meaning_at l d kind) kind b)
  unfolding ended
  ended_front None d kind a b r = finish_tied IsAny AnyKind Front Front Front l l any_line front_tied a b r
  ended_front (Some t) d kind a b r = grind (arith, turns_tied, any_line, front_tied, body_tied, line_front, any_lines, last_front)

  after_front : (kind : Kind) (turning : Option Turning) (lines : List (List ℕ)) (under : List Frame) (a b : At S) → BothAt Front a b
      → BothAt Front (after_line l kind turning lines under a) (after_line l kind turning lines under b)
  unfolding after_line line_rest
  after_front kind turning lines [] a b r = lines_front (depth []) kind lines a b r
  after_front kind turning lines (g ∷ gs) a b r =
      let d = depth (g ∷ gs) in
      after_front g.kind g.turning g.lines gs _ _
      (in_front (depth gs) g.kind g.region g _ _ (ended_front turning d kind _ _ (lines_front d kind lines a b r)))

  pub rest_front : (r : Running S) → rest_of l (over_running front r) ≡ over front (rest_of l r)
  unfolding rest_of rest line_rest
  rest_front r = grind (arith, after_front, in_front, same_at)

-- ---- What is still to come, step by step: helpers of proofs.

module _ {S : Type 0} (l : Language S) where
  abbrev pub frame : Kind → Option Opened → List (LinePart (List ℕ)) → BlockCursor → List (List ℕ) → Option Turning → Frame
  frame kind region parts cursor lines turning =
      record { kind = kind; region = region; parts = parts; cursor = cursor; lines = lines; turning = turning }

  one_less : (n k d : ℕ) → n - k ≡ suc d → n - suc k ≡ d
  one_less n k d e = omega arith

  module _ (under : List Frame) (kind : Kind) (more : List (LinePart (List ℕ))) (cursor : BlockCursor) (lines : List (List ℕ)) (turning : Option Turning) where
    abbrev pub m : Meaning S
    m = meaning_at l (depth under) kind

    abbrev pub f : Frame
    f = frame kind None more cursor lines turning

    -- what comes after a part
    abbrev pub further : S → At S
    further s = after_line l kind turning lines under (step_parts (meaning_at l (depth under) kind) more cursor s)

    -- what comes of a leaf or a loop, where so many more sources may run
    done_law : (d : ℕ) (done : Done S) → depth under ≡ d → further (done_at l d kind done) ≡ rest_of l (leaf_next l (is_some d) f under done)
    unfolding done_at done_by is_some meaning_at run_body rest_of rest after_line ended finish_if leaf_next line_rest line_in entered looped step_parts step_lines at_line first_place depth
    done_law zero (gives s) e = refl
    done_law zero (calls ls args s) e = refl
    done_law zero (repeats condition ls s) e = refl
    done_law (suc d) (gives s) e = refl
    done_law (suc d) (calls ls args s) e = grind (arith, one_less)
    done_law (suc d) (repeats condition ls s) e = grind (arith, one_less)

    leaf_law : (is_met : Bool) (text : List ℕ) (s : S) → further (blocks.leaf_if m is_met text s) ≡ rest_of l (leaf_if l is_met text f under s)
    unfolding blocks.leaf_if leaf_if meaning_at meaning_by rest_of rest line_rest line_in
    leaf_law true text s = done_law (depth under) (l.leaf (is_some (depth under)) kind text s) refl
    leaf_law false text s = refl

    -- a loop is whole
    whole_law : (s : S) → further (m.closes_loop s) ≡ rest_of l (loop_next l f under s)
    unfolding loop_next meaning_at meaning_by
    whole_law s = done_law (depth under) (l.closes (is_some (depth under)) s) refl

    loop_law : (is_met : Bool) (h : LoopHead (List ℕ)) (s : S) → further (blocks.loop_if m is_met h s) ≡ rest_of l (loop_if l m is_met h f under s)
    unfolding blocks.loop_if loop_if rest_of rest line_rest line_in
    loop_law true h s = whole_law (m.opens_loop h s)
    loop_law false h s = refl

    ending_law : (ending : Ended) (s : S) → further (end_by m ending s) ≡ rest_of l (end_next l m ending f under s)
    unfolding end_by end_next rest_of rest line_rest line_in
    ending_law endings.Block s = refl
    ending_law endings.Loop s = whole_law s
    ending_law endings.Nothing s = refl

  part_law : (part : LinePart (List ℕ)) (under : List Frame) (kind : Kind) (more : List (LinePart (List ℕ))) (cursor : BlockCursor) (lines : List (List ℕ)) (turning : Option Turning) (s : S)
      → let f = frame kind None (part ∷ more) cursor lines turning in
      rest l f under s ≡ rest_of l (part_next l (meaning_at l (depth under) kind) part more f under s)
  unfolding rest_of rest line_rest line_in part_next at_part between step_parts step_leaf step_loop step_end step_region at_line
  part_law (Leaf text) under kind more cursor lines turning s = grind (arith, leaf_law)
  part_law (Guard h) under kind more cursor lines turning s = refl
  part_law (Block h) under kind more cursor lines turning s = refl
  part_law (Loop h) under kind more cursor lines turning s = grind (arith, loop_law)
  part_law End under kind more cursor lines turning s = grind (arith, ending_law)
  part_law (Region head) under kind more cursor lines turning s = refl

  after_cons : (kind : Kind) (turning : Option Turning) (line : List ℕ) (more : List (List ℕ)) (under : List Frame) (a : At S)
      → after_line l kind turning (line ∷ more) under a ≡ after_line l kind turning more under (step (meaning_at l (depth under) kind) line a)
  unfolding after_line step_lines
  after_cons kind turning line more [] a = refl
  after_cons kind turning line more (g ∷ gs) a = refl

  inside_law : (is_end : Bool) (o : Opened) (line : List ℕ) (more : List (List ℕ)) (f : Frame) (under : List Frame) (s : S)
      → let m = meaning_at l (depth under) f.kind in
      after_line l f.kind f.turning more under (step_inside m is_end o line f.cursor.levels s) ≡ rest_of l (region_next l m is_end o line more f under s)
  unfolding rest_of rest line_rest line_in region_next between step_inside step_parts at_line
  inside_law true o line more f under s = refl
  inside_law false o line more f under s = refl

  region_law : (o : Opened) (line : List ℕ) (more : List (List ℕ)) (kind : Kind) (parts : List (LinePart (List ℕ))) (cursor : BlockCursor) (turning : Option Turning) (under : List Frame) (s : S)
      → let f = frame kind (Some o) parts cursor (line ∷ more) turning in
      rest l f under s ≡ rest_of l (region_next l (meaning_at l (depth under) kind) (is_ending o.ending line) o line more f under s)
  unfolding rest line_rest line_in step step_from
  region_law o line more kind parts cursor turning under s =
      after_cons kind turning line more under (record { place = record { region = Some o; levels = cursor.levels }; state = s })
      ∙ inside_law (is_ending o.ending line) o line more (frame kind (Some o) parts cursor (line ∷ more) turning) under s

  line_law : (line : List ℕ) (more : List (List ℕ)) (kind : Kind) (cursor : BlockCursor) (turning : Option Turning) (under : List Frame) (s : S)
      → let f = frame kind None [] cursor (line ∷ more) turning in rest l f under s ≡ rest_of l (line_next l (meaning_at l (depth under) kind) line more f under s)
  unfolding rest_of rest line_rest line_in line_next step step_from step_parts
  line_law line more kind cursor turning under s = grind (arith, after_cons)

  -- ---- turns of loops

  same_rest : (g : Frame) (gs : List Frame) (s : S) → rest l g gs s ≡ rest_of l (record { top = g; under = gs; state = s })
  unfolding rest_of
  same_rest g gs s = refl

  -- a turn begins with all lines of the body
  runs_law : (runs : Bool) (left : ℕ) (kind : Kind) (t : Turning) (g : Frame) (gs : List Frame) (s : S)
      → let run = run_body l (meaning_at l (depth (g ∷ gs)) kind) t.lines in
      rest l g gs (run_if runs (λ s. turns l left run kind t.condition (run s)) s) ≡ rest_of l (turn_if l runs kind t left g gs s)
  unfolding run_if turn_if rest_of rest after_line ended finish_if line_rest line_in turned step_parts at_line first_place run_body
  runs_law true left kind t g gs s = refl
  runs_law false left kind t g gs s = refl

  turn_law : (left : ℕ) (kind : Kind) (t : Turning) (g : Frame) (gs : List Frame) (s : S)
      → rest l g gs (turns l left (run_body l (meaning_at l (depth (g ∷ gs)) kind) t.lines) kind t.condition s) ≡ rest_of l (turn_next l left kind t g gs s)
  unfolding turns turn_next
  turn_law zero kind t g gs s = same_rest g gs s
  turn_law (suc left) kind t g gs s = let v = l.turn kind t.condition s in runs_law v.0 left kind t g gs v.1

  body_law : (turning : Option Turning) (kind : Kind) (g : Frame) (gs : List Frame) (a : At S)
      → rest l g gs (ended l turning (meaning_at l (depth (g ∷ gs)) kind) kind a) ≡ rest_of l (body_next l turning kind g gs a)
  unfolding ended body_next
  body_law None kind g gs a = same_rest g gs (finish_at l a)
  body_law (Some t) kind g gs a = turn_law t.left kind t g gs (finish_if l t.begun a)

  over_law : (turning : Option Turning) (kind : Kind) (g : Frame) (gs : List Frame) (a : At S)
      → after_line l kind turning [] (g ∷ gs) a ≡ rest l g gs (ended l turning (meaning_at l (depth (g ∷ gs)) kind) kind a)
  unfolding after_line rest step_lines
  over_law turning kind g gs a = refl

  -- after a step, or where none is left
  come : At S → Option (Running S) → At S
  come a None = a
  come a (Some q) = rest_of l q

  source_law : (turning : Option Turning) (under : List Frame) (kind : Kind) (a : At S) → after_line l kind turning [] under a ≡ come a (source_next l turning kind under a)
  unfolding come source_next after_line step_lines
  source_law turning [] kind a = refl
  source_law turning (g ∷ gs) kind a = over_law turning kind g gs a ∙ body_law turning kind g gs a

  step_law : (region : Option Opened) (parts : List (LinePart (List ℕ))) (lines : List (List ℕ)) (kind : Kind) (cursor : BlockCursor) (turning : Option Turning) (under : List Frame) (s : S)
      → let f = frame kind region parts cursor lines turning in
      rest l f under s ≡ come (record { place = record { region = region; levels = cursor.levels }; state = s }) (next_in l (meaning_at l (depth under) kind) region parts lines f under s)
  unfolding come next_in rest line_rest line_in step_parts
  step_law None (part ∷ more) lines kind cursor turning under s = part_law part under kind more cursor lines turning s
  step_law None [] (line ∷ more) kind cursor turning under s = line_law line more kind cursor turning under s
  step_law None [] [] kind cursor turning under s = grind (arith, source_law)
  step_law (Some o) parts (line ∷ more) kind cursor turning under s = region_law o line more kind parts cursor turning under s
  step_law (Some o) parts [] kind cursor turning under s = grind (arith, source_law)

  next_come : (r : Running S) → rest_of l r ≡ come (stands_at r) (next l r)
  unfolding next rest_of stands_at
  next_come r = step_law r.top.region r.top.parts r.top.lines r.top.kind r.top.cursor r.top.turning r.under r.state

  pub next_law : (r q : Running S) → next l r ≡ Some q → rest_of l r ≡ rest_of l q
  unfolding come
  next_law r q e = next_come r ∙ ap (come (stands_at r)) e

  pub end_law : (r : Running S) → next l r ≡ None → rest_of l r ≡ stands_at r
  unfolding come
  end_law r e = next_come r ∙ ap (come (stands_at r)) e

  first_law : (region : Option Opened) (m : Meaning S) (f : Frame) (s : S)
      → f.parts ≡ [] → line_in l m region f s ≡ record { place = record { region = region; levels = f.cursor.levels }; state = s }
  unfolding line_in step_parts
  first_law None m f s e = rw e refl
  first_law (Some o) m f s e = refl

  pub page_law : (line : List ℕ) (a : At S) → rest_of l (at_page line a) ≡ run_page l (line ∷ []) a
  unfolding rest_of rest line_rest after_line at_page at_line run_page depth
  page_law line a = grind (arith, first_law)
