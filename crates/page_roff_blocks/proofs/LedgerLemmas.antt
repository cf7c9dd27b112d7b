-- What is paid for with the lines of a budget, a part or a turn at a time: helpers of proofs.
use Rattle.std.proofs.Common.{◌≡◌, ℕ, ◌+◌, ◌≤◌, Bool, true, false, ◌&&◌, not, List, Option, Some, None, refl, arith, zero, suc, [], ◌∷◌}
use Rattle.page_roff_syntax.specs.Regions.{Opened}
use Rattle.page_roff_blocks.specs.Parts.{loop_text}
use Rattle.page_roff_blocks.specs.machine.Languages.{Kind, page, body, Done, gives, calls, repeats, state_of, meaning_by, meaning_at, run_body, run_page, inner, TURNS, run_if, turns, Budgeted, Effects, with_rest, charge, begin_line, whether_run, meet, test, unopened_by, read_line, end_line, collect_some, meaning, done_with, closed_with, turn_by, turn, language, charge_by}
use Rattle.page_roff_blocks.specs.laws.Spent.{Spends}
use Rattle.page_roff_blocks.proofs.LinePartLemmas.{IsAny, any_line, any_lines, IsIfSome, IsLoopHead, AreSuch, HasLeaves, HasLoopTexts}
use Rattle.page_roff_blocks.proofs.TieLemmas.{Alike, Ties, Met, TiesParts, TiesLine, step_tied, one_tie, of_one}
use Rattle.page_roff_blocks.proofs.StepLemmas.{PaidDone, Pays, pays_tied}
use Rattle.page_roff_blocks.proofs.MachineLemmas.{AnyKind, TiesLanguages, body_tied, gives_tied, closes_tied, dones_tied, DoneTied, give, call, repeat, page_tied}
use Rattle.page_roff_blocks.specs.machine.Steps.{At, step, step_lines}
use Rattle.page_core_base.specs.declared.limits.TheConstants.{CALLS, REREAD}
use Rattle.page_roff_heads.specs.declared.conditions.Condition.{Condition}
use Rattle.page_roff_heads.specs.declared.loops.LoopHead.{LoopHead}
use Rattle.page_roff_blocks.specs.declared.line_parts.Head.{Head}
use Rattle.page_roff_syntax.specs.declared.region_heads.RegionHead.{RegionHead}

abbrev pub Ready : {S : Type 0} → (S → Type 0) → (S → Type 0) → Bool → S → Type 0
Ready F B true s = F s
Ready F B false s = B s

-- where a line was taken, unless all was given up
abbrev pub Fresh : {R : Type 0} → (Budgeted R → Type 0) → (Budgeted R → Type 0) → Budgeted R → Type 0
Fresh F B s = Ready F B (not s.gave_up) s

-- `B` holds between parts, `F` where one more line was paid for, which may be spent, and `G` where it was spent and a body begins.
pub record Ledger {R : Type 0} (spent : R → ℕ) (most : ℕ) (e : Effects R) (K : Kind → Type 0) (F B G : Budgeted R → Type 0) : Type 0 where
  pub full : (s : Budgeted R) → F s → B s
  pub body : (s : Budgeted R) → G s → B s
  pub same : (s : Budgeted R) (r : R) → spent r ≡ spent s.rest → B s → B (with_rest e s r)
  pub same_full : (s : Budgeted R) (r : R) → spent r ≡ spent s.rest → F s → F (with_rest e s r)
  pub pays : (s : Budgeted R) (r : R) → spent r ≤ spent s.rest + most → F s → G (with_rest e s r)
  pub charges : (s : Budgeted R) → B s → Fresh F B (charge e s)
  pub begins : K page → (s : Budgeted R) → B s → Fresh F B (begin_line e page s)

-- effects spend nothing, if nothing counts
pub free : {R : Type 0} (e : Effects R) → Spends (λ r. 0) 0 e
free e = record {
  exhausts = λ r. refl;
  tests = λ kind condition r. omega arith;
  leaf = λ may kind text r. omega arith;
  refuses = λ h r. refl;
  unopened = λ r. refl;
  opens_region = λ kind head run r. refl;
  reads = λ kind o line r. omega arith;
  passes = λ kind o line r. refl;
  ends_region = λ kind o run line r. refl;
  opens_loop = λ h r. refl;
  collects = λ run text r. refl;
  closes = λ run may r. refl;
  turns = λ kind condition r. omega arith;
  finish = λ region in_loop gave_up r. refl;
}

module _ {R : Type 0} (spent : R → ℕ) (most : ℕ) (e : Effects R) (p : Spends spent most e) (K : Kind → Type 0) (F B G : Budgeted R → Type 0) (k : Ledger spent most e K F B G) where
  pub ready_base : (is_met : Bool) (s : Budgeted R) → Ready F B is_met s → B s
  ready_base true s h = k.full s h
  ready_base false s h = h

  ready_ties : (is_met : Bool) (s : Budgeted R) → Ready F B is_met s → Ties (Alike F) (Alike B) is_met s s
  ready_ties true s h = (refl, h)
  ready_ties false s h = (refl, h)

  line_base : (begun : Bool) (s t : Budgeted R) → Ties (Alike B) (Alike (Fresh F B)) begun s t → Alike B s t
  line_base true s t r = r
  line_base false s t r = (r.0, ready_base (not s.gave_up) s r.1)

  begin_fresh : (kind : Kind) → K kind → (s : Budgeted R) → B s → Fresh F B (begin_line e kind s)
  unfolding begin_line
  begin_fresh page c s h = k.begins c s h
  begin_fresh (body args) c s h = k.charges s h

  rest_ready : (is_met : Bool) (s : Budgeted R) (r : R) → spent r ≡ spent s.rest → Ready F B is_met s → Ready F B is_met (with_rest e s r)
  rest_ready true s r h q = k.same_full s r h q
  rest_ready false s r h q = k.same s r h q

  rest_fresh : (s : Budgeted R) (r : R) → spent r ≡ spent s.rest → Fresh F B s → Fresh F B (with_rest e s r)
  unfolding with_rest
  rest_fresh s r h q = rest_ready (not s.gave_up) s r h q

  some_base : (text : Option (List ℕ)) (s : Budgeted R) → B s → B (collect_some e text s)
  unfolding collect_some
  some_base None s h = h
  some_base (Some text) s h = k.same s (e.collects (not s.gave_up) text s.rest) (p.collects (not s.gave_up) text s.rest) h

  some_fresh : (text : Option (List ℕ)) (s : Budgeted R) → Fresh F B s → Fresh F B (collect_some e text s)
  unfolding collect_some
  some_fresh None s h = h
  some_fresh (Some text) s h = rest_fresh s (e.collects (not s.gave_up) text s.rest) (p.collects (not s.gave_up) text s.rest) h

  unopened_base : (kind : Kind) (gave_up : Bool) (s : Budgeted R) → B s → B (unopened_by e kind gave_up s)
  unfolding unopened_by
  unopened_base page gave_up s h = k.same s (e.unopened s.rest) (p.unopened s.rest) h
  unopened_base (body args) true s h = h
  unopened_base (body args) false s h = k.same s (e.unopened s.rest) (p.unopened s.rest) h

  flag_base : (is_run gave_up : Bool) (kind : Kind) (o : Opened) (line : List ℕ) (s : Budgeted R) → Ready F B (not gave_up) s
      → B (with_rest e s (e.reads kind o (is_run && not gave_up) line s.rest))
  flag_base true false kind o line s h = grind arith
  flag_base true true kind o line s h = k.same s (e.reads kind o false line s.rest) (p.passes kind o line s.rest) h
  flag_base false gave_up kind o line s h = k.same s (e.reads kind o false line s.rest) (p.passes kind o line s.rest) (ready_base (not gave_up) s h)

  leaf_paid : (s : Budgeted R) (done : Done R) → spent (state_of done) ≤ spent s.rest + most → F s → PaidDone B G (done_with e s done)
  unfolding done_with
  leaf_paid s (gives r) q h = k.body (with_rest e s r) (k.pays s r q h)
  leaf_paid s (calls lines args r) q h = k.pays s r q h
  leaf_paid s (repeats condition lines r) q h = k.body (with_rest e s r) (k.pays s r q h)

  closed_paid : (s : Budgeted R) (done : Done R) → spent (state_of done) ≡ spent s.rest → B s → PaidDone B G (closed_with e s done)
  unfolding closed_with
  closed_paid s (gives r) q h = k.same s r q h
  closed_paid s (calls lines args r) q h = k.same s r q h
  closed_paid s (repeats condition lines r) q h = k.same s r q h

  turned_paid : (gave_up : Bool) (kind : Kind) (condition : List ℕ) (s : Budgeted R) → Ready F B (not gave_up) s
      → let v = turn_by e gave_up kind condition s in (v.0 ≡ true → G v.1) × B v.1
  unfolding turn_by
  turned_paid true kind condition s h = (λ x. absurd (cc), h)
  turned_paid false kind condition s h = grind arith

  meets_paid : (is_remainder : Bool) (s t : Budgeted R) → Ties (Alike B) (Alike (Fresh F B)) is_remainder s t → Met (Alike F) (Alike B) (meet e is_remainder s) (meet e is_remainder t)
  unfolding meet whether_run
  meets_paid true s t r = rw (← r.0) (refl, ready_ties (not (charge e s).gave_up) (charge e s) (k.charges s r.1))
  meets_paid false s t r = rw (← r.0) (refl, ready_ties (not s.gave_up) s r.1)

  pub parts_paid : (d : ℕ) (kind : Kind) → TiesParts IsAny (Alike (Fresh F B)) (Alike F) (Alike B) (meaning_at (language e) d kind) (meaning_at (language e) d kind)
  unfolding meaning_at meaning_by language meaning test
  parts_paid d kind = record {
    base = line_base;
    full = λ s t r. (r.0, k.full s r.1);
    meets = meets_paid;
    tests = λ condition s t r.
        let v = (e.tests kind condition s.rest).1 in rw (← r.0) (refl, (refl, k.body (with_rest e s v) (k.pays s v (p.tests kind condition s.rest) r.1)));
    refuses = λ h s t r. rw (← r.0) (refl, k.same s (e.refuses h s.rest) (p.refuses h s.rest) r.1);
    unopened = λ s t r. rw (← r.0) (refl, unopened_base kind s.gave_up s r.1);
    opens_region = λ h run s t r. rw (← r.0) (refl, k.same s (e.opens_region kind h run s.rest) (p.opens_region kind h run s.rest) r.1);
    opens_loop = λ h s t c r. rw (← r.0) (refl, k.same s (e.opens_loop h s.rest) (p.opens_loop h s.rest) r.1);
  }

  -- lines of such a kind, of which something is known where they begin
  pub lines_from : (A : Budgeted R → Type 0) (d : ℕ) (kind : Kind) → ((s : Budgeted R) → A s → Fresh F B (begin_line e kind s)) → (line : List ℕ)
      → TiesLine (Alike A) (Alike (Fresh F B)) (Alike B) (meaning_at (language e) d kind) (meaning_at (language e) d kind) line
  unfolding meaning_at meaning_by language meaning read_line end_line
  lines_from A d kind begins line = record {
    begins = λ s t r. rw (← r.0) (refl, begins s r.1);
    reads = λ o s t r. let c = begin_line e kind s in rw (← r.0) (refl, flag_base o.is_run c.gave_up kind o line c (begins s r.1));
    ends_region = λ o s t r.
        let c = begin_line e kind s in
        let run = o.is_run && not c.gave_up in
        rw (← r.0) (refl, k.same c (e.ends_region kind o run line c.rest) (p.ends_region kind o run line c.rest) (ready_base (not c.gave_up) c (begins s r.1)));
    collects = λ open_blocks s t r. rw (← r.0) (refl, some_fresh (loop_text open_blocks line) s r.1);
    keeps = λ s t r. rw (← r.0) (refl, some_base (Some line) s r.1);
  }

  pub steps_paid : Pays K (Fresh F B) F B G (language e)
  unfolding language turn
  steps_paid = record {
    parts = parts_paid;
    lines = λ d kind c. lines_from B d kind (begin_fresh kind c);
    body = k.body;
    leaf = λ may kind text s h. leaf_paid s (e.leaf may kind text s.rest) (p.leaf may kind text s.rest) h;
    closes = λ may s h. closed_paid s (e.closes (not s.gave_up) may s.rest) (p.closes (not s.gave_up) may s.rest) h;
    turn = λ kind condition s h. let c = charge e s in turned_paid c.gave_up kind condition c (k.charges s h);
    finish = λ region in_loop s h. k.same s (e.finish region in_loop s.gave_up s.rest) (p.finish region in_loop s.gave_up s.rest) h;
  }

-- ---- What a re-read line and all effects of parts keep, the bodies that run keep: helpers of proofs.

abbrev pub IsBody : Kind → Type 0
IsBody kind = kind ≡ page → ⊥

pub both_ready : {S : Type 0} (P : S → Type 0) (is_met : Bool) (s : S) → P s → Ready P P is_met s
both_ready P true s h = h
both_ready P false s h = h

module _ {R : Type 0} (e : Effects R) (P : Budgeted R → Type 0) (charge_keeps : (s : Budgeted R) → P s → P (charge e s)) (rest_keeps : (s : Budgeted R) (r : R) → P s → P (with_rest e s r)) where
  pub kept : Ledger (λ r. 0) 0 e IsBody P P P
  kept = record {
    full = λ s h. h;
    body = λ s h. h;
    same = λ s r q h. rest_keeps s r h;
    same_full = λ s r q h. rest_keeps s r h;
    pays = λ s r q h. rest_keeps s r h;
    charges = λ s h. both_ready P (not (charge e s).gave_up) (charge e s) (charge_keeps s h);
    begins = λ no s h. absurd (no refl);
  }

  pays_kept : Pays IsBody (Fresh P P) P P P (language e)
  pays_kept = steps_paid (λ r. 0) 0 e (free e) IsBody P P P kept

  pub language_kept : TiesLanguages IsAny AnyKind (Alike (Fresh P P)) (Alike P) (Alike P) (language e) (language e)
  language_kept = pays_tied IsBody (Fresh P P) P P P (language e) pays_kept (λ args e. absurd (cc))

  pub body_keeps : (d : ℕ) (args : Option (List (List ℕ))) (lines : List (List ℕ)) (s : Budgeted R) → P s
      → P (run_body (language e) (meaning_at (language e) d (body args)) lines s)
  body_keeps d args lines s h = grind (arith, body_tied, any_line, language_kept, any_lines)

-- ---- What a source line takes of its budget: helpers of proofs.

left_if : Bool → ℕ → ℕ
left_if true left = 0
left_if false left = left

module _ {R : Type 0} (e : Effects R) (n : ℕ) where
  -- the lines that may have been taken at the end of the source line
  Within : Budgeted R → Type 0
  unfolding left_if
  Within s = s.taken + left_if s.gave_up s.left ≤ n

  charge_bound : (left : ℕ) (gave_up : Bool) (taken : ℕ) (rest : R)
      → let s : Budgeted R = record { left = left; gave_up = gave_up; taken = taken; rest = rest } in
      Within s → Within (charge_by e gave_up left s)
  unfolding charge_by Within left_if
  charge_bound left true taken rest h = h
  charge_bound zero false taken rest h = omega arith
  charge_bound (suc left) false taken rest h = omega arith

  charge_within : (s : Budgeted R) → Within s → Within (charge e s)
  unfolding charge
  charge_within s h = charge_bound s.left s.gave_up s.taken s.rest h

  rest_within : (s : Budgeted R) (r : R) → Within s → Within (with_rest e s r)
  unfolding with_rest Within
  rest_within s r h = h

  abbrev pub Starts : Budgeted R → Type 0
  Starts s = s.taken + 1 + REREAD ≤ n

  begin_within : (s : Budgeted R) → Starts s → Fresh Within Within (begin_line e page s)
  unfolding begin_line Within left_if
  begin_within s h = omega (arith, h)

  pub line_bound : (line : List ℕ) (a : At (Budgeted R)) → Starts a.state → (step (meaning_at (language e) CALLS page) line a).state.taken ≤ n
  unfolding Within left_if
  line_bound line a h =
      let m = meaning_at (language e) CALLS page in
      let N = Alike (Fresh Within Within) in
      let B = Alike Within in
      let k = kept e Within charge_within rest_within in
      let q = language_kept e Within charge_within rest_within in
      let dones = dones_tied IsAny AnyKind N B B (language e) (language e) any_line q CALLS in
      let r =
      step_tied IsAny N B B m m (parts_paid (λ r. 0) 0 e (free e) IsBody Within Within Within k CALLS page)
      (gives_tied IsAny AnyKind N B B (language e) (language e) any_line q CALLS dones page tt)
      (closes_tied IsAny AnyKind N B B (language e) (language e) any_line q CALLS dones page tt) (Alike Starts) line
      (lines_from (λ r. 0) 0 e (free e) IsBody Within Within Within k Starts CALLS page begin_within line) (any_line line tt) a a (refl, (refl, h)) in
      omega (arith, r.1.1)

pub page_line_bound : {R : Type 0} (e : Effects R) (line : List ℕ) (a : At (Budgeted R)) → (run_page (language e) (line ∷ []) a).state.taken ≤ a.state.taken + 1 + REREAD
unfolding run_page step_lines
page_line_bound e line a = line_bound e (a.state.taken + 1 + REREAD) line a (omega arith)

-- ---- What all effects of parts keep, the lines of a page keep, with the macros that they call and their loops: helpers of proofs.

-- what is kept is given, or a macro is called whose lines and arguments are such, or a loop repeats whose condition and lines are
abbrev pub IsKeptAfter : {R : Type 0} → (List ℕ → Type 0) → (Kind → Type 0) → (R → Type 0) → Done R → Type 0
IsKeptAfter T K P (gives r) = P r
IsKeptAfter T K P (calls lines args r) = AreSuch T lines × K (body (Some args)) × P r
IsKeptAfter T K P (repeats condition lines r) = T condition × AreSuch T lines × P r

-- in sources of such kinds, whose lines are such texts
pub record KeepsEffects {R : Type 0} (T : List ℕ → Type 0) (K : Kind → Type 0) (P : R → Type 0) (e : Effects R) : Type 0 where
  pub inner : (kind : Kind) → K kind → K (inner kind)
  pub exhausts : (r : R) → P r → P (e.exhausts r)
  pub tests : (kind : Kind) (condition : Condition (List ℕ)) (r : R) → P r → P (e.tests kind condition r).1
  pub leaf : (may_call : Bool) (kind : Kind) (text : List ℕ) (r : R) → K kind → T text → P r → IsKeptAfter T K P (e.leaf may_call kind text r)
  pub refuses : (h : Head (List ℕ)) (r : R) → P r → P (e.refuses h r)
  pub unopened : (r : R) → P r → P (e.unopened r)
  pub opens_region : (kind : Kind) (head : RegionHead (List ℕ)) (is_run : Bool) (r : R) → P r → P (e.opens_region kind head is_run r)
  pub reads : (kind : Kind) (o : Opened) (is_run : Bool) (line : List ℕ) (r : R) → K kind → T line → P r → P (e.reads kind o is_run line r)
  pub ends_region : (kind : Kind) (o : Opened) (is_run : Bool) (line : List ℕ) (r : R) → P r → P (e.ends_region kind o is_run line r)
  pub opens_loop : (h : LoopHead (List ℕ)) (r : R) → IsLoopHead T h → P r → P (e.opens_loop h r)
  pub collects : (is_run : Bool) (text : List ℕ) (r : R) → T text → P r → P (e.collects is_run text r)
  pub closes : (is_run may_run : Bool) (r : R) → P r → IsKeptAfter T K P (e.closes is_run may_run r)
  pub turns : (kind : Kind) (condition : List ℕ) (r : R) → K kind → T condition → P r → P (e.turns kind condition r).1
  pub finish : (region : Option Opened) (in_loop gave_up : Bool) (r : R) → P r → P (e.finish region in_loop gave_up r)

module _ {R : Type 0} (T : List ℕ → Type 0) (K : Kind → Type 0) (P : R → Type 0) (e : Effects R) (leaves : HasLeaves T) (texts : HasLoopTexts T) (k : KeepsEffects T K P e) where
  abbrev Tied : Budgeted R → Budgeted R → Type 0
  Tied = Alike (λ s. P s.rest)

  charge_by_keeps : (gave_up : Bool) (left : ℕ) (s : Budgeted R) → P s.rest → P (charge_by e gave_up left s).rest
  unfolding charge_by
  charge_by_keeps true left s h = h
  charge_by_keeps false zero s h = k.exhausts s.rest h
  charge_by_keeps false (suc left) s h = h

  charge_keeps : (s : Budgeted R) → P s.rest → P (charge e s).rest
  unfolding charge
  charge_keeps s h = charge_by_keeps s.gave_up s.left s h

  begin_keeps : (kind : Kind) (s : Budgeted R) → P s.rest → P (begin_line e kind s).rest
  unfolding begin_line
  begin_keeps page s h = h
  begin_keeps (body args) s h = charge_keeps s h

  run_tied : (s : Budgeted R) → P s.rest → Met Tied Tied (whether_run e s) (whether_run e s)
  unfolding whether_run
  run_tied s h = (refl, one_tie Tied (not s.gave_up) s s (refl, h))

  meet_tied : (is_remainder : Bool) (s t : Budgeted R) → Ties Tied Tied is_remainder s t → Met Tied Tied (meet e is_remainder s) (meet e is_remainder t)
  unfolding meet
  meet_tied true s t r = rw (← r.0) (run_tied (charge e s) (charge_keeps s r.1))
  meet_tied false s t r = rw (← r.0) (run_tied s r.1)

  unopened_keeps : (kind : Kind) (gave_up : Bool) (s : Budgeted R) → P s.rest → P (unopened_by e kind gave_up s).rest
  unfolding unopened_by with_rest
  unopened_keeps page gave_up s h = k.unopened s.rest h
  unopened_keeps (body args) true s h = h
  unopened_keeps (body args) false s h = k.unopened s.rest h

  some_keeps : (text : Option (List ℕ)) → IsIfSome T text → (s : Budgeted R) → P s.rest → P (collect_some e text s).rest
  unfolding collect_some with_rest
  some_keeps None c s h = h
  some_keeps (Some text) c s h = k.collects (not s.gave_up) text s.rest c h

  leaf_tied : (s : Budgeted R) (done : Done R) → IsKeptAfter T K P done → DoneTied T K Tied (done_with e s done) (done_with e s done)
  unfolding done_with with_rest
  leaf_tied s (gives r) h = give _ _ (refl, h)
  leaf_tied s (calls lines args r) h = call lines args _ _ h.0 h.1 (refl, h.2)
  leaf_tied s (repeats condition lines r) h = repeat condition lines _ _ h.0 h.1 (refl, h.2)

  closed_tied : (s : Budgeted R) (done : Done R) → IsKeptAfter T K P done → DoneTied T K Tied (closed_with e s done) (closed_with e s done)
  unfolding closed_with with_rest
  closed_tied s (gives r) h = give _ _ (refl, h)
  closed_tied s (calls lines args r) h = give _ _ (refl, h.2)
  closed_tied s (repeats condition lines r) h = repeat condition lines _ _ h.0 h.1 (refl, h.2)

  turn_keeps : (gave_up : Bool) (kind : Kind) (condition : List ℕ) (s : Budgeted R) → K kind → T condition → P s.rest → P (turn_by e gave_up kind condition s).1.rest
  unfolding turn_by with_rest
  turn_keeps true kind condition s a c h = h
  turn_keeps false kind condition s a c h = k.turns kind condition s.rest a c h

  parts_tied : (d : ℕ) (kind : Kind) → TiesParts T Tied Tied Tied (meaning_at (language e) d kind) (meaning_at (language e) d kind)
  unfolding meaning_at meaning_by language meaning test with_rest
  parts_tied d kind = record {
    base = of_one Tied;
    full = λ s t r. r;
    meets = meet_tied;
    tests = λ condition s t r. rw (← r.0) (refl, (refl, k.tests kind condition s.rest r.1));
    refuses = λ h s t r. rw (← r.0) (refl, k.refuses h s.rest r.1);
    unopened = λ s t r. rw (← r.0) (refl, unopened_keeps kind s.gave_up s r.1);
    opens_region = λ h run s t r. rw (← r.0) (refl, k.opens_region kind h run s.rest r.1);
    opens_loop = λ h s t c r. rw (← r.0) (refl, k.opens_loop h s.rest c r.1);
  }

  lines_tied : (d : ℕ) (kind : Kind) → K kind → (line : List ℕ) → T line → TiesLine Tied Tied Tied (meaning_at (language e) d kind) (meaning_at (language e) d kind) line
  unfolding meaning_at meaning_by language meaning read_line end_line with_rest
  lines_tied d kind a line c = record {
    begins = λ s t r. rw (← r.0) (refl, begin_keeps kind s r.1);
    reads = λ o s t r.
        let b = begin_line e kind s in rw (← r.0) (refl, k.reads kind o (o.is_run && not b.gave_up) line b.rest a c (begin_keeps kind s r.1));
    ends_region = λ o s t r.
        let b = begin_line e kind s in rw (← r.0) (refl, k.ends_region kind o (o.is_run && not b.gave_up) line b.rest (begin_keeps kind s r.1));
    collects = λ open_blocks s t r. rw (← r.0) (refl, some_keeps (loop_text open_blocks line) (texts open_blocks line c) s r.1);
    keeps = λ s t r. rw (← r.0) (refl, some_keeps (Some line) c s r.1);
  }

  languages_tied : TiesLanguages T K Tied Tied Tied (language e) (language e)
  unfolding language turn with_rest
  languages_tied = record {
    inner = k.inner;
    parts = λ d kind a. parts_tied d kind;
    lines = λ d args a. lines_tied d (body args) a;
    leaf = λ may kind text s t a c r. rw (← r.0) (leaf_tied s (e.leaf may kind text s.rest) (k.leaf may kind text s.rest a c r.1));
    closes = λ may s t r. rw (← r.0) (closed_tied s (e.closes (not s.gave_up) may s.rest) (k.closes (not s.gave_up) may s.rest r.1));
    turn = λ kind condition s t a c r.
        rw (← r.0) (refl, (refl, turn_keeps (charge e s).gave_up kind condition (charge e s) a c (charge_keeps s r.1)));
    finish = λ region in_loop s t r. rw (← r.0) (refl, k.finish region in_loop s.gave_up s.rest r.1);
  }

  pub page_keeps : K page → (lines : List (List ℕ)) (a : At (Budgeted R)) → AreSuch T lines → P a.state.rest → P (run_page (language e) lines a).state.rest
  page_keeps a lines at c h = grind (arith, page_tied, languages_tied, lines_tied)

-- ---- More turns than lines are left change nothing: helpers of proofs.

same_if : {S : Type 0} (runs : Bool) (f g : S → S) (s : S) → (runs ≡ true → f s ≡ g s) → run_if runs f s ≡ run_if runs g s
unfolding run_if
same_if true f g s h = h refl
same_if false f g s h = refl

module _ {R : Type 0} (e : Effects R) where
  Left : ℕ → Budgeted R → Type 0
  Left n s = s.left ≤ n

  charge_left_of : (n left : ℕ) (gave_up : Bool) (taken : ℕ) (rest : R)
      → let s : Budgeted R = record { left = left; gave_up = gave_up; taken = taken; rest = rest } in
      Left n s → Left n (charge_by e gave_up left s)
  unfolding charge_by Left
  charge_left_of n left true taken rest h = h
  charge_left_of n zero false taken rest h = h
  charge_left_of n (suc left) false taken rest h = omega arith

  charge_left : (n : ℕ) (s : Budgeted R) → Left n s → Left n (charge e s)
  unfolding charge
  charge_left n s h = charge_left_of n s.left s.gave_up s.taken s.rest h

  rest_left : (n : ℕ) (s : Budgeted R) (r : R) → Left n s → Left n (with_rest e s r)
  unfolding with_rest Left
  rest_left n s r h = h

  -- a turn that runs takes one of the lines left
  turn_takes_of : (kind : Kind) (condition : List ℕ) (n left : ℕ) (gave_up : Bool) (taken : ℕ) (rest : R)
      → let s : Budgeted R = record { left = left; gave_up = gave_up; taken = taken; rest = rest } in
      let c = charge_by e gave_up left s in
      let t = turn_by e c.gave_up kind condition c in
      left ≤ n → t.0 ≡ true → suc t.1.left ≤ n
  unfolding charge_by turn_by with_rest
  turn_takes_of kind condition n left true taken rest h run = absurd (cc)
  turn_takes_of kind condition n zero false taken rest h run = absurd (cc)
  turn_takes_of kind condition n (suc left) false taken rest h run = h

  turn_takes : (kind : Kind) (condition : List ℕ) (n : ℕ) (s : Budgeted R) → s.left ≤ n → ((language e).turn kind condition s).0 ≡ true
      → suc ((language e).turn kind condition s).1.left ≤ n
  unfolding language turn charge
  turn_takes kind condition n s h run = turn_takes_of kind condition n s.left s.gave_up s.taken s.rest h run

  module _ (kind : Kind) (condition : List ℕ) (run : Budgeted R → Budgeted R) (run_left : (n : ℕ) (s : Budgeted R) → s.left ≤ n → (run s).left ≤ n) where
    same_turns : (n a b : ℕ) (s : Budgeted R) → suc n ≤ a → suc n ≤ b → s.left ≤ n
        → turns (language e) a run kind condition s ≡ turns (language e) b run kind condition s
    unfolding turns
    same_turns n zero b s h k x = absurd (omega arith)
    same_turns n (suc a) zero s h k x = absurd (omega arith)
    same_turns zero (suc a) (suc b) s h k x = grind (arith, same_if, turn_takes)
    same_turns (suc n) (suc a) (suc b) s h k x =
        let v = (language e).turn kind condition s in
        same_if v.0 (λ s. turns (language e) a run kind condition (run s)) (λ s. turns (language e) b run kind condition (run s)) v.1
        (λ r.
        let t = turn_takes kind condition (suc n) s x r in
        same_turns n a b (run v.1) (omega arith) (omega arith) (run_left n v.1 (omega arith)))

  pub more_turns : (more depth : ℕ) (args : Option (List (List ℕ))) (condition : List ℕ) (lines : List (List ℕ)) (s : Budgeted R) → s.left ≤ REREAD
      → let run = run_body (language e) (meaning_at (language e) depth (body args)) lines in
      turns (language e) (more + TURNS) run (body args) condition s ≡ turns (language e) TURNS run (body args) condition s
  unfolding Left
  more_turns more depth args condition lines s h =
      same_turns (body args) condition (run_body (language e) (meaning_at (language e) depth (body args)) lines)
      (λ n s. body_keeps e (Left n) (charge_left n) (rest_left n) depth args lines s) REREAD (more + TURNS) TURNS s (omega arith) (omega arith) h
