-- What a step leads to, by what it does: helpers of proofs.
use Rattle.std.proofs.Common.{◌≡◌, ℕ, zero, suc, Bool, true, false, List, [], ◌∷◌, Option, Some, None, refl, subst, arith, ◌≤◌, length}
use Rattle.page_roff_heads.specs.declared.loops.LoopHead.{LoopHead}
use Rattle.page_roff_blocks.specs.declared.line_parts.LinePart.{LinePart}
use Rattle.page_roff_blocks.specs.declared.line_parts.LinePart.TheVariants.{Leaf, Guard, Block, Loop, End, Region}
use Rattle.page_roff_blocks.specs.declared.levels.Ended.{Ended}
use Rattle.page_roff_blocks.specs.declared.levels.Ended.TheVariants as endings
use Rattle.page_roff_syntax.specs.Regions.{Opened, opened}
use Rattle.page_roff_blocks.specs.Parts.{line_parts}
use Rattle.page_roff_blocks.specs.laws.Views.{BlockCursor, at_line, after_part, leave, what_ends}
use Rattle.page_roff_blocks.specs.machine.Steps.{Meaning, At, keep_if, met, guard_met, step_guard, block_met, step_block, step_region, begin_line}
use Rattle.page_roff_blocks.specs.machine.Languages.{Kind, body, Done, gives, calls, repeats, state_of, Language, is_some, finish_at, meaning_at, page, inner, Budgeted, Effects, language}
use Rattle.page_roff_blocks.specs.machine.Machine.{Turning, Frame, Running, entered, looped, turned, at_part, between, depth, finish_if, leaf_next, leaf_if, loop_next, loop_if, end_next, part_next, region_next, line_next, turn_if, turn_next, body_next, source_next, next_in, next, IsOnLine, AreOnLine, HasMeasure, IsFirst}
use Rattle.page_roff_blocks.proofs.LinePartLemmas.{IsAny, any_head, any_opening}
use Rattle.page_roff_blocks.proofs.TieLemmas.{Alike, Ties, TiesParts, TiesLine, one_tie, of_one, met_tied, ready_tied, guard_tied, block_tied, keep_tied, begin_tied}
use Rattle.page_roff_blocks.proofs.MachineLemmas.{AnyKind, TiesLanguages, kept_done}
use Rattle.page_core_base.specs.declared.limits.TheConstants.{CALLS}

abbrev pub PaidDone : {S : Type 0} → (S → Type 0) → (S → Type 0) → Done S → Type 0
PaidDone B G (gives s) = B s
PaidDone B G (calls lines args s) = G s
PaidDone B G (repeats condition lines s) = B s

pub done_base : {S : Type 0} (B G : S → Type 0) → ((s : S) → G s → B s) → (done : Done S) → PaidDone B G done → B (state_of done)
done_base B G begun (gives s) h = h
done_base B G begun (calls lines args s) h = begun s h
done_base B G begun (repeats condition lines s) h = h

-- `N` holds where a line began, `F` where a part is run, `G` where a body begins and `B` at all other times; lines come in sources of such kinds.
pub record Pays {S : Type 0} (K : Kind → Type 0) (N F B G : S → Type 0) (l : Language S) : Type 0 where
  pub parts : (d : ℕ) (kind : Kind) → TiesParts IsAny (Alike N) (Alike F) (Alike B) (meaning_at l d kind) (meaning_at l d kind)
  pub lines : (d : ℕ) (kind : Kind) → K kind → (line : List ℕ) → TiesLine (Alike B) (Alike N) (Alike B) (meaning_at l d kind) (meaning_at l d kind) line
  pub body : (s : S) → G s → B s
  pub leaf : (may_run : Bool) (kind : Kind) (text : List ℕ) (s : S) → F s → PaidDone B G (l.leaf may_run kind text s)
  pub closes : (may_run : Bool) (s : S) → B s → PaidDone B G (l.closes may_run s)
  pub turn : (kind : Kind) (condition : List ℕ) (s : S) → B s → ((l.turn kind condition s).0 ≡ true → G (l.turn kind condition s).1) × B (l.turn kind condition s).1
  pub finish : (region : Option Opened) (in_loop : Bool) (s : S) → B s → B (l.finish region in_loop s)

pub pays_tied : {S : Type 0} (K : Kind → Type 0) (N F B G : S → Type 0) (l : Language S) → Pays K N F B G l → ((args : Option (List (List ℕ))) → K (body args))
    → TiesLanguages IsAny AnyKind (Alike N) (Alike F) (Alike B) l l
pays_tied K N F B G l p bodies = record {
  inner = λ kind c. tt;
  parts = λ d kind c. p.parts d kind;
  lines = λ d args c line i. p.lines d (body args) (bodies args) line;
  leaf = λ may kind text s t c i r. rw (← r.0) (kept_done B (l.leaf may kind text s) (done_base B G p.body (l.leaf may kind text s) (p.leaf may kind text s r.1)));
  closes = λ may s t r. rw (← r.0) (kept_done B (l.closes may s) (done_base B G p.body (l.closes may s) (p.closes may s r.1)));
  turn = λ kind condition s t c i r. rw (← r.0) (refl, (refl, (p.turn kind condition s r.1).1));
  finish = λ region in_loop s t r. rw (← r.0) (refl, p.finish region in_loop s r.1);
}

-- What holds after each kind of step.
pub record Rules {S : Type 0} (K : Kind → Type 0) (N B G : S → Type 0) (r : Running S) (Q : Running S → Type 0) : Type 0 where
  pub base : B r.state
  pub fresh : (part : LinePart (List ℕ)) (more : List (LinePart (List ℕ))) → r.top.region ≡ None → r.top.parts ≡ part ∷ more → r.top.cursor.begun ≡ false → N r.state
  pub kind : (line : List ℕ) (more : List (List ℕ)) → r.top.lines ≡ line ∷ more → K r.top.kind
  pub past : (part : LinePart (List ℕ)) (more : List (LinePart (List ℕ))) → r.top.region ≡ None → r.top.parts ≡ part ∷ more → (c : BlockCursor) → c.begun ≡ true → (s : S) → B s
      → Q (record { top = at_part r.top more c; under = r.under; state = s })
  pub call : (part : LinePart (List ℕ)) (more : List (LinePart (List ℕ))) → r.top.region ≡ None → r.top.parts ≡ part ∷ more → (c : BlockCursor) → c.begun ≡ true → is_some (depth r.under) ≡ true
      → (lines args : List (List ℕ)) (s : S) → G s → Q (record { top = entered lines args; under = at_part r.top more c ∷ r.under; state = s })
  pub repeat : (part : LinePart (List ℕ)) (more : List (LinePart (List ℕ))) → r.top.region ≡ None → r.top.parts ≡ part ∷ more → (c : BlockCursor) → c.begun ≡ true → is_some (depth r.under) ≡ true
      → (condition : List ℕ) (lines : List (List ℕ)) (s : S) → B s → Q (record { top = looped r.top.kind condition lines; under = at_part r.top more c ∷ r.under; state = s })
  pub opens : (part : LinePart (List ℕ)) (more : List (LinePart (List ℕ))) → r.top.region ≡ None → r.top.parts ≡ part ∷ more → (o : Opened) (s : S) → B s
      → Q (record { top = between r.top (Some o) r.top.lines; under = r.under; state = s })
  pub line : (line : List ℕ) (more : List (List ℕ)) → r.top.parts ≡ [] → r.top.lines ≡ line ∷ more → (s : S) → N s
      → Q (record { top = record r.top { region = None; parts = line_parts line; cursor = at_line r.top.cursor.levels; lines = more }; under = r.under; state = s })
  pub inside : (line : List ℕ) (more : List (List ℕ)) → r.top.lines ≡ line ∷ more → (region : Option Opened) (s : S) → B s
      → Q (record { top = between r.top region more; under = r.under; state = s })
  pub over : (g : Frame) (gs : List Frame) → r.under ≡ g ∷ gs → (s : S) → B s → Q (record { top = g; under = gs; state = s })
  pub again : (g : Frame) (gs : List Frame) → r.under ≡ g ∷ gs → (t : Turning) (left : ℕ) → r.top.turning ≡ Some t → t.left ≡ suc left → (s : S) → G s
      → Q (record { top = turned r.top.kind t left; under = g ∷ gs; state = s })

module _ {S : Type 0} (K : Kind → Type 0) (N F B G : S → Type 0) (l : Language S) (p : Pays K N F B G l) (r : Running S) (Q : Running S → Type 0) (q : Rules K N B G r Q) where
  abbrev pub m : Meaning S
  m = meaning_at l (depth r.under) r.top.kind

  abbrev pub parts : TiesParts IsAny (Alike N) (Alike F) (Alike B) (meaning_at l (depth r.under) r.top.kind) (meaning_at l (depth r.under) r.top.kind)
  parts = p.parts (depth r.under) r.top.kind

  fresh_by : (begun : Bool) → (begun ≡ false → N r.state) → Ties (Alike B) (Alike N) begun r.state r.state
  fresh_by true h = (refl, q.base)
  fresh_by false h = (refl, h refl)

  module _ (part : LinePart (List ℕ)) (more : List (LinePart (List ℕ))) (none : r.top.region ≡ None) (is : r.top.parts ≡ part ∷ more) where
    at : BlockCursor → Frame
    at c = at_part r.top more c

    done_rule : (c : BlockCursor) → c.begun ≡ true → (may_run : Bool) → is_some (depth r.under) ≡ may_run → (done : Done S) → PaidDone B G done
        → Q (leaf_next l may_run (at c) r.under done)
    unfolding leaf_next at at_part
    done_rule c b may_run e (gives s) h = q.past part more none is c b s h
    done_rule c b false e (calls lines args s) h = q.past part more none is c b s (p.body s h)
    done_rule c b true e (calls lines args s) h = q.call part more none is c b e lines args s h
    done_rule c b false e (repeats condition lines s) h = q.past part more none is c b s h
    done_rule c b true e (repeats condition lines s) h = q.repeat part more none is c b e condition lines s h

    leaf_rule : (text : List ℕ) (c : BlockCursor) → c.begun ≡ true → (is_met : Bool) (s : S) → Ties (Alike F) (Alike B) is_met s s → Q (leaf_if l is_met text (at c) r.under s)
    unfolding leaf_if at at_part
    leaf_rule text c b true s h = grind (arith, done_rule)
    leaf_rule text c b false s h = q.past part more none is c b s h.1

    whole_rule : (c : BlockCursor) → c.begun ≡ true → (s : S) → B s → Q (loop_next l (at c) r.under s)
    unfolding loop_next
    whole_rule c b s h = let run = is_some (depth r.under) in done_rule c b run refl (l.closes run s) (p.closes run s h)

    loop_rule : (h : LoopHead (List ℕ)) (c : BlockCursor) → c.begun ≡ true → (is_met : Bool) (s : S) → Ties (Alike F) (Alike B) is_met s s → Q (loop_if l m is_met h (at c) r.under s)
    unfolding loop_if at
    loop_rule h c b true s t = whole_rule c b (m.opens_loop h s) (parts.opens_loop h s s (any_head h) (parts.full s s t)).1
    loop_rule h c b false s t = q.past part more none is c b s t.1

    end_rule : (ending : Ended) (c : BlockCursor) → c.begun ≡ true → Q (end_next l m ending (at c) r.under r.state)
    unfolding end_next at
    end_rule endings.Block c b = q.past part more none is c b r.state q.base
    end_rule endings.Loop c b = whole_rule c b r.state q.base
    end_rule endings.Nothing c b = q.past part more none is c b (m.unopened r.state) (parts.unopened r.state r.state (refl, q.base)).1

  met_rule : (part : LinePart (List ℕ)) (more : List (LinePart (List ℕ))) → r.top.region ≡ None → r.top.parts ≡ part ∷ more
      → Ties (Alike F) (Alike B) (met m r.top.cursor r.state).0 (met m r.top.cursor r.state).1 (met m r.top.cursor r.state).1
  met_rule part more none is = grind (arith, met_tied, fresh_by)

  part_rule : (part : LinePart (List ℕ)) (more : List (LinePart (List ℕ))) → r.top.region ≡ None → r.top.parts ≡ part ∷ more → Q (part_next l m part more r.top r.under r.state)
  unfolding part_next step_guard step_block step_region after_part at
  part_rule (Leaf text) more none is =
      let v = met m r.top.cursor r.state in
      leaf_rule (Leaf text) more none is text (after_part r.top.cursor.levels) refl v.0 v.1 (met_rule (Leaf text) more none is)
  part_rule (Guard h) more none is =
      let v = met m r.top.cursor r.state in
      let x = guard_met m v.0 h r.top.cursor v.1 in
      let g = guard_tied IsAny (Alike N) (Alike F) (Alike B) m m parts h r.top.cursor v.0 v.1 v.1 (met_rule (Guard h) more none is) in
      q.past (Guard h) more none is x.0 g.1 x.1 g.2.1
  part_rule (Block h) more none is =
      let v = met m r.top.cursor r.state in
      let x = block_met m v.0 h r.top.cursor v.1 in
      let g = block_tied IsAny (Alike N) (Alike F) (Alike B) m m parts h r.top.cursor (any_opening h) v.0 v.1 v.1 (met_rule (Block h) more none is) in
      q.past (Block h) more none is x.0 g.1 x.1 g.2.1
  part_rule (Loop h) more none is =
      let v = met m r.top.cursor r.state in
      loop_rule (Loop h) more none is h (after_part r.top.cursor.levels) refl v.0 v.1 (met_rule (Loop h) more none is)
  part_rule End more none is = end_rule End more none is (what_ends r.top.cursor.levels) (after_part (leave r.top.cursor.levels)) refl
  part_rule (Region h) more none is =
      let v = met m r.top.cursor r.state in
      let b = ready_tied IsAny (Alike N) (Alike F) (Alike B) m m parts v.0 v.1 v.1 (met_rule (Region h) more none is) in
      q.opens (Region h) more none is (opened h v.0) (m.opens_region h v.0 v.1) (parts.opens_region h v.0 v.1 v.1 b).1

  -- ---- lines

  module _ (line : List ℕ) (more : List (List ℕ)) (is : r.top.lines ≡ line ∷ more) where
    abbrev pub ties : TiesLine (Alike B) (Alike N) (Alike B) (meaning_at l (depth r.under) r.top.kind) (meaning_at l (depth r.under) r.top.kind) line
    ties = p.lines (depth r.under) r.top.kind (q.kind line more is) line

    keep_rule : (region : Option Opened) (s : S) → Alike B s s → Q (record { top = between r.top region more; under = r.under; state = keep_if m r.top.cursor.levels.in_loop line s })
    keep_rule region s h =
        q.inside line more is region (keep_if m r.top.cursor.levels.in_loop line s)
        (keep_tied IsAny (Alike N) (Alike F) (Alike B) m m parts (Alike B) line ties r.top.cursor.levels.in_loop s s h).1

    region_rule : (is_end : Bool) (o : Opened) → Q (region_next l m is_end o line more r.top r.under r.state)
    unfolding region_next
    region_rule true o = keep_rule None (m.ends_region o line r.state) (ties.ends_region o r.state r.state (refl, q.base))
    region_rule false o = keep_rule (Some o) (m.reads o line r.state) (ties.reads o r.state r.state (refl, q.base))

    line_rule : r.top.parts ≡ [] → Q (line_next l m line more r.top r.under r.state)
    unfolding line_next
    line_rule none =
        q.line line more none is (begin_line m line r.top.cursor.levels r.state)
        (begin_tied IsAny (Alike N) (Alike F) (Alike B) m m parts (Alike B) line ties r.top.cursor.levels r.state r.state (refl, q.base)).1

  -- ---- ends of sources

  module _ (g : Frame) (gs : List Frame) (is : r.under ≡ g ∷ gs) where
    turned_rule : (t : Turning) (left : ℕ) → r.top.turning ≡ Some t → t.left ≡ suc left → (runs : Bool) (s : S) → (runs ≡ true → G s) → B s → Q (turn_if l runs r.top.kind t left g gs s)
    unfolding turn_if
    turned_rule t left e i true s h b = q.again g gs is t left e i s (h refl)
    turned_rule t left e i false s h b = q.over g gs is s b

    turn_rule : (t : Turning) → r.top.turning ≡ Some t → (left : ℕ) → t.left ≡ left → (s : S) → B s → Q (turn_next l left r.top.kind t g gs s)
    unfolding turn_next
    turn_rule t e zero i s b = q.over g gs is s b
    turn_rule t e (suc left) i s b = grind (arith, turned_rule)

    last_rule : (begun : Bool) (a : At S) → B a.state → B (finish_if l begun a)
    unfolding finish_if finish_at
    last_rule true a b = p.finish a.place.region a.place.levels.in_loop a.state b
    last_rule false a b = b

    body_rule : (turning : Option Turning) → r.top.turning ≡ turning → (a : At S) → B a.state → Q (body_next l turning r.top.kind g gs a)
    unfolding body_next finish_at
    body_rule None e a b = q.over g gs is (finish_at l a) (p.finish a.place.region a.place.levels.in_loop a.state b)
    body_rule (Some t) e a b = turn_rule t e t.left refl (finish_if l t.begun a) (last_rule t.begun a b)

  same_rule : (x y : Running S) → Q x → Some x ≡ Some y → Q y
  same_rule x y h e = let k : x ≡ y = cc in subst Q k h

  source_rule : (under : List Frame) → r.under ≡ under → (a : At S) → B a.state → (x : Running S) → source_next l r.top.turning r.top.kind under a ≡ Some x → Q x
  unfolding source_next
  source_rule [] is a b x e = absurd (cc)
  source_rule (g ∷ gs) is a b x e = same_rule (body_next l r.top.turning r.top.kind g gs a) x (body_rule g gs is r.top.turning refl a b) e

  in_rule : (region : Option Opened) (ps : List (LinePart (List ℕ))) (lines : List (List ℕ)) → r.top.region ≡ region → r.top.parts ≡ ps → r.top.lines ≡ lines
      → (x : Running S) → next_in l m region ps lines r.top r.under r.state ≡ Some x → Q x
  unfolding next_in
  in_rule None (part ∷ more) lines a b c x e = same_rule (part_next l m part more r.top r.under r.state) x (part_rule part more a b) e
  in_rule None [] (line ∷ more) a b c x e = same_rule (line_next l m line more r.top r.under r.state) x (line_rule line more c b) e
  in_rule None [] [] a b c x e = source_rule r.under refl (record { place = record { region = None; levels = r.top.cursor.levels }; state = r.state }) q.base x e
  in_rule (Some o) ps (line ∷ more) a b c x e = grind (arith, same_rule, region_rule)
  in_rule (Some o) ps [] a b c x e =
      source_rule r.under refl (record { place = record { region = Some o; levels = r.top.cursor.levels }; state = r.state }) q.base x e

  pub next_rule : (x : Running S) → next l r ≡ Some x → Q x
  unfolding next
  next_rule x e = in_rule r.top.region r.top.parts r.top.lines refl refl refl x e

-- ---- where nothing is asked of states

abbrev pub Any : {S : Type 0} → S → Type 0
Any s = Unit {0}

any_done : {S : Type 0} (done : Done S) → PaidDone Any Any done
any_done (gives s) = tt
any_done (calls lines args s) = tt
any_done (repeats condition lines s) = tt

pub any_pays : {S : Type 0} (l : Language S) → Pays AnyKind Any Any Any Any l
any_pays l = record {
  parts = λ d kind.
      let n = meaning_at l d kind in
      record {
        base = of_one (Alike Any);
        full = λ s t r. r;
        meets = λ next s t r. rw (← (of_one (Alike Any) next s t r).0) (refl, one_tie (Alike Any) (n.meets next s).0 (n.meets next s).1 (n.meets next s).1 (refl, tt));
        tests = λ condition s t r. rw (← r.0) (refl, (refl, tt));
        refuses = λ h s t r. rw (← r.0) (refl, tt);
        unopened = λ s t r. rw (← r.0) (refl, tt);
        opens_region = λ head run s t r. rw (← r.0) (refl, tt);
        opens_loop = λ h s t c r. rw (← r.0) (refl, tt);
      };
  lines = λ d kind a line.
      record {
        begins = λ s t r. rw (← r.0) (refl, tt);
        reads = λ o s t r. rw (← r.0) (refl, tt);
        ends_region = λ o s t r. rw (← r.0) (refl, tt);
        collects = λ open_blocks s t r. rw (← r.0) (refl, tt);
        keeps = λ s t r. rw (← r.0) (refl, tt);
      };
  body = λ s h. tt;
  leaf = λ may kind text s h. any_done (l.leaf may kind text s);
  closes = λ may s h. any_done (l.closes may s);
  turn = λ kind condition s h. (λ e. tt, tt);
  finish = λ region in_loop s h. tt;
}

-- ---- Lines of the page are run by themselves: helpers of proofs.

-- a body is no page
inner_body : (kind : Kind) → inner kind ≡ page → ⊥
unfolding inner
inner_body page h = absurd (cc)
inner_body (body args) h = absurd (cc)

on_rules : {R : Type 0} (r : Running (Budgeted R)) → HasMeasure r → Rules AnyKind Any Any Any r HasMeasure
unfolding HasMeasure IsOnLine AreOnLine at_part between entered looped turned
on_rules r h = record {
  base = tt;
  fresh = λ part more none is e. tt;
  kind = λ line more is. tt;
  past = λ part more none is c b s p. h;
  call = λ part more none is c b run lines args s p. (λ x. absurd (cc x), h);
  repeat = λ part more none is c b run condition lines s p. (λ x. absurd (inner_body r.top.kind x), h);
  opens = λ part more none is o s p. h;
  line = λ line more none is s p. (λ x. let e = (h.0 x).0 in absurd (cc), h.1);
  inside = λ line more is region s p. (λ x. let e = (h.0 x).0 in absurd (cc), h.1);
  over = λ g gs is s p. rw is at h.1;
  again = λ g gs is t left e i s p. (λ x. let n = (h.0 x).1 in absurd (cc), rw is at h.1);
}

pub next_on : {R : Type 0} (e : Effects R) (r q : Running (Budgeted R)) → HasMeasure r → next (language e) r ≡ Some q → HasMeasure q
next_on e r q h x = next_rule AnyKind Any Any Any Any (language e) (any_pays (language e)) r HasMeasure (on_rules r h) q x

-- after the first step of a line
first_rules : {R : Type 0} (r : Running (Budgeted R)) → IsFirst r → Rules AnyKind Any Any Any r HasMeasure
unfolding IsFirst HasMeasure IsOnLine AreOnLine between
first_rules r h = grind arith

pub first_falls : {R : Type 0} (e : Effects R) (r q : Running (Budgeted R)) → IsFirst r → next (language e) r ≡ Some q → HasMeasure q
first_falls e r q h x = next_rule AnyKind Any Any Any Any (language e) (any_pays (language e)) r HasMeasure (first_rules r h) q x

-- ---- How many macros and loops run: helpers of proofs.

room_for_one : (d : ℕ) (under : List Frame) → depth under ≡ d → is_some d ≡ true → suc (length under) ≤ CALLS
unfolding depth is_some
room_for_one zero under e h = absurd (cc)
room_for_one (suc d) under e h = omega arith

pub next_fits : {S : Type 0} (l : Language S) (r q : Running S) → length r.under ≤ CALLS → next l r ≡ Some q → length q.under ≤ CALLS
next_fits {S} l r q k x =
    let rules : Rules AnyKind Any Any Any r (λ (q : Running S). length q.under ≤ CALLS) =
    record {
      base = tt;
      fresh = λ part more none is e. tt;
      kind = λ line more is. tt;
      past = λ part more none is c b s h. k;
      call = λ part more none is c b run lines args s h. room_for_one (depth r.under) r.under refl run;
      repeat = λ part more none is c b run condition lines s h. room_for_one (depth r.under) r.under refl run;
      opens = λ part more none is o s h. k;
      line = λ line more none is s h. k;
      inside = λ line more is region s h. k;
      over = λ g gs is s h. let j = rw is at k in omega (arith, j);
      again = λ g gs is t left e i s h. rw is at k;
    } in
    next_rule AnyKind Any Any Any Any l (any_pays l) r (λ (q : Running S). length q.under ≤ CALLS) rules q x
