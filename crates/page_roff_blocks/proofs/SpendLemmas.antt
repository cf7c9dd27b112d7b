-- Each line taken spends so much at most: helpers of proofs.
use Rattle.std.proofs.Common.{◌≡◌, ℕ, zero, suc, ◌+◌, ◌*◌, ◌≤◌, Bool, true, false, not, List, [], ◌∷◌, Option, Some, None, refl, subst, arith}
use Rattle.page_roff_blocks.specs.declared.line_parts.LinePart.{LinePart}
use Rattle.page_roff_blocks.specs.Parts.{line_parts}
use Rattle.page_roff_syntax.specs.Regions.{Opened}
use Rattle.page_roff_blocks.specs.machine.Steps.{At}
use Rattle.page_roff_blocks.specs.laws.Views.{at_line}
use Rattle.page_roff_blocks.specs.machine.Languages.{run_page, Budgeted, Effects, with_rest, charge_by, charge, begin_line, language}
use Rattle.page_roff_blocks.specs.machine.Machine.{Frame, Running, entered, looped, turned, at_part, between, next, unspent_if, unspent_at, unspent, AreMet, LeadsIn, Leads}
use Rattle.page_roff_blocks.specs.laws.Spent.{Spends}
use Rattle.page_roff_blocks.proofs.LinePartLemmas.{any_line, any_lines}
use Rattle.page_roff_blocks.proofs.MachineLemmas.{AnyKind, page_tied}
use Rattle.page_roff_blocks.proofs.StepLemmas.{Pays, Rules, pays_tied, next_rule}
use Rattle.page_roff_blocks.proofs.LedgerLemmas.{Ready, Fresh, Ledger, ready_base, steps_paid}

-- nothing is left to spend past the first part of a line, and where no part is left
past_none : (region : Option Opened) (parts : List (LinePart (List ℕ))) (begun gave_up : Bool) (most : ℕ) → begun ≡ true → unspent_at region parts begun gave_up most ≡ 0
unfolding unspent_at unspent_if
past_none (Some o) parts begun gave_up most h = refl
past_none None [] begun gave_up most h = refl
past_none None (part ∷ more) true gave_up most h = refl
past_none None (part ∷ more) false gave_up most h = absurd (cc)

empty_none : (region : Option Opened) (begun gave_up : Bool) (most : ℕ) → unspent_at region [] begun gave_up most ≡ 0
unfolding unspent_at
empty_none (Some o) begun gave_up most = refl
empty_none None begun gave_up most = refl

unspent_most : (region : Option Opened) (parts : List (LinePart (List ℕ))) (begun gave_up : Bool) (most : ℕ) → unspent_at region parts begun gave_up most ≤ most
unfolding unspent_at unspent_if
unspent_most (Some o) parts begun gave_up most = omega arith
unspent_most None [] begun gave_up most = omega arith
unspent_most None (part ∷ more) true gave_up most = omega arith
unspent_most None (part ∷ more) false true most = omega arith
unspent_most None (part ∷ more) false false most = omega arith

unspent_first : (region : Option Opened) (parts : List (LinePart (List ℕ))) (begun gave_up : Bool) (most : ℕ) (part : LinePart (List ℕ)) (more : List (LinePart (List ℕ)))
    → region ≡ None → parts ≡ part ∷ more → begun ≡ false → unspent_at region parts begun gave_up most ≡ unspent_if false gave_up most
unfolding unspent_at
unspent_first region parts begun gave_up most part more none is first = rw (none, is, first) refl

module _ {R : Type 0} (spent : R → ℕ) (most : ℕ) (e : Effects R) (p : Spends spent most e) (a b : ℕ) where
  -- what was spent was paid for
  abbrev pub Base : Budgeted R → Type 0
  Base s = spent s.rest + a ≤ most * s.taken + b

  -- and one line more was
  abbrev pub Full : Budgeted R → Type 0
  Full s = spent s.rest + most + a ≤ most * s.taken + b

  charge_of : (left : ℕ) (gave_up : Bool) (taken : ℕ) (rest : R)
      → let s : Budgeted R = record { left = left; gave_up = gave_up; taken = taken; rest = rest } in
      Base s → Fresh Full Base (charge_by e gave_up left s)
  unfolding charge_by
  charge_of left true taken rest h = h
  charge_of zero false taken rest h = omega (arith, p.exhausts rest)
  charge_of (suc left) false taken rest h = omega arith

  paid : Ledger spent most e AnyKind Full Base Base
  unfolding with_rest charge begin_line
  paid = record {
    full = λ s h. omega (arith, h);
    body = λ s h. h;
    same = λ s r q h. omega (arith, q, h);
    same_full = λ s r q h. omega (arith, q, h);
    pays = λ s r q h. omega (arith, q, h);
    charges = λ s h. charge_of s.left s.gave_up s.taken s.rest h;
    begins = λ c s h. omega (arith, h);
  }

  paid_steps : Pays AnyKind (Fresh Full Base) Full Base Base (language e)
  paid_steps = steps_paid spent most e p AnyKind Full Base Base paid

  pub page_base : (lines : List (List ℕ)) (x : At (Budgeted R)) → Base x.state → Base (run_page (language e) lines x).state
  page_base lines x h = grind (arith, page_tied, any_line, pays_tied, paid_steps, any_lines)

  -- ---- step by step

  -- what was spent, and what the line may still spend, was paid for
  abbrev pub Due : Running (Budgeted R) → Type 0
  Due r = spent r.state.rest + unspent most r + a ≤ most * r.state.taken + b

  abbrev pub Kept : Running (Budgeted R) → Type 0
  Kept r = AreMet r.under × Due r

  kept_past : (f : Frame) (under : List Frame) (s : Budgeted R) → f.cursor.begun ≡ true → AreMet under → Base s → Kept (record { top = f; under = under; state = s })
  unfolding unspent
  kept_past f under s t u h = (u, omega (arith, h, past_none f.region f.parts f.cursor.begun s.gave_up most t))

  kept_empty : (f : Frame) (under : List Frame) (s : Budgeted R) → f.parts ≡ [] → AreMet under → Base s → Kept (record { top = f; under = under; state = s })
  unfolding unspent
  kept_empty f under s t u h = grind (arith, empty_none)

  fresh_of : (gave_up : Bool) (s : Budgeted R) → spent s.rest + unspent_if false gave_up most + a ≤ most * s.taken + b → Ready Full Base (not gave_up) s
  unfolding unspent_if
  fresh_of true s h = omega (arith, h)
  fresh_of false s h = omega (arith, h)

  due_of : (gave_up : Bool) (s : Budgeted R) → Ready Full Base (not gave_up) s → (parts : List (LinePart (List ℕ))) → spent s.rest + unspent_at None parts false gave_up most + a ≤ most * s.taken + b
  unfolding unspent_at unspent_if
  due_of gave_up s h [] = let k = ready_base spent most e p AnyKind Full Base Base paid (not gave_up) s h in omega (arith, k)
  due_of true s h (part ∷ more) = omega (arith, h)
  due_of false s h (part ∷ more) = omega (arith, h)

  rules : (r : Running (Budgeted R)) → Kept r → Rules AnyKind (Fresh Full Base) Base Base r Kept
  unfolding at_part entered looped between turned AreMet unspent at_line
  rules r h = record {
    base = omega (arith, h.1);
    fresh = λ part more none is first.
        let k = unspent_first r.top.region r.top.parts r.top.cursor.begun r.state.gave_up most part more none is first in fresh_of r.state.gave_up r.state (omega (arith, h.1, k));
    kind = λ line more is. tt;
    past = λ part more none is c begun s k. kept_past (at_part r.top more c) r.under s begun h.0 k;
    call = λ part more none is c begun run lines args s k. kept_empty (entered lines args) (at_part r.top more c ∷ r.under) s refl (begun, h.0) k;
    repeat = λ part more none is c begun run condition lines s k. kept_empty (looped r.top.kind condition lines) (at_part r.top more c ∷ r.under) s refl (begun, h.0) k;
    opens = λ part more none is o s k. kept_empty (between r.top (Some o) r.top.lines) r.under s refl h.0 k;
    line = λ line more none is s k. (h.0, due_of s.gave_up s k (line_parts line));
    inside = λ line more is region s k. kept_empty (between r.top region more) r.under s refl h.0 k;
    over = λ g gs is s k. let u = rw is at h.0 in kept_past g gs s u.0 u.1 k;
    again = λ g gs is t left turning i s k. kept_empty (turned r.top.kind t left) (g ∷ gs) s refl (rw is at h.0) k;
  }

  pub step_kept : (r q : Running (Budgeted R)) → Kept r → next (language e) r ≡ Some q → Kept q
  step_kept r q h x = next_rule AnyKind (Fresh Full Base) Full Base Base (language e) paid_steps r Kept (rules r h) q x

  steps_kept : (n : ℕ) (r q : Running (Budgeted R)) → Kept r → LeadsIn (language e) n r q → Kept q
  unfolding LeadsIn
  steps_kept zero r q k x = subst Kept x k
  steps_kept (suc n) r q k x = steps_kept n x.0 q (step_kept r x.0 k x.1) x.2

  pub leads_kept : (r q : Running (Budgeted R)) → Kept r → Leads (language e) r q → Kept q
  unfolding Leads
  leads_kept r q h x = steps_kept x.0 r q h x.1

-- what was spent more lies within the lines that were taken more
pub page_spends : {R : Type 0} (spent : R → ℕ) (most : ℕ) (e : Effects R) → Spends spent most e → (lines : List (List ℕ)) (x : At (Budgeted R))
    → let y = run_page (language e) lines x in
    spent y.state.rest + most * x.state.taken ≤ most * y.state.taken + spent x.state.rest
page_spends spent most e p lines x = page_base spent most e p (most * x.state.taken) (spent x.state.rest) lines x (omega arith)

-- a step spends no more than the lines that it takes
pub step_spends : {R : Type 0} (spent : R → ℕ) (most : ℕ) (e : Effects R) → Spends spent most e → (r q : Running (Budgeted R)) → AreMet r.under → next (language e) r ≡ Some q
    → AreMet q.under × (spent q.state.rest + unspent most q + most * r.state.taken ≤ spent r.state.rest + unspent most r + most * q.state.taken)
step_spends spent most e p r q u x =
    let k = step_kept spent most e p (most * r.state.taken) (spent r.state.rest + unspent most r) r q (u, omega arith) x in
    (k.0, omega (arith, k.1))

-- no more is spent while no line is taken
pub line_spends : {R : Type 0} (spent : R → ℕ) (most : ℕ) (e : Effects R) → Spends spent most e → (r q : Running (Budgeted R)) → AreMet r.under → Leads (language e) r q
    → q.state.taken ≡ r.state.taken → spent q.state.rest ≤ spent r.state.rest + most
unfolding unspent
line_spends spent most e p r q u x t =
    let k = leads_kept spent most e p (most * r.state.taken) (spent r.state.rest + unspent most r) r q (u, omega arith) x in
    let j = rw t at k.1 in
    omega (arith, j, unspent_most r.top.region r.top.parts r.top.cursor.begun r.state.gave_up most)
