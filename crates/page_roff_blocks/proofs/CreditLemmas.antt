-- How many macros may still be called, and turns begun, after a step: helpers of proofs.
use Rattle.std.proofs.Common.{◌≡◌, ℕ, zero, suc, ◌+◌, ◌≤◌, Bool, true, false, not, List, [], ◌∷◌, refl, ap, arith, ◌*◌, length, Some, sym}
use Rattle.page_roff_blocks.specs.declared.line_parts.LinePart.{LinePart}
use Rattle.page_roff_blocks.specs.laws.Views.{BlockCursor, at_line}
use Rattle.page_roff_blocks.specs.machine.Languages.{Budgeted, Effects, with_rest, charge_by, charge, language}
use Rattle.page_roff_blocks.specs.machine.Machine.{fresh_if, fresh_at, credit_if, credit, weight, work_in, works, fresh_in, freshes, measure, IsOnLine, HasMeasure, turns_of, HasBodyWithin, Running, entered, looped, turned, at_part, between, next}
use Rattle.page_roff_blocks.proofs.StepLemmas.{Pays, Rules, next_rule, next_on}
use Rattle.page_roff_blocks.proofs.LedgerLemmas.{IsBody, Ready, Fresh, Ledger, free, steps_paid}
use Rattle.std.proofs.Math.Nat.{mul-le-mul_left}
use Rattle.page_roff_blocks.specs.Parts.{line_parts}
use Rattle.page_roff_blocks.proofs.LinePartLemmas.{line_parts_room}

credit_more : (gave_up : Bool) (left f g : ℕ) → f ≤ g → credit_if gave_up left f ≤ credit_if gave_up left g
unfolding credit_if
credit_more true left f g h = omega arith
credit_more false left f g h = omega arith

pub credit_grow : {R : Type 0} (s : Budgeted R) (f g : ℕ) → f ≤ g → credit s f ≤ credit s g
unfolding credit
credit_grow s f g h = credit_more s.gave_up s.left f g h

fresh_most : (begun : Bool) → fresh_if begun ≤ 1
unfolding fresh_if
fresh_most true = omega arith
fresh_most false = omega arith

pub fresh_one : (parts : List (LinePart (List ℕ))) (cursor : BlockCursor) → fresh_at parts cursor ≤ 1
unfolding fresh_at
fresh_one [] cursor = omega arith
fresh_one (part ∷ more) cursor = fresh_most cursor.begun

pub fresh_past : (parts : List (LinePart (List ℕ))) (cursor : BlockCursor) → cursor.begun ≡ true → fresh_at parts cursor ≡ 0
unfolding fresh_at fresh_if
fresh_past [] cursor e = refl
fresh_past (part ∷ more) cursor e = ap fresh_if e

pub fresh_part : (parts : List (LinePart (List ℕ))) (cursor : BlockCursor) (part : LinePart (List ℕ)) (more : List (LinePart (List ℕ))) → parts ≡ part ∷ more → cursor.begun ≡ false
    → fresh_at parts cursor ≡ 1
unfolding fresh_at fresh_if
fresh_part parts cursor part more is e = rw is (ap fresh_if e)

module _ {R : Type 0} (e : Effects R) (f k : ℕ) where
  abbrev pub Less : Budgeted R → Type 0
  Less s = credit s f ≤ k

  -- one call or turn was paid
  abbrev pub Paid : Budgeted R → Type 0
  Paid s = suc (credit s f) ≤ k

  charge_ready : (gave_up : Bool) (left taken : ℕ) (rest : R)
      → let s : Budgeted R = record { left = left; gave_up = gave_up; taken = taken; rest = rest } in
      Less s → Fresh Paid Less (charge_by e gave_up left s)
  unfolding charge_by credit credit_if
  charge_ready true left taken rest h = h
  charge_ready false zero taken rest h = omega arith
  charge_ready false (suc left) taken rest h = omega (arith, h)

  -- a first part may pay one
  ready_of : (gave_up : Bool) (left taken : ℕ) (rest : R) → credit_if gave_up left (1 + f) ≤ k
      → Ready Paid Less (not gave_up) (record { left = left; gave_up = gave_up; taken = taken; rest = rest })
  unfolding credit credit_if
  ready_of true left taken rest h = omega arith
  ready_of false left taken rest h = omega (arith, h)

  pub first_ready : (s : Budgeted R) → credit s (1 + f) ≤ k → Fresh Paid Less s
  unfolding credit
  first_ready s h = ready_of s.gave_up s.left s.taken s.rest h

  ready_first : (gave_up : Bool) (left taken : ℕ) (rest : R) → Ready Paid Less (not gave_up) (record { left = left; gave_up = gave_up; taken = taken; rest = rest })
      → credit_if gave_up left (1 + f) ≤ k
  unfolding credit credit_if
  ready_first true left taken rest h = omega arith
  ready_first false left taken rest h = omega (arith, h)

  pub fresh_first : (s : Budgeted R) → Fresh Paid Less s → credit s (1 + f) ≤ k
  unfolding credit
  fresh_first s h = ready_first s.gave_up s.left s.taken s.rest h

  ledger : Ledger (λ r. 0) 0 e IsBody Paid Less Paid
  unfolding with_rest charge credit
  ledger = record {
    full = λ s h. omega (arith, h);
    body = λ s h. omega (arith, h);
    same = λ s r q h. h;
    same_full = λ s r q h. h;
    pays = λ s r q h. h;
    charges = λ s h. charge_ready s.gave_up s.left s.taken s.rest h;
    begins = λ no s h. absurd (no refl);
  }

  pub steps_less : Pays IsBody (Fresh Paid Less) Paid Less Paid (language e)
  steps_less = steps_paid (λ r. 0) 0 e (free e) IsBody Paid Less Paid ledger

-- ---- Each step leaves less work: helpers of proofs.

module _ {R : Type 0} (e : Effects R) (huge : ℕ) (r : Running (Budgeted R)) (on : HasMeasure r) where
  fresh : ℕ
  fresh = freshes r.under

  most : ℕ
  most = credit r.state (fresh_in r.top + freshes r.under)

  work : ℕ
  work = work_in r.top + works r.under

  -- credit and work: less of the one or as much, and less of the other
  falls : (s : Budgeted R) (f g w : ℕ) → g ≤ f → credit s f ≤ most → suc w ≤ work → suc (huge * credit s g + w) ≤ measure huge r
  unfolding most work measure
  falls s f g w i h j = grind (arith, credit_grow, mul-le-mul_left)

  -- a body that begins is paid by credit
  pays : (s : Budgeted R) (f g w n : ℕ) → g ≤ f → suc (credit s f) ≤ most → suc n ≤ huge → w ≤ n + work → suc (huge * credit s g + w) ≤ measure huge r
  unfolding most work measure
  pays s f g w n i h small j = grind (arith, credit_grow, mul-le-mul_left)

  Falls : Running (Budgeted R) → Type 0
  Falls q = HasBodyWithin huge r q → suc (measure huge q) ≤ measure huge r

  rules : Rules IsBody (Fresh (Paid e fresh most) (Less e fresh most)) (Less e fresh most) (Paid e fresh most) r Falls
  unfolding Falls fresh most work HasMeasure IsOnLine measure fresh_in fresh_at work_in weight works freshes turns_of at_part between entered looped turned
  rules =
      let f = freshes r.under in
      let v = works r.under in
      record {
        base = credit_grow r.state f (fresh_at r.top.parts r.top.cursor + f) (omega arith);
        fresh = λ part more none is first.
            first_ready e f (credit r.state (fresh_at r.top.parts r.top.cursor + f)) r.state
            (credit_grow r.state (1 + f) (fresh_at r.top.parts r.top.cursor + f) (omega (arith, fresh_part r.top.parts r.top.cursor part more is first)));
        kind = λ line more is page. let none = (on.0 page).0 in absurd (cc);
        past = λ part more none is c begun s h w.
            falls s f (fresh_at more c + f) (2 * length more + weight r.top.lines + v) (omega (arith, fresh_past more c begun)) h (omega (arith, ap length is));
        call = λ part more none is c begun run lines args s h w.
            pays s f (0 + (fresh_at more c + f)) (2 * 0 + weight lines + suc (2 * length more + weight r.top.lines + v)) (weight lines)
            (omega (arith, fresh_past more c begun)) h (w.begins refl) (omega (arith, ap length is));
        repeat = λ part more none is c begun run condition lines s h w.
            falls s f (0 + (fresh_at more c + f)) (2 * 0 + 0 + suc (2 * length more + weight r.top.lines + v)) (omega (arith, fresh_past more c begun)) h (omega (arith, ap length is));
        opens = λ part more none is o s h w. falls s f (0 + f) (2 * 0 + weight r.top.lines + v) (omega arith) h (omega (arith, ap length is));
        line = λ line more none is s h w.
            let g = fresh_at (line_parts line) (at_line r.top.cursor.levels) + f in
            falls s (1 + f) g (2 * length (line_parts line) + weight more + v) (omega (arith, fresh_one (line_parts line) (at_line r.top.cursor.levels)))
            (fresh_first e f (credit r.state (fresh_at r.top.parts r.top.cursor + f)) s h)
            (omega (arith, line_parts_room line, ap weight is));
        inside = λ line more is region s h w. falls s f (0 + f) (2 * 0 + weight more + v) (omega arith) h (omega (arith, ap weight is));
        over = λ g gs is s h w. falls s f (fresh_in g + freshes gs) (work_in g + works gs) (omega (arith, ap freshes is)) h (omega (arith, ap works is));
        again = λ g gs is t left turning i s h w.
            pays s f (0 + (fresh_in g + freshes gs)) (2 * 0 + weight t.lines + suc (work_in g + works gs)) (weight t.lines) (omega (arith, ap freshes is)) h
            (w.turns (sym (ap length is)) (let j = ap turns_of turning in cc)) (omega (arith, ap works is));
      }

  pub step_falls : (q : Running (Budgeted R)) → next (language e) r ≡ Some q → HasBodyWithin huge r q → suc (measure huge q) ≤ measure huge r
  unfolding Falls
  step_falls q x =
      next_rule IsBody (Fresh (Paid e fresh most) (Less e fresh most)) (Paid e fresh most) (Less e fresh most) (Paid e fresh most) (language e) (steps_less e fresh most) r Falls rules q x

pub next_falls : {R : Type 0} (e : Effects R) (huge : ℕ) (r q : Running (Budgeted R)) → HasMeasure r → HasBodyWithin huge r q → next (language e) r ≡ Some q
    → (suc (measure huge q) ≤ measure huge r) × HasMeasure q
next_falls e huge r q h w x = (step_falls e huge r h q x w, next_on e r q h x)
