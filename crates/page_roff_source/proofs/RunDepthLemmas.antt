-- What macros and loops do by `Runs` is what they do by the machine's `Languages` and `Budgets`: helpers of proofs.
use Rattle.std.proofs.Common.{◌≡◌, ℕ, zero, suc, Bool, true, false, not, ◌&&◌, nat_lt, if◌then◌else◌, List, [], ◌∷◌, Option, Some, None, refl, ap, ◌∙◌, arith, ◌++◌, Result, Ok, Err, MatchResult}
use Rattle.std.proofs.lemmas.Bool.Decides.{nat_tests}
use Rattle.page_core_base.specs.Limits.{CALLS}
use Rattle.page_roff_heads.specs.Conditions.{condition_of}
use Rattle.page_roff_blocks.specs.Forest.{first_place}
use Rattle.page_roff_blocks.specs.Parts.{loop_text}
use Rattle.page_roff_blocks.specs.machine.Steps as old
use Rattle.page_roff_blocks.specs.machine.Steps.{Meaning, step, step_lines, each_line}
use Rattle.page_roff_blocks.specs.machine.Languages as langs
use Rattle.page_roff_blocks.specs.machine.Languages.{Kind, page, body, inner, arguments_of, is_some, state_of, Language, TURNS, run_if, finish_at, Effects, language, with_rest, charge, charge_by, done_with, closed_with, turn_by, unopened_by, collect_some}
use Rattle.page_roff_effects.specs.machine.Acting as effs
use Rattle.page_roff_effects.specs.States.{end_of_block_outcome, Memory, PartOutcome, Product, no_product, line_product, call_product, loop_product}
use Rattle.page_roff_effects.specs.machine.Acting.{effects, done_after, setting_of, tested_after}
use Rattle.page_roff_effects.specs.Regions.{close_outcome, repeats_text, finish_outcome, line_outcome, end_outcome}
use Rattle.page_roff_effects.specs.States as states
use Rattle.page_roff_effects.specs.laws.Views as states_laws
use Rattle.page_roff_source.specs.Runs.{SourceLine, State, after, spend, reread, page_line, Around, At, gather_some, test, run_product, runs_at}
use Rattle.page_roff_source.specs.machine.RoffLines.{head_of}
use Rattle.page_roff_source.specs.Runs as runs
use Rattle.page_roff_source.proofs.RunLemmas.{Old, new, named, at, meets_new, Alike, lines_law}
use Rattle.std.specs.Borrow.{GName}
use Rattle.page_core_base.specs.Messages.{Message}
use Rattle.page_core_base.specs.machine.Plans.{Planned, Left, TookNotes, BrokeNotes}
use Rattle.page_core_base.specs.laws.Views.{IsSink}
use Rattle.page_core_base.specs.declared.faults.Fault.{Fault}
use Rattle.page_core_base.proofs.LatchLemmas as latches
use Rattle.page_roff_source.specs.laws.Views.{Reports}

module _ (units : List ℕ → ℕ) where
  abbrev e : Effects states_laws.State
  e = effects units

  abbrev lang : Language Old
  lang = language e

  -- ---- the budget

  fields : ℕ → Bool → ℕ → states_laws.State → Old
  fields left gave_up taken r = record { left = left; gave_up = gave_up; taken = taken; rest = r }

  charge_fields : (left : ℕ) (g : Bool) (taken : ℕ) (r : states_laws.State) → reread (new (fields left g taken r)) ≡ new (charge e (fields left g taken r))
  unfolding reread spend after charge charge_by with_rest effects fields
  charge_fields left true taken r = refl
  charge_fields zero false taken r = refl
  charge_fields (suc left) false taken r = refl

  reread_law : (b : Old) → reread (new b) ≡ new (charge e b)
  unfolding fields
  reread_law b = charge_fields b.left b.gave_up b.taken b.rest

  meets_law : (begun : Bool) (b : Old) → meets_new begun (new b) ≡ named (langs.meet e begun b)
  unfolding langs.meet langs.whether_run
  meets_law false b = refl
  meets_law true b = ap (λ t. (not t.gave_up, t)) (reread_law b)

  gather_law : (t : Option (List ℕ)) (b : Old) → gather_some t (new b) ≡ new (collect_some e t b)
  unfolding collect_some with_rest effects after
  gather_law None b = refl
  gather_law (Some t) b = refl

  -- ---- what a leaf or a whole loop leaves

  state_law : (p : Product) (b : Old) (r : states_laws.State) → with_rest e b r ≡ state_of (done_with e b (effs.done_by p r))
  unfolding done_with effs.done_by
  state_law no_product b r = refl
  state_law (line_product x) b r = refl
  state_law (call_product lines arguments) b r = refl
  state_law (loop_product condition lines) b r = refl

  -- a whole loop calls no macro
  repeats_law : (may : Bool) (t : Option (List ℕ)) (m : Memory) (b : Old)
      → done_with e b (done_after b.rest (repeats_text may t m)) ≡ closed_with e b (done_after b.rest (repeats_text may t m))
  unfolding done_with closed_with done_after effs.done_by
  repeats_law may None m b = refl
  repeats_law true (Some t) m b = refl
  repeats_law false (Some t) m b = refl

  closed_law : (is_run may : Bool) (b : Old)
      → done_with e b (done_after b.rest (close_outcome is_run may b.rest.memory)) ≡ closed_with e b (done_after b.rest (close_outcome is_run may b.rest.memory))
  unfolding close_outcome done_with closed_with done_after effs.done_by
  closed_law true may b = repeats_law may b.rest.memory.body (states.with_body None b.rest.memory) b
  closed_law false may b = refl

  abbrev around : ℕ → Option (List (List ℕ)) → Around
  around depth args = record { is_page = false; setting = record { units = units; arguments = args }; may_run = nat_lt 0 depth; calls = runs_at units depth args }

  abbrev inside : ℕ → Kind → Meaning Old
  inside depth = langs.meaning_by lang (is_some depth) (langs.done_at lang depth)

  some_law : (depth : ℕ) → nat_lt 0 depth ≡ is_some depth
  unfolding is_some
  some_law zero = refl
  some_law (suc depth) = grind (arith, nat_tests)

  -- where so many more sources may run, a part does what it did
  abbrev DoesSo : ℕ → Kind → Type 0
  DoesSo depth kind = (o : PartOutcome) (b : Old)
      → runs_at units depth (arguments_of kind) o.product (after o (new b)) ≡ new (langs.done_at lang depth kind (done_with e b (done_after b.rest o)))

  unopened_body : (args : Option (List (List ℕ))) (g : Bool) (b : Old)
      → (if not false && g then new b else after (end_of_block_outcome b.rest.memory) (new b)) ≡ new (unopened_by e (body args) g b)
  unfolding unopened_by with_rest effects after
  unopened_body args true b = refl
  unopened_body args false b = refl

  body_alike : (depth : ℕ) (args : Option (List (List ℕ))) → DoesSo depth (body args) → Alike (λ t. t) (λ text. reread) (λ text b. b) (around depth args) (inside depth (body args))
  unfolding langs.meaning_by language langs.meaning langs.begin_line langs.test langs.read_line langs.end_line test after with_rest effects tested_after
  body_alike depth args so = record {
    begins = λ x b. reread_law b;
    meets = λ begun b. meets_law begun b;
    tests = λ c b. refl;
    gives = λ t b. rw (some_law depth) (so _ b);
    refuses = λ h b. refl;
    unopened = λ b. unopened_body args b.gave_up b;
    opens_region = λ r is_run b. refl;
    reads = λ o x b. ap (λ t. after (line_outcome (setting_of units (body args)) o (o.is_run && not t.gave_up) x t.memory) t) (reread_law b);
    ends_region = λ o x b. ap (λ t. after (end_outcome o (o.is_run && not t.gave_up) t.memory) t) (reread_law b);
    opens_loop = λ h b. refl;
    collects = λ k t b. gather_law (loop_text k t) b;
    keeps = λ t b. gather_law (Some t) b;
    closes_loop = λ b. rw (some_law depth) (so _ b ∙ ap (λ d. new (langs.done_at lang depth (body args) d)) (closed_law (not b.gave_up) (is_some depth) b));
  }

  -- ---- bodies and loops

  abbrev ended_at : At → State
  ended_at p = after (finish_outcome p.place.region p.place.levels.in_loop p.state.gave_up p.state.memory) p.state

  no_heads : (m : Meaning Old) (lines : List (List ℕ)) (p : old.At Old) → each_line m (λ t. t) (λ text b. b) lines p ≡ step_lines m lines p
  unfolding each_line step_lines
  no_heads m [] p = refl
  no_heads m (line ∷ lines) p = no_heads m lines (step m line p)

  body_law : (depth : ℕ) (args : Option (List (List ℕ))) → DoesSo depth (body args) → (lines : List (List ℕ)) (b : Old)
      → runs.run_body (around depth args) lines (new b) ≡ new (langs.run_body lang (inside depth (body args)) lines b)
  unfolding runs.run_body langs.run_body finish_at language with_rest effects after
  body_law depth args so lines b =
      let p : old.At Old = record { place = first_place; state = b } in
      ap ended_at (lines_law (λ t. t) (λ text. reread) (λ text b. b) (around depth args) (inside depth (body args)) (body_alike depth args so) lines p
      ∙ ap at (no_heads (inside depth (body args)) lines p))

  module _ (depth : ℕ) (args : Option (List (List ℕ))) (so : DoesSo depth (body args)) (condition : List ℕ) (lines : List (List ℕ)) where
    abbrev turns_old : ℕ → Old → Old
    turns_old n b = langs.turns lang n (langs.run_body lang (inside depth (body args)) lines) (body args) condition b

    abbrev turns_new : ℕ → State → State
    turns_new n s = runs.turns n (around depth args) condition lines s

    abbrev turn_after : ℕ → Bool × State → State
    turn_after n v = if v.0 then turns_new n (runs.run_body (around depth args) lines v.1) else v.1

    abbrev Turns : ℕ → Type 0
    Turns n = (b : Old) → turns_new n (new b) ≡ new (turns_old n b)

    turn_run : (n : ℕ) → Turns n → (is_true : Bool) (b : Old)
        → turn_after n (is_true, new b)
        ≡ new (run_if is_true (λ s. turns_old n (langs.run_body lang (inside depth (body args)) lines s)) b)
    unfolding run_if
    turn_run n further true b = grind (arith, body_law)
    turn_run n further false b = refl

    turn_by_law : (n : ℕ) → Turns n → (g : Bool) (b : Old)
        → (if g then new b else turn_after n (test (around depth args) (condition_of 1 condition) (new b)))
        ≡ (let v = turn_by e g (body args) condition b in new (run_if v.0 (λ s. turns_old n (langs.run_body lang (inside depth (body args)) lines s)) v.1))
    unfolding turn_by run_if test after with_rest effects tested_after
    turn_by_law n further true b = refl
    turn_by_law n further false b = let v = e.turns (body args) condition b.rest in turn_run n further v.0 (with_rest e b v.1)

    turns_law : (n : ℕ) → Turns n
    unfolding runs.turns langs.turns language langs.turn
    turns_law zero b = refl
    turns_law (suc n) b =
        ap (λ t. if t.gave_up then t else turn_after n (test (around depth args) (condition_of 1 condition) t)) (reread_law b)
        ∙ turn_by_law n (turns_law n) (charge e b).gave_up (charge e b)

  -- ---- calls

  product_law : (depth : ℕ) → ((args : Option (List (List ℕ))) → DoesSo depth (body args)) → (kind : Kind) (p : Product) (b : Old) (r : states_laws.State)
      → run_product (around depth) (arguments_of kind) p (new (with_rest e b r)) ≡ new (langs.done_by lang (inside depth) kind (done_with e b (effs.done_by p r)))
  unfolding run_product langs.done_by done_with effs.done_by inner with_rest
  product_law depth so kind no_product b r = refl
  product_law depth so kind (line_product x) b r = refl
  product_law depth so kind (call_product lines arguments) b r = body_law depth (Some arguments) (so (Some arguments)) lines (with_rest e b r)
  product_law depth so page (loop_product condition lines) b r = turns_law depth None (so None) condition lines TURNS (with_rest e b r)
  product_law depth so (body args) (loop_product condition lines) b r = turns_law depth args (so args) condition lines TURNS (with_rest e b r)

  does_law : (depth : ℕ) (kind : Kind) → DoesSo depth kind
  unfolding runs_at langs.done_at after with_rest done_after
  does_law zero kind o b = ap (λ c. new c) (state_law o.product b (states_laws.after b.rest o))
  does_law (suc depth) kind o b = product_law depth (λ args. does_law depth (body args)) kind o.product b (states_laws.after b.rest o)

  -- ---- the page

  abbrev on_page : Around
  on_page = record { is_page = true; setting = record { units = units; arguments = None }; may_run = true; calls = runs_at units CALLS None }

  page_alike : Alike (λ x. x.text) page_line head_of on_page (langs.meaning_at lang CALLS page)
  unfolding langs.meaning_at langs.meaning_by language langs.meaning langs.begin_line langs.test langs.read_line langs.end_line test after
      with_rest effects tested_after unopened_by page_line is_some
  page_alike = record {
    begins = λ x b. refl;
    meets = λ begun b. meets_law begun b;
    tests = λ c b. refl;
    gives = λ t b. does_law CALLS page _ b;
    refuses = λ h b. refl;
    unopened = λ b. refl;
    opens_region = λ r is_run b. refl;
    reads = λ o x b. refl;
    ends_region = λ o x b. refl;
    opens_loop = λ h b. refl;
    collects = λ k t b. gather_law (loop_text k t) b;
    keeps = λ t b. gather_law (Some t) b;
    closes_loop = λ b. does_law CALLS page _ b ∙ ap (λ d. new (langs.done_at lang CALLS page d)) (closed_law (not b.gave_up) true b);
  }

  -- the lines of a page, from where the lines before them left it
  pub page_law : (lines : List SourceLine) (p : old.At Old)
      → runs.run_page units lines (at p) ≡ at (langs.run_page_lines lang (λ x. x.text) head_of lines p)
  unfolding runs.run_page langs.run_page_lines
  page_law lines p = lines_law (λ x. x.text) page_line head_of on_page (langs.meaning_at lang CALLS page) page_alike lines p

-- ---- A whole call over a latch of messages: helpers of proofs.

reported : {N A : Type 0} {gave within : N → List Message → N → Type 0} {failed : N → ℕ} {s t : N} {notes : List Message} (r : Result A Fault)
    → MatchResult r (λ _. TookNotes gave failed s notes t) (λ fault. BrokeNotes within failed s fault notes t) → Reports gave within failed r s notes t
reported (Ok x) h = record { gives = h.0; fault = h.1 }
reported (Err f) h = record { gives = h.0; fault = (h.1, h.2) }

-- it begins with no fault, and ends with what the latch says
pub latched : {N L A : Type 0} {gave within : N → List Message → N → Type 0} {failed : N → ℕ} {loans : N → L}
    → IsSink gave within → {name last : GName} {s t : N} {none fault : Option Fault} (notes : List Message)
    (r : Result A Fault) → none ≡ None
    → ((plan : Planned N L Message) (rest : List Message)
    → Left (TookNotes gave failed) (BrokeNotes within failed) loans plan name s none (notes ++ rest)
    → Left (TookNotes gave failed) (BrokeNotes within failed) loans plan last t fault rest)
    → MatchResult r (λ _. fault ≡ None) (λ f. fault ≡ Some f)
    → (last ≡ name) × (loans t ≡ loans s) × Reports gave within failed r s notes t
latched k notes r start came done =
    let h = latches.latched (latches.note_items k) notes r start came done in
    (h.0, h.1, reported r h.2)
