-- The forest of all lines of a page gives what its lines give one after another: helpers of proofs.
use Rattle.std.proofs.Common.{◌≡◌, ℕ, ◌+◌, Bool, true, false, cond, List, [], ◌∷◌, ◌++◌, length, map, Option, Some, None, option_map, refl, sym, ap, ◌∙◌, append_assoc, append-nil, subst, arith, ◌*◌, ◌≤◌}
use Rattle.page_roff_syntax.specs.Regions.{is_ending, Opened}
use Rattle.page_roff_blocks.specs.Forest.{Levels, SourcePlace}
use Rattle.page_roff_blocks.specs.machine.Steps.{Meaning, At, step_inside, step_from, step, step_lines, after_head, each_line}
use Rattle.page_roff_blocks.specs.machine.Steps as steps
use Rattle.page_core_base.specs.declared.limits.TheConstants.{CALLS, REREAD, EXPAND}
use Rattle.page_roff_values.specs.Values.{units_of}
use Rattle.page_roff_blocks.specs.machine.Languages.{Budgeted, Effects, language, meaning, begin_line, read_line, end_line, page, meaning_by, meaning_at, run_page, run_page_lines, Kind, state_of}
use Rattle.page_roff_blocks.specs.machine.Machine.{at_page, over}
use Rattle.page_roff_blocks.proofs.MachineLemmas.{rest_front, page_law}
use Rattle.page_roff_effects.specs.machine.Acting.{effects, in_front, turn_answer, expansions_of, tested_after, done_by, done_after, setting_of}
use Rattle.page_roff_effects.specs.laws.Views.{State, after}
use Rattle.page_roff_effects.specs.States.{Given, says, Memory, numbered, answer_of, test_outcome, budget_outcome, block_outcome, end_of_block_outcome, takes, PartOutcome, Product, no_product, line_product, lines_of, with_body}
use Rattle.page_roff_effects.proofs.CountLemmas.{is_front, spends, close_keeps}
use Rattle.page_roff_source.specs.Runs.{RoffEdge, SourceLine, run_all, given, done}
use Rattle.page_roff_source.specs.laws.Expansions.{setting_at, EachIsWithin}
use Rattle.page_roff_source.specs.machine.RoffLines.{before_line, run_line, run_begun, line_given, line_done, head_of, lines_given, lines_done, StandsAt}
use Rattle.page_roff_source.specs.laws.Views.{line_begun, line_count}
use Rattle.page_roff_source.specs.machine.RoffLines as machine
use Rattle.page_roff_source.proofs.RunDepthLemmas as depths
use Rattle.page_roff_source.proofs.RunLemmas as runs
use Rattle.page_core_base.specs.Messages.{Message}
use Rattle.page_roff_heads.specs.declared.conditions.Condition.{Condition}
use Rattle.page_roff_blocks.specs.machine.Languages as languages
use Rattle.page_roff_blocks.specs.laws.Spent.{Spends}
use Rattle.page_roff_blocks.proofs.LedgerLemmas.{page_line_bound}
use Rattle.page_roff_blocks.proofs.SpendLemmas.{page_spends}
use Rattle.page_roff_effects.specs.Lines.{leaf_outcome}
use Rattle.page_roff_effects.specs.Regions.{loop_outcome, collect_outcome, repeats_if, repeats_text, close_outcome, head_outcome, line_outcome, end_outcome, finish_outcome}
use Rattle.page_roff_machine.proofs.DoingLemmas.{head_plain, end_plain, finish_plain, loop_plain, collect_plain}

-- what is left of the budget of the line before, and whether that was given up, is forgotten
module _ {R : Type 0} (e : Effects R) where
  abbrev with_budget : ℕ → Bool → ℕ → R → Budgeted R
  with_budget left gave_up taken r = record { left = left; gave_up = gave_up; taken = taken; rest = r }

  abbrev page_meaning : Meaning (Budgeted R)
  page_meaning = meaning_at (language e) CALLS page

  inside_reset : (is_end : Bool) (o : Opened) (t : List ℕ) (l : Levels) (left left' : ℕ) (g g' : Bool) (taken : ℕ) (r : R)
      → step_inside page_meaning is_end o t l (with_budget left g taken r) ≡ step_inside page_meaning is_end o t l (with_budget left' g' taken r)
  unfolding step_inside meaning_by meaning_at language meaning read_line end_line begin_line
  inside_reset true o t l left left' g g' taken r = refl
  inside_reset false o t l left left' g g' taken r = refl

  from_reset : (o : Option Opened) (t : List ℕ) (l : Levels) (left left' : ℕ) (g g' : Bool) (taken : ℕ) (r : R)
      → step_from page_meaning o t l (with_budget left g taken r) ≡ step_from page_meaning o t l (with_budget left' g' taken r)
  unfolding step_from steps.begin_line meaning_by meaning_at language meaning begin_line
  from_reset None t l left left' g g' taken r = refl
  from_reset (Some o) t l left left' g g' taken r = inside_reset (is_ending o.ending t) o t l left left' g g' taken r

  budget_reset : (t : List ℕ) (place : SourcePlace) (left left' : ℕ) (g g' : Bool) (taken : ℕ) (r : R)
      → run_page (language e) (t ∷ []) (record { place = place; state = with_budget left g taken r })
      ≡ run_page (language e) (t ∷ []) (record { place = place; state = with_budget left' g' taken r })
  unfolding run_page step_lines step
  budget_reset t place left left' g g' taken r = from_reset place.region t place.levels left left' g g' taken r

-- what was given before stays in front
front_run : (units : List ℕ → ℕ) (before : List Given) (t : List ℕ) (a : At (Budgeted State))
    → run_page (language (effects units)) (t ∷ []) (over (in_front before) a) ≡ over (in_front before) (run_page (language (effects units)) (t ∷ []) a)
unfolding at_page
front_run units before t a =
    let l = language (effects units) in
    sym (page_law l t (over (in_front before) a)) ∙ rest_front (in_front before) l (is_front units before) (at_page t a)
    ∙ ap (over (in_front before)) (page_law l t a)

abbrev at : SourcePlace → ℕ → Bool → ℕ → Memory → List Given → At (Budgeted State)
at place left gave_up taken memory out =
    record { place = place; state = record { left = left; gave_up = gave_up; taken = taken; rest = record { memory = memory; out = out } } }

-- one line with what comes before it
one_line : (e : RoffEdge) (x : SourceLine) (left : ℕ) (g : Bool) (out : List Given)
    → run_page (language (effects (units_of e.output))) (x.text ∷ []) (after_head (meaning_at (language (effects (units_of e.output))) CALLS page) (λ line. line.text) head_of x (at e.place left g e.taken e.memory out))
    ≡ over (in_front (out ++ map says x.notes)) (run_line e x)
unfolding run_line before_line
one_line e x left g out =
    let l = language (effects (units_of e.output)) in
    let m = numbered x.number e.memory in
    let front = out ++ map says x.notes in
    budget_reset (effects (units_of e.output)) x.text e.place left REREAD g false e.taken (record { memory = m; out = front })
    ∙ ap (λ (o : List Given). run_page l (x.text ∷ []) (at e.place REREAD false e.taken m o)) (sym (append-nil front))
    ∙ front_run (units_of e.output) front x.text (at e.place REREAD false e.taken m [])

abbrev each : RoffEdge → List SourceLine → At (Budgeted State) → At (Budgeted State)
each e lines a = each_line (meaning_at (language (effects (units_of e.output))) CALLS page) (λ line. line.text) head_of lines a

-- line after line
each_stands : (e : RoffEdge) (xs : List SourceLine) (left : ℕ) (g : Bool) (out : List Given)
    → StandsAt (lines_done e xs) (out ++ lines_given e xs) (each e xs (at e.place left g e.taken e.memory out))
unfolding each_line lines_given lines_done run_page step step_lines
each_stands e [] left g out = record { place = refl; memory = refl; taken = refl; out = sym (append-nil out) }
each_stands e (x ∷ xs) left g out =
    let r = run_line e x in
    let f = line_done e x in
    let front = out ++ map says x.notes in
    let h = each_stands f xs r.state.left r.state.gave_up (front ++ line_given e x) in
    let same : (front ++ line_given e x) ++ lines_given f xs ≡ out ++ (map says x.notes ++ (line_given e x ++ lines_given f xs)) =
    append_assoc front (line_given e x) (lines_given f xs)
    ∙ append_assoc out (map says x.notes) (line_given e x ++ lines_given f xs) in
    subst (λ (l : List Given). StandsAt (lines_done f xs) l (each e (x ∷ xs) (at e.place left g e.taken e.memory out))) same
    (subst (λ (a : At (Budgeted State)). StandsAt (lines_done f xs) ((front ++ line_given e x) ++ lines_given f xs) (each e xs a)) (sym (one_line e x left g out)) h)

all_stands : (e : RoffEdge) (lines : List SourceLine) → StandsAt (lines_done e lines) (lines_given e lines) (machine.run_all e lines)
unfolding machine.run_all run_page_lines
all_stands e lines = each_stands e lines 0 false []

-- the definitions run as the machine does
all_same : (e : RoffEdge) (lines : List SourceLine) → run_all e lines ≡ runs.at (machine.run_all e lines)
unfolding run_all machine.run_all
all_same e lines = depths.page_law (units_of e.output) lines (machine.before_lines e)

pub given-by_line : (e : RoffEdge) (lines : List SourceLine) → given e lines ≡ lines_given e lines
given-by_line e lines = ap (λ a. a.state.out) (all_same e lines) ∙ (all_stands e lines).out

-- ---- the edge after lines

-- all that the present line gives was given
abbrev pub idle : RoffEdge → RoffEdge
idle e = record e { to_come = None }

lines_done-output : (e : RoffEdge) (lines : List SourceLine) → (lines_done e lines).output ≡ e.output
unfolding lines_done
lines_done-output e [] = refl
lines_done-output e (x ∷ xs) = lines_done-output (line_done e x) xs

lines_done-source : (e : RoffEdge) (lines : List SourceLine) → (lines_done e lines).source ≡ e.source + length lines
unfolding lines_done
lines_done-source e [] = omega arith
lines_done-source e (x ∷ xs) = let h = lines_done-source (line_done e x) xs in omega (arith, h)

same_edge : (e f : RoffEdge) → e.output ≡ f.output → e.place ≡ f.place → e.memory ≡ f.memory → e.source ≡ f.source → e.taken ≡ f.taken
    → idle e ≡ idle f
same_edge e f a b c d g = rw (a, b, c, d, g) refl

pub done-idle : (e : RoffEdge) (lines : List SourceLine) → done e lines ≡ idle (lines_done e lines)
done-idle e lines = grind (arith, all_same, all_stands, same_edge, lines_done-output, lines_done-source)

lines_done-to_come : (e : RoffEdge) (lines : List SourceLine) → e.to_come ≡ None → (lines_done e lines).to_come ≡ None
unfolding lines_done
lines_done-to_come e [] h = h
lines_done-to_come e (x ∷ xs) h = lines_done-to_come (line_done e x) xs refl

idle-same : (e : RoffEdge) → e.to_come ≡ None → idle e ≡ e
idle-same e h = ap (λ t. record e { to_come = t }) (sym h)

pub done-by_line : (e : RoffEdge) (lines : List SourceLine) → e.to_come ≡ None → done e lines ≡ lines_done e lines
done-by_line e lines h = done-idle e lines ∙ idle-same (lines_done e lines) (lines_done-to_come e lines h)

-- ---- one line

one_given : (e : RoffEdge) (line : SourceLine) → line.notes ≡ [] → given e (line ∷ []) ≡ line_given e line
unfolding lines_given run_line before_line
one_given e line h = given-by_line e (line ∷ []) ∙ rw h (append-nil (line_given e line))

pub one_done : (e : RoffEdge) (line : SourceLine) → done e (line ∷ []) ≡ line_done e line
unfolding lines_done
one_done e line = done-idle e (line ∷ [])

pub begun-is : (e : RoffEdge) (line : SourceLine) → line.notes ≡ [] → line_begun e line ≡ run_begun e line
begun-is e line h = grind (arith, one_given, one_done)

-- of roff over a sink, as long as it goes on
pub begun_edge : (is_going : Bool) (old new : RoffEdge) (edge : Option RoffEdge) (line : SourceLine) → line.notes ≡ [] → is_going ≡ true
    → cond is_going (Some old) None ≡ edge → new ≡ run_begun old line → cond is_going (Some new) None ≡ option_map (λ e. line_begun e line) edge
begun_edge true old new edge line none going before after = grind (arith, begun-is, option_map)
begun_edge false old new edge line none going before after = cc

-- ---- How many lines a source line gives and takes: helpers of proofs.

count-append : (xs ys : List Given) → line_count (xs ++ ys) ≡ line_count xs + line_count ys
unfolding line_count
count-append [] ys = omega arith
count-append (says note ∷ xs) ys = count-append xs ys
count-append (takes line ∷ xs) ys = let h = count-append xs ys in omega (arith, h)

count-says : (notes : List Message) → line_count (map says notes) ≡ 0
unfolding line_count
count-says [] = refl
count-says (note ∷ notes) = count-says notes

product_count : (p : Product) → line_count (lines_of p) ≤ 1
unfolding line_count
product_count (line_product line) = omega arith
product_count _ = omega arith

-- the lines that were given
lines_out : State → ℕ
lines_out s = line_count s.out

after_count : (s : State) (o : PartOutcome) → lines_out (after s o) ≡ lines_out s + line_count (lines_of o.product)
unfolding lines_out
after_count s o = grind (arith, count-append, count-says)

-- a part of which nothing comes but messages
quiet : (s : State) (o : PartOutcome) → o.product ≡ no_product → lines_out (after s o) ≡ lines_out s
unfolding line_count
quiet s o e = grind (arith, after_count)

few : (s : State) (o : PartOutcome) → lines_out (after s o) ≤ lines_out s + 1
few s o = let a = after_count s o in let b = product_count o.product in omega (arith, a, b)

done_out : (p : Product) (s : State) → lines_out (state_of (done_by p s)) ≡ lines_out s
unfolding done_by
done_out (line_product line) s = refl
done_out _ s = refl

-- of a loop that is whole no line comes
repeats_quiet : (may_run : Bool) (text : List ℕ) (m : Memory) → line_count (lines_of (repeats_if may_run text m).product) ≡ 0
unfolding line_count
repeats_quiet true text m = refl
repeats_quiet false text m = refl

text_quiet : (may_run : Bool) (text : Option (List ℕ)) (m : Memory) → line_count (lines_of (repeats_text may_run text m).product) ≡ 0
unfolding line_count
text_quiet may_run None m = refl
text_quiet may_run (Some text) m = repeats_quiet may_run text m

close_quiet : (is_run may_run : Bool) (m : Memory) → line_count (lines_of (close_outcome is_run may_run m).product) ≡ 0
unfolding close_outcome line_count
close_quiet true may_run m = text_quiet may_run m.body (with_body None m)
close_quiet false may_run m = refl

module _ (units : List ℕ → ℕ) where
  leaf_lines : (may_call : Bool) (kind : Kind) (text : List ℕ) (s : State)
      → lines_out (state_of ((effects units).leaf may_call kind text s)) ≤ lines_out s + 1
  unfolding effects done_after
  leaf_lines may_call kind text s = grind (arith, done_out, few)

  tests_lines : (kind : Kind) (condition : Condition (List ℕ)) (s : State)
      → lines_out ((effects units).tests kind condition s).1 ≤ lines_out s + 1
  unfolding effects tested_after
  tests_lines kind condition s = few s (test_outcome (answer_of (setting_of units kind) condition s.memory) s.memory)

  reads_lines : (kind : Kind) (o : Opened) (line : List ℕ) (s : State)
      → lines_out ((effects units).reads kind o true line s) ≤ lines_out s + 1
  unfolding effects
  reads_lines kind o line s = few s (line_outcome (setting_of units kind) o true line s.memory)

  turns_lines : (kind : Kind) (condition : List ℕ) (s : State)
      → lines_out ((effects units).turns kind condition s).1 ≤ lines_out s + 1
  unfolding effects tested_after
  turns_lines kind condition s = few s (test_outcome (turn_answer (setting_of units kind) condition s.memory) s.memory)

  closes_lines : (is_run may_run : Bool) (s : State) → lines_out (state_of ((effects units).closes is_run may_run s)) ≡ lines_out s
  unfolding effects done_after
  closes_lines is_run may_run s = grind (arith, done_out, after_count, close_quiet)

  -- a line that is taken gives one line for the set of macros at most
  lines_spend : Spends lines_out 1 (effects units)
  unfolding effects budget_outcome block_outcome end_of_block_outcome line_outcome
  lines_spend = record {
    exhausts = λ s. quiet s (budget_outcome s.memory) refl;
    tests = tests_lines;
    leaf = leaf_lines;
    refuses = λ h s. quiet s (block_outcome h.column s.memory) refl;
    unopened = λ s. quiet s (end_of_block_outcome s.memory) refl;
    opens_region = λ kind head is_run s. quiet s (head_outcome head is_run s.memory) (head_plain head is_run s.memory);
    reads = reads_lines;
    passes = λ kind o line s. quiet s (line_outcome (setting_of units kind) o false line s.memory) refl;
    ends_region = λ kind o is_run line s. quiet s (end_outcome o is_run s.memory) (end_plain o is_run s.memory);
    opens_loop = λ h s. quiet s (loop_outcome h s.memory) (loop_plain h s.memory);
    collects = λ is_run text s. quiet s (collect_outcome is_run text s.memory) (collect_plain is_run text s.memory);
    closes = closes_lines;
    turns = turns_lines;
    finish = λ region in_loop gave_up s. quiet s (finish_outcome region in_loop gave_up s.memory) (finish_plain region in_loop gave_up s.memory);
  }

pub taken_bound : (e : RoffEdge) (line : SourceLine) → (line_done e line).taken ≤ e.taken + (REREAD + 1)
unfolding run_line before_line
taken_bound e line = grind (arith, page_line_bound)

before_none : (e : RoffEdge) (line : SourceLine) → lines_out (before_line e line).state.rest ≡ 0
unfolding before_line lines_out line_count
before_none e line = refl

taken_before : (e : RoffEdge) (line : SourceLine) → (before_line e line).state.taken ≡ e.taken
unfolding before_line
taken_before e line = refl

given_by : (given taken before none : ℕ) {after : ℕ} → none ≡ 0 → before ≡ taken → given + 1 * before ≤ 1 * after + none → given + taken ≤ after
given_by given taken before none e f h = omega arith

pub given_bound : (e : RoffEdge) (line : SourceLine) → line_count (line_given e line) + e.taken ≤ (line_done e line).taken
unfolding run_line lines_out
given_bound e line =
    let h = page_spends lines_out 1 (effects (units_of e.output)) (lines_spend (units_of e.output)) (line.text ∷ []) (before_line e line) in
    given_by (line_count (line_given e line)) e.taken _ _ (before_none e line) (taken_before e line) h

pub expansions_bound : (e : RoffEdge) (line : SourceLine)
    → (line_done e line).memory.expansions + EXPAND * e.taken ≤ EXPAND * (line_done e line).taken + e.memory.expansions
unfolding run_line before_line
expansions_bound e line =
    page_spends expansions_of EXPAND (effects (units_of e.output)) (spends (units_of e.output)) (line.text ∷ []) (before_line e line)

done_memory : (p : Product) (s : State) → (state_of (done_by p s)).memory ≡ s.memory
unfolding done_by
done_memory (line_product line) s = refl
done_memory _ s = refl

pub each_bound : (e : RoffEdge) → EachIsWithin e
unfolding effects tested_after done_after budget_outcome block_outcome end_of_block_outcome line_outcome
each_bound e =
    let p = spends (units_of e.output) in
    let s : Memory → State = λ m. record { memory = m; out = [] } in
    record {
      leaf = λ arguments may_run text m.
          let o = leaf_outcome (setting_at e arguments) may_run text m in
          subst (λ (k : Memory). k.expansions ≤ m.expansions + EXPAND) (done_memory o.product (after (s m) o)) (p.leaf may_run (languages.body arguments) text (s m));
      condition = λ arguments condition m. p.tests (languages.body arguments) condition (s m);
      region_line = λ arguments o text m. p.reads (languages.body arguments) o text (s m);
      passed_line = λ arguments o text m. p.passes (languages.body arguments) o text (s m);
      region_head = λ head is_run m. p.opens_region languages.page head is_run (s m);
      region_end = λ o is_run m. p.ends_region languages.page o is_run [] (s m);
      loop_head = λ head m. p.opens_loop head (s m);
      loop_line = λ is_run text m. p.collects is_run text (s m);
      loop_end = λ is_run may_run m. ap (λ (p : ℕ × ℕ). p.1) (close_keeps is_run may_run m);
      reread_line = λ m. refl;
      block_head = λ column m. refl;
      block_end = λ m. refl;
      finish = λ region in_loop gave_up m. p.finish region in_loop gave_up (s m);
    }

lines_done-bound : (e : RoffEdge) (lines : List SourceLine) → (lines_done e lines).taken ≤ e.taken + (REREAD + 1) * length lines
unfolding lines_done
lines_done-bound e [] = omega arith
lines_done-bound e (line ∷ lines) = grind (arith, taken_bound, lines_done-bound (line_done e line) lines)

pub lines_bound : (e : RoffEdge) (lines : List SourceLine) → (done e lines).taken ≤ e.taken + (REREAD + 1) * length lines
lines_bound e lines = rw (done-idle e lines) (lines_done-bound e lines)

lines_done-expansions : (e : RoffEdge) (lines : List SourceLine)
    → (lines_done e lines).memory.expansions + EXPAND * e.taken ≤ EXPAND * (lines_done e lines).taken + e.memory.expansions
unfolding lines_done
lines_done-expansions e [] = omega arith
lines_done-expansions e (line ∷ lines) = grind (arith, expansions_bound, lines_done-expansions (line_done e line) lines)

pub lines_expansions : (e : RoffEdge) (lines : List SourceLine)
    → (done e lines).memory.expansions + EXPAND * e.taken ≤ EXPAND * (done e lines).taken + e.memory.expansions
lines_expansions e lines = rw (done-idle e lines) (lines_done-expansions e lines)

-- ---- one line, by what the page gives of it

one_count : (e : RoffEdge) (line : SourceLine) → line_count (given e (line ∷ [])) ≡ line_count (line_given e line)
unfolding lines_given
one_count e line = grind (arith, count-append, count-says, given-by_line, append-nil)

pub one_taken : (e : RoffEdge) (line : SourceLine) → (done e (line ∷ [])).taken ≤ e.taken + (REREAD + 1)
one_taken e line = rw (one_done e line) (taken_bound e line)

pub one_given_bound : (e : RoffEdge) (line : SourceLine) → line_count (given e (line ∷ [])) + e.taken ≤ (done e (line ∷ [])).taken
one_given_bound e line = rw (one_done e line, one_count e line) (given_bound e line)

pub one_expansions : (e : RoffEdge) (line : SourceLine)
    → (done e (line ∷ [])).memory.expansions + EXPAND * e.taken ≤ EXPAND * (done e (line ∷ [])).taken + e.memory.expansions
one_expansions e line = rw (one_done e line) (expansions_bound e line)

-- ---- A page that is cut between two lines: helpers of proofs.

lines_done-append : (e : RoffEdge) (above below : List SourceLine) → lines_done e (above ++ below) ≡ lines_done (lines_done e above) below
unfolding lines_done
lines_done-append e [] below = refl
lines_done-append e (line ∷ above) below = lines_done-append (line_done e line) above below

lines_given-append : (e : RoffEdge) (above below : List SourceLine)
    → lines_given e (above ++ below) ≡ lines_given e above ++ lines_given (lines_done e above) below
unfolding lines_given lines_done
lines_given-append e [] below = refl
lines_given-append e (line ∷ above) below =
    let front = map says line.notes in
    let here = line_given e line in
    let next = line_done e line in
    let later = lines_given (lines_done next above) below in
    ap (λ (g : List Given). front ++ (here ++ g)) (lines_given-append next above below)
    ∙ ap (λ (g : List Given). front ++ g) (sym (append_assoc here (lines_given next above) later))
    ∙ sym (append_assoc front (here ++ lines_given next above) later)

-- what is still to come of the present line has no part in the next ones
given-idle : (e : RoffEdge) (lines : List SourceLine) → given (idle e) lines ≡ given e lines
unfolding run_all
given-idle e lines = refl

done-of-idle : (e : RoffEdge) (lines : List SourceLine) → done (idle e) lines ≡ done e lines
unfolding run_all
done-of-idle e lines = refl

pub given-append : (e : RoffEdge) (above below : List SourceLine) → given e (above ++ below) ≡ given e above ++ given (done e above) below
given-append e above below = grind (arith, given-by_line, lines_given-append, given-idle, done-idle)

pub done-append : (e : RoffEdge) (above below : List SourceLine) → done e (above ++ below) ≡ done (done e above) below
done-append e above below = grind (arith, done-idle, lines_done-append, done-of-idle)
