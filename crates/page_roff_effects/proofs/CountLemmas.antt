-- How many interpolations a part makes: helpers of proofs.
use Rattle.std.proofs.Common.{◌≡◌, ℕ, ◌+◌, ◌-◌, ◌≤◌, ◌==◌, Bool, true, false, is_some, List, [], length, Option, Some, None, refl, ap, ◌∙◌, arith, if◌then◌else◌, zero, suc, not, ◌&&◌, append_assoc}
use Rattle.page_core_base.specs.declared.places.Place.{Place}
use Rattle.page_roff_syntax.specs.Regions.{Opened}
use Rattle.page_roff_syntax.specs.declared.region_heads.RegionHead.{RegionHead}
use Rattle.page_roff_syntax.specs.declared.regions.RegionKind.{RegionKind}
use Rattle.page_roff_syntax.specs.declared.regions.RegionKind.TheVariants.{Define, Append}
use Rattle.page_roff_syntax.specs.LineForms.{form_of}
use Rattle.page_roff_syntax.specs.declared.line_forms.LineForm.{LineForm}
use Rattle.page_roff_syntax.specs.declared.line_forms.LineForm.TheVariants.{Text, Control}
use Rattle.page_roff_heads.specs.declared.conditions.Condition.{Condition}
use Rattle.page_roff_heads.specs.declared.conditions.Test.{Test}
use Rattle.page_roff_heads.specs.declared.conditions.Test.TheVariants.{Expression, Texts}
use Rattle.page_roff_heads.specs.declared.loops.LoopHead.{LoopHead}
use Rattle.page_core_base.specs.declared.limits.TheConstants.{EXPAND}
use Rattle.page_roff_values.specs.Values.{Surroundings, TextSoFar, LaidText, start, expanded, NEST}
use Rattle.page_roff_values.specs.laws.Views.{IsWithin}
use Rattle.page_roff_values.proofs.LineLemmas.{value_within}
use Rattle.page_roff_values.specs.Answers.{Answer, condition_answer, test_answer, unless_cut, expands, bytes_between}
use Rattle.page_roff_blocks.specs.machine.Languages.{Kind, state_of, page, body, Done, gives, calls, repeats, Budgeted, with_rest, charge_by, charge, begin_line, whether_run, meet, test, unopened_by, read_line, end_line, collect_some, meaning, done_with, closed_with, turn_by, turn, language}
use Rattle.page_roff_blocks.specs.laws.Spent.{Spends}
use Rattle.page_roff_effects.specs.declared.commands.Command.{Command}
use Rattle.page_roff_effects.specs.declared.commands.Command.TheVariants as commands
use Rattle.page_roff_effects.specs.Lines.{command_of, copies, call_if, ControlLine, does, command_outcome, control_outcome, form_outcome, leaf_outcome}
use Rattle.page_roff_effects.specs.States.{Memory, PartOutcome, Product, line_product, counted, sum_of_counts, TextSetting, surroundings, nothing, answer_of, budget_outcome, block_outcome, end_of_block_outcome, Given, test_outcome}
use Rattle.page_roff_effects.specs.laws.Views.{State, after}
use Rattle.page_roff_effects.specs.laws.Views as states
use Rattle.page_roff_effects.specs.Regions.{head_outcome, longer, longer_if, body_outcome, kind_outcome, line_outcome, end_outcome, body_freed, finish_region, finish_outcome, longer_if_some, loop_outcome, collect_outcome, repeats_text, close_outcome}
use Rattle.page_roff_effects.specs.machine.Acting.{effects, setting_of, turn_answer, tested_after, done_by, done_after, expansions_of, given_before, in_front}
use Rattle.page_roff_blocks.specs.Parts.{loop_text}
use Rattle.page_roff_blocks.specs.machine.Machine.{over_pair, over_done, IsFrontOfParts, IsFront}

-- so many more than before, at most
abbrev IsFew : ℕ → ℕ → Type 0
IsFew old new = new ≤ old + EXPAND

few_as : (a b c : ℕ) → a ≡ b → b ≤ c → a ≤ c
few_as a b c e h = omega arith

few_counts : (a b : ℕ) → b ≤ EXPAND → IsFew a (sum_of_counts a b)
few_counts a b h = omega arith

start_within : (line : ℕ) → IsWithin (start line)
start_within line = record { text = omega arith; count = omega arith }

expanded_few : (env : Surroundings) (line : ℕ) (text : List ℕ) → (expanded env line text).edge.count ≤ EXPAND
expanded_few env line text = (value_within env NEST text (start line) (start_within line)).count

-- ---- what a line does leaves the number of the last line, and the interpolations but for those of its own

abbrev pub numbers : Memory → ℕ × ℕ
numbers m = (m.number, m.expansions)

-- ---- conditions

cut_within : (cut : Bool) (laid : LaidText) (answer : Answer) → IsWithin laid.edge → IsWithin answer.edge → IsWithin (unless_cut cut laid answer).edge
cut_within true laid answer h k = h
cut_within false laid answer h k = k

expands_within : (env : Surroundings) (count : ℕ) (text : List ℕ) (s : TextSoFar) → IsWithin s → IsWithin (expands env count text s).edge
expands_within env count text s h = value_within env NEST text _ (record { text = h.text; count = h.count })

test_within : (env : Surroundings) (place : Place) (is_turned : Bool) (test : Test (List ℕ)) (s : TextSoFar) → IsWithin s
    → IsWithin (test_answer env place is_turned test s).edge
test_within env place is_turned (Expression text) s h =
    let laid = expands env (text.column - 1) text.text s in
    let k = expands_within env (text.column - 1) text.text s h in
    cut_within laid.edge.ended laid _ k k
test_within env place is_turned (Texts first second) s h =
    let laid = expands env (first.column - 1) first.text s in
    let k = expands_within env (first.column - 1) first.text s h in
    let more = expands env (bytes_between first second) second.text laid.edge in
    let m = expands_within env (bytes_between first second) second.text laid.edge k in
    cut_within laid.edge.ended laid _ k (cut_within more.edge.ended more _ m m)
test_within env place is_turned _ s h = h

condition_few : (setting : TextSetting) (condition : Condition (List ℕ)) (m : Memory) → (answer_of setting condition m).edge.count ≤ EXPAND
unfolding answer_of condition_answer
condition_few setting condition m = (test_within _ _ condition.is_turned condition.test (start m.number) (start_within m.number)).count

-- ---- leaves

call_keeps : (b : Bool) (text bytes : List ℕ) (m : Memory) → (call_if b text bytes m).memory ≡ m
call_keeps true text bytes m = refl
call_keeps false text bytes m = refl

pub does_keeps : (may_call : Bool) (command : Command) (line : ControlLine) (text : List ℕ) (m : Memory) → numbers (does may_call command line text m).memory ≡ numbers m
does_keeps may_call commands.Call line text m = ap numbers (call_keeps _ _ _ m)
does_keeps may_call _ line text m = refl

command_few : (setting : TextSetting) (may_call : Bool) (command : Command) (line : ControlLine) (m : Memory)
    → IsFew m.expansions (command_outcome setting may_call command line m).memory.expansions
unfolding command_outcome
command_few setting may_call command line m = grind (arith, does_keeps, few_counts, expanded_few)

control_few_if : (b : Bool) (o : PartOutcome) (m : Memory) → IsFew m.expansions o.memory.expansions → IsFew m.expansions (if b then nothing m else o).memory.expansions
control_few_if true o m h = omega arith
control_few_if false o m h = h

form_few : (setting : TextSetting) (may_call : Bool) (raw : List ℕ) (form : LineForm (List ℕ)) (m : Memory)
    → IsFew m.expansions (form_outcome setting may_call raw form m).memory.expansions
unfolding control_outcome
form_few setting may_call raw (Text text) m = grind (arith, few_counts, expanded_few)
form_few setting may_call raw (Control name column rest rest_column) m = grind (arith, control_few_if, command_few)
form_few setting may_call raw _ m = omega arith

leaf_few : (setting : TextSetting) (may_call : Bool) (raw : List ℕ) (m : Memory) → IsFew m.expansions (leaf_outcome setting may_call raw m).memory.expansions
unfolding leaf_outcome
leaf_few setting may_call raw m = form_few setting may_call raw (form_of raw) m

done_memory : (p : Product) (s : State) → (state_of (done_by p s)).memory ≡ s.memory
unfolding done_by
done_memory (line_product line) s = refl
done_memory _ s = refl

-- ---- regions

longer_if_keeps : (b : Bool) (text : List ℕ) (m : Memory) → numbers (longer_if b text m).memory ≡ numbers m
longer_if_keeps true text m = refl
longer_if_keeps false text m = refl

pub longer_keeps : (text : Option (List ℕ)) (line : List ℕ) (m : Memory) → numbers (longer text line m).memory ≡ numbers m
longer_keeps None line m = refl
longer_keeps (Some text) line m = longer_if_keeps _ _ m

body_few_if : (b : Bool) (o : PartOutcome) (m : Memory) → IsFew m.expansions o.memory.expansions → IsFew m.expansions (if b then o else nothing m).memory.expansions
body_few_if true o m h = h
body_few_if false o m h = omega arith

body_few : (setting : TextSetting) (line : List ℕ) (m : Memory) → IsFew m.expansions (body_outcome setting line m).memory.expansions
body_few setting line m = grind (arith, longer_keeps, body_few_if, few_counts, expanded_few)

kind_few : (setting : TextSetting) (kind : RegionKind) (line : List ℕ) (m : Memory) → IsFew m.expansions (kind_outcome setting kind line m).memory.expansions
kind_few setting Define line m = body_few setting line m
kind_few setting Append line m = body_few setting line m
kind_few setting _ line m = omega arith

pub head_keeps : (head : RegionHead (List ℕ)) (is_run : Bool) (m : Memory) → numbers (head_outcome head is_run m).memory ≡ numbers m
unfolding head_outcome
head_keeps head true m = refl
head_keeps head false m = refl

freed_keeps : (is_run : Bool) (m : Memory) → numbers (body_freed is_run m) ≡ numbers m
freed_keeps true m = refl
freed_keeps false m = refl

pub end_keeps : (o : Opened) (is_run : Bool) (m : Memory) → numbers (end_outcome o is_run m).memory ≡ numbers m
unfolding end_outcome
end_keeps o true m = freed_keeps o.is_run m
end_keeps o false m = freed_keeps o.is_run m

region_keeps : (region : Option Opened) (gave_up : Bool) (m : Memory) → numbers (finish_region region gave_up m).memory ≡ numbers m
region_keeps None gave_up m = refl
region_keeps (Some o) gave_up m = freed_keeps o.is_run m

pub finish_keeps : (region : Option Opened) (in_loop gave_up : Bool) (m : Memory) → numbers (finish_outcome region in_loop gave_up m).memory ≡ numbers m
unfolding finish_outcome
finish_keeps region true gave_up m = refl
finish_keeps region false gave_up m = region_keeps region gave_up m

-- ---- loops

more_keeps : (line : Option (List ℕ)) (m : Memory) → numbers (longer_if_some line m).memory ≡ numbers m
more_keeps None m = refl
more_keeps (Some line) m = longer_keeps m.body line m

pub loop_keeps : (head : LoopHead (List ℕ)) (m : Memory) → numbers (loop_outcome head m).memory ≡ numbers m
unfolding loop_outcome
loop_keeps head m = more_keeps head.body (longer (Some []) head.condition m).memory ∙ longer_keeps (Some []) head.condition m

pub collect_keeps : (is_run : Bool) (line : List ℕ) (m : Memory) → numbers (collect_outcome is_run line m).memory ≡ numbers m
unfolding collect_outcome
collect_keeps true line m = longer_keeps m.body line m
collect_keeps false line m = refl

repeats_keeps : (may_call : Bool) (text : Option (List ℕ)) (m : Memory) → numbers (repeats_text may_call text m).memory ≡ numbers m
repeats_keeps may_call None m = refl
repeats_keeps true (Some text) m = refl
repeats_keeps false (Some text) m = refl

pub close_keeps : (is_run may_call : Bool) (m : Memory) → numbers (close_outcome is_run may_call m).memory ≡ numbers m
unfolding close_outcome
close_keeps true may_call m = repeats_keeps may_call m.body _
close_keeps false may_call m = refl

module _ (units : List ℕ → ℕ) where
  leaf_spends : (may_call : Bool) (kind : Kind) (text : List ℕ) (s : State)
      → expansions_of (state_of ((effects units).leaf may_call kind text s)) ≤ expansions_of s + EXPAND
  unfolding effects done_after
  leaf_spends may_call kind text s = grind (arith, few_as, done_memory, leaf_few)

  tests_spends : (kind : Kind) (condition : Condition (List ℕ)) (s : State)
      → expansions_of ((effects units).tests kind condition s).1 ≤ expansions_of s + EXPAND
  unfolding effects tested_after
  tests_spends kind condition s = grind (arith, few_counts, condition_few)

  turns_spends : (kind : Kind) (condition : List ℕ) (s : State) → expansions_of ((effects units).turns kind condition s).1 ≤ expansions_of s + EXPAND
  unfolding effects tested_after
  turns_spends kind condition s = grind (arith, few_counts, condition_few)

  closes_spends : (is_run may_call : Bool) (s : State) → expansions_of (state_of ((effects units).closes is_run may_call s)) ≡ expansions_of s
  unfolding effects done_after
  closes_spends is_run may_call s = grind (arith, done_memory, close_keeps)

  reads_spends : (kind : Kind) (o : Opened) (line : List ℕ) (s : State)
      → expansions_of ((effects units).reads kind o true line s) ≤ expansions_of s + EXPAND
  unfolding effects line_outcome
  reads_spends kind o line s = kind_few (setting_of units kind) o.kind line s.memory

  pub spends : Spends expansions_of EXPAND (effects units)
  unfolding effects budget_outcome block_outcome end_of_block_outcome line_outcome
  spends = record {
    exhausts = λ s. refl;
    tests = tests_spends;
    leaf = leaf_spends;
    refuses = λ h s. refl;
    unopened = λ s. refl;
    opens_region = λ kind head is_run s. ap (λ (p : ℕ × ℕ). p.1) (head_keeps head is_run s.memory);
    reads = reads_spends;
    passes = λ kind o line s. refl;
    ends_region = λ kind o is_run line s. ap (λ (p : ℕ × ℕ). p.1) (end_keeps o is_run s.memory);
    opens_loop = λ head s. ap (λ (p : ℕ × ℕ). p.1) (loop_keeps head s.memory);
    collects = λ is_run line s. ap (λ (p : ℕ × ℕ). p.1) (collect_keeps is_run line s.memory);
    closes = closes_spends;
    turns = turns_spends;
    finish = λ region in_loop gave_up s. ap (λ (p : ℕ × ℕ). p.1) (finish_keeps region in_loop gave_up s.memory);
  }

-- ---- What was given before stays in front: helpers of proofs.

after_front : (g : List Given) (s : State) (o : PartOutcome) → after (given_before g s) o ≡ given_before g (after s o)
after_front g s o = rw append_assoc

tested_front : (g : List Given) (s : State) (a : Answer) → tested_after (given_before g s) a ≡ over_pair (given_before g) (tested_after s a)
unfolding tested_after
tested_front g s a = ap (λ (t : State). (a.holds, t)) (after_front g s (test_outcome a s.memory))

done_front : (g : List Given) (p : Product) (t : State) → done_by p (given_before g t) ≡ over_done (given_before g) (done_by p t)
unfolding done_by
done_front g (line_product line) t = refl
done_front g _ t = refl

done_after_front : (g : List Given) (s : State) (o : PartOutcome) → done_after (given_before g s) o ≡ over_done (given_before g) (done_after s o)
unfolding done_after
done_after_front g s o = ap (done_by o.product) (after_front g s o) ∙ done_front g o.product (after s o)

module _ (units : List ℕ → ℕ) (g : List Given) where
  done_with_front : (s : Budgeted State) (d : Done State)
      → done_with (effects units) (in_front g s) (over_done (given_before g) d) ≡ over_done (in_front g) (done_with (effects units) s d)
  unfolding done_with with_rest
  done_with_front s (gives t) = refl
  done_with_front s (calls lines args t) = refl
  done_with_front s (repeats condition lines t) = refl

  with_rest_front : (s : Budgeted State) (t u : State) → t ≡ given_before g u → with_rest (effects units) (in_front g s) t ≡ in_front g (with_rest (effects units) s u)
  unfolding with_rest
  with_rest_front s t u e = ap (λ (r : State). record { left = s.left; gave_up = s.gave_up; taken = s.taken; rest = r }) e

  closed_with_front : (s : Budgeted State) (d : Done State)
      → closed_with (effects units) (in_front g s) (over_done (given_before g) d) ≡ over_done (in_front g) (closed_with (effects units) s d)
  unfolding closed_with with_rest
  closed_with_front s (gives t) = refl
  closed_with_front s (calls lines args t) = refl
  closed_with_front s (repeats condition lines t) = refl

  charge_front_by : (gave_up : Bool) (left : ℕ) (s : Budgeted State)
      → charge_by (effects units) gave_up left (in_front g s) ≡ in_front g (charge_by (effects units) gave_up left s)
  unfolding charge_by effects
  charge_front_by true left s = refl
  charge_front_by false zero s = grind (arith, after_front)
  charge_front_by false (suc left) s = refl

  charge_front : (s : Budgeted State) → charge (effects units) (in_front g s) ≡ in_front g (charge (effects units) s)
  unfolding charge
  charge_front s = charge_front_by s.gave_up s.left s

  begin_front : (kind : Kind) (s : Budgeted State) → begin_line (effects units) kind (in_front g s) ≡ in_front g (begin_line (effects units) kind s)
  unfolding begin_line
  begin_front page s = refl
  begin_front (body args) s = charge_front s

  meet_front : (is_remainder : Bool) (s : Budgeted State) → meet (effects units) is_remainder (in_front g s) ≡ over_pair (in_front g) (meet (effects units) is_remainder s)
  unfolding meet whether_run
  meet_front false s = refl
  meet_front true s = ap (λ (t : Budgeted State). (not t.gave_up, t)) (charge_front s)

  test_front : (kind : Kind) (condition : Condition (List ℕ)) (s : Budgeted State)
      → test (effects units) kind condition (in_front g s) ≡ over_pair (in_front g) (test (effects units) kind condition s)
  unfolding test effects with_rest
  test_front kind condition s = grind (arith, tested_front)

  unopened_front : (kind : Kind) (gave_up : Bool) (s : Budgeted State)
      → unopened_by (effects units) kind gave_up (in_front g s) ≡ in_front g (unopened_by (effects units) kind gave_up s)
  unfolding unopened_by effects
  unopened_front page gave_up s = with_rest_front s _ _ (after_front g s.rest (end_of_block_outcome s.rest.memory))
  unopened_front (body args) true s = refl
  unopened_front (body args) false s = with_rest_front s _ _ (after_front g s.rest (end_of_block_outcome s.rest.memory))

  read_front : (kind : Kind) (o : Opened) (line : List ℕ) (s : Budgeted State)
      → read_line (effects units) kind o line (in_front g s) ≡ in_front g (read_line (effects units) kind o line s)
  unfolding read_line effects
  read_front kind o line s = grind (arith, begin_front, with_rest_front, after_front)

  end_front : (kind : Kind) (o : Opened) (line : List ℕ) (s : Budgeted State)
      → end_line (effects units) kind o line (in_front g s) ≡ in_front g (end_line (effects units) kind o line s)
  unfolding end_line effects
  end_front kind o line s = grind (arith, begin_front, with_rest_front, after_front)

  collect_front : (text : Option (List ℕ)) (s : Budgeted State)
      → collect_some (effects units) text (in_front g s) ≡ in_front g (collect_some (effects units) text s)
  unfolding collect_some effects
  collect_front None s = refl
  collect_front (Some text) s = with_rest_front s _ _ (after_front g s.rest (collect_outcome (not s.gave_up) text s.rest.memory))

  closes_front : (may_run : Bool) (s : Budgeted State)
      → (language (effects units)).closes may_run (in_front g s) ≡ over_done (in_front g) ((language (effects units)).closes may_run s)
  unfolding language effects
  closes_front may_run s = grind (arith, done_after_front, closed_with_front)

  turn_front_by : (gave_up : Bool) (kind : Kind) (condition : List ℕ) (s : Budgeted State)
      → turn_by (effects units) gave_up kind condition (in_front g s) ≡ over_pair (in_front g) (turn_by (effects units) gave_up kind condition s)
  unfolding turn_by effects with_rest
  turn_front_by true kind condition s = refl
  turn_front_by false kind condition s = grind (arith, tested_front)

  turn_front : (kind : Kind) (condition : List ℕ) (s : Budgeted State)
      → turn (effects units) kind condition (in_front g s) ≡ over_pair (in_front g) (turn (effects units) kind condition s)
  unfolding turn
  turn_front kind condition s = grind (arith, charge_front, turn_front_by)

  leaf_front : (may_call : Bool) (kind : Kind) (text : List ℕ) (s : Budgeted State)
      → (language (effects units)).leaf may_call kind text (in_front g s) ≡ over_done (in_front g) ((language (effects units)).leaf may_call kind text s)
  unfolding language effects
  leaf_front may_call kind text s = grind (arith, done_after_front, done_with_front)

  parts_front : (kind : Kind) → IsFrontOfParts (in_front g) (meaning (effects units) kind)
  unfolding meaning effects
  parts_front kind = record {
    begins = λ line s. begin_front kind s;
    meets = λ is_remainder s. meet_front is_remainder s;
    tests = λ condition s. test_front kind condition s;
    refuses = λ h s. with_rest_front s _ _ (after_front g s.rest (block_outcome h.column s.rest.memory));
    unopened = λ s. unopened_front kind s.gave_up s;
    opens_region = λ head is_run s. with_rest_front s _ _ (after_front g s.rest (head_outcome head is_run s.rest.memory));
    reads = λ o line s. read_front kind o line s;
    ends_region = λ o line s. end_front kind o line s;
    opens_loop = λ head s. with_rest_front s _ _ (after_front g s.rest (loop_outcome head s.rest.memory));
    collects = λ open_blocks line s. collect_front (loop_text open_blocks line) s;
    keeps = λ line s. collect_front (Some line) s;
  }

  pub is_front : IsFront (in_front g) (language (effects units))
  unfolding language effects
  is_front = record {
    parts = parts_front;
    leaf = leaf_front;
    closes = closes_front;
    turn = turn_front;
    finish = λ region in_loop s. with_rest_front s _ _ (after_front g s.rest (finish_outcome region in_loop s.gave_up s.rest.memory));
  }
