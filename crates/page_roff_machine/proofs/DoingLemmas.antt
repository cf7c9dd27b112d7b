-- What the parts of sources do under the budget, call by call: helpers of proofs.
use Rattle.std.proofs.Common.{arith, ◌≡◌, ℕ, zero, suc, Bool, true, false, not, ◌&&◌, nat_le, List, [], ◌∷◌, ◌++◌, length, map, Option, Some, None, refl, sym, ap, ap₂, ◌∙◌, append_assoc}
use Rattle.std.proofs.lemmas.List.{append-nil, map-append}
use Rattle.page_core_base.specs.Messages.{Message}
use Rattle.page_core_base.specs.declared.page_settings.Output.{Output}
use Rattle.page_core_base.specs.declared.limits.TheConstants.{BODY}
use Rattle.page_roff_heads.specs.declared.conditions.Condition.{Condition}
use Rattle.page_roff_heads.specs.declared.loops.LoopHead.{LoopHead}
use Rattle.page_roff_blocks.specs.declared.line_parts.Branch.{Branch}
use Rattle.page_roff_blocks.specs.declared.line_parts.Branch.TheVariants.{If, IfElse, Else}
use Rattle.page_roff_syntax.specs.declared.region_heads.RegionHead.{RegionHead}
use Rattle.page_roff_blocks.specs.declared.block_cursors.Reached.{Reached}
use Rattle.page_roff_blocks.specs.declared.block_cursors.Reached.TheVariants.{PassedOver, First, Remainder}
use Rattle.page_roff_syntax.specs.Regions.{Opened}
use Rattle.page_roff_blocks.specs.Parts.{loop_text}
use Rattle.page_roff_blocks.specs.machine.Steps.{meet_as, value, keep_if}
use Rattle.page_core_base.specs.laws.Views.{Came}
use Rattle.page_roff_blocks.specs.machine.Languages.{Kind, page, body, gives, calls, repeats, Budgeted, Effects, with_rest, charge_by, charge, begin_line, whether_run, meet, test, unopened_by, read_line, end_line, collect_some, meaning, done_with, closed_with, turn_by, turn, language, Budget, budgeted, begun, charged_by, charged, exhausts_by, exhausts}
use Rattle.page_roff_effects.specs.declared.commands.ProductKind.{ProductKind}
use Rattle.page_roff_effects.specs.declared.commands.ProductKind.TheVariants as kinds
use Rattle.page_roff_effects.specs.machine.Acting as acting
use Rattle.page_roff_effects.specs.machine.Acting.{Acting, kind_of, Lends, IfRepeated, acting_effects, acting_setting, measured, ActingSetting, effects, turn_answer, tested_after, done_by, done_after}
use Rattle.page_roff_effects.specs.States.{answer_of, test_outcome, budget_outcome, end_of_block_outcome, TextSetting, Memory, PartOutcome, Product, no_product, line_product, call_product, loop_product, Given, says, takes, lines_of}
use Rattle.page_roff_effects.specs.Lines.{leaf_outcome}
use Rattle.page_roff_effects.specs.Regions.{longer_if_some, loop_outcome, collect_outcome, close_outcome, head_outcome, longer_if, longer, line_outcome, end_outcome, finish_region, finish_outcome}
use Rattle.page_roff_definitions.specs.Definitions.{with_line}
use Rattle.page_roff_values.specs.Answers.{Answer}
use Rattle.page_roff_effects.specs.laws.Views.{State, after}
use Rattle.page_roff_stack.specs.machine.Stacks.{is_page}
use Rattle.page_roff_machine.specs.declared.budgeted_actions.BudgetedActions.{BudgetedActions}
use Rattle.page_roff_machine.specs.machine.Doing.{output_of, state_in, state_after, answer_with, line_after, IsIn, IsAt, Makes, Does, Answers, parts_of, charged_in, begun_in, met_in, value_in, answer_after, answer_in, region_after, region_in, opens_after, opened_in, closed_in, closes_after, passed_in, kept_in, collected_in, turned_in, leaf_after, leaf_in, line_of, done_as, read_in, read_kept_in, ended_in, ended_kept_in, unopened_in, finished_in}

-- ---- lists

pub said : (given : List Given) (xs ys : List Message) → (given ++ map says xs) ++ map says ys ≡ given ++ map says (xs ++ ys)
said given xs ys = append_assoc given (map says xs) (map says ys) ∙ ap (λ more. given ++ more) (sym (map-append says xs ys))

-- ---- one thing after another

module _ {P S : Type 0} (left : P → S → List Message → Type 0) where
  pub came_both : (s t u : S) (xs ys : List Message) → Came left s xs t → Came left t ys u → Came left s (xs ++ ys) u
  came_both s t u xs ys a b = λ plan more h. b plan more (a plan (ys ++ more) (rw append_assoc at h))

  pub came_none : (s : S) → Came left s [] s
  came_none s = λ plan more h. h

  -- nothing comes
  pub stays : {A : Type 0} (old : BudgetedActions) (out : S) (suits : Kind → Type 0) (does : Kind → Budgeted State → A) (to : BudgetedActions → List Given → A)
      → ((kind : Kind) → suits kind → (given : List Given) → does kind (state_in given old) ≡ to old given)
      → Makes left old out suits does old to out
  stays old out suits does to e = record {
    setting = refl;
    notes = [];
    came = came_none out;
    state = λ kind k given. e kind k given ∙ ap (to old) (sym (append-nil given));
  }

  pub both : {A B : Type 0} (old mid new : BudgetedActions) (out out_mid out_new : S) (suits suits_mid : Kind → Type 0)
      (f : Kind → Budgeted State → A) (h : Kind → A → B) (k : Kind → Budgeted State → B) (to_mid : BudgetedActions → List Given → A) (to : BudgetedActions → List Given → B)
      → Makes left old out suits f mid to_mid out_mid
      → Makes left mid out_mid suits_mid k new to out_new
      → ((kind : Kind) → suits kind → suits_mid kind)
      → ((kind : Kind) → suits kind → (given : List Given) → h kind (to_mid mid given) ≡ k kind (state_in given mid))
      → Makes left old out suits (λ kind s. h kind (f kind s)) new to out_new
  both old mid new out out_mid out_new suits suits_mid f h k to_mid to a b suit link = record {
    setting = b.setting ∙ a.setting;
    notes = a.notes ++ b.notes;
    came = came_both out out_mid out_new a.notes b.notes a.came b.came;
    state = λ kind s given.
        ap (h kind) (a.state kind s given)
        ∙ link kind s (given ++ map says a.notes)
        ∙ b.state kind (suit kind s) (given ++ map says a.notes)
        ∙ ap (to new) (said given a.notes b.notes);
  }

-- another state, of the same call
made : {P S A C : Type 0} {left : P → S → List Message → Type 0} {old new : BudgetedActions} {out out_new : S} {suits others : Kind → Type 0} {f : Kind → Budgeted State → A}
    {g : Kind → Budgeted State → C} {to : BudgetedActions → List Given → A} {also : BudgetedActions → List Given → C} (a : Makes left old out suits f new to out_new)
    → ((kind : Kind) → others kind → (given : List Given) → g kind (state_in given old) ≡ also new (given ++ map says a.notes)) → Makes left old out others g new also out_new
made a state = record { setting = a.setting; notes = a.notes; came = a.came; state = state }

does_so : {P S A : Type 0} {left : P → S → List Message → Type 0} {old new : BudgetedActions} {out out_new : S} {suits : Kind → Type 0} {f : Kind → Budgeted State → A}
    {to : BudgetedActions → List Given → A} {o : PartOutcome} (d : acting.Does left old.actions out o new.actions out_new)
    → ((kind : Kind) → suits kind → (given : List Given) → f kind (state_in given old) ≡ to new (given ++ map says o.notes)) → Makes left old out suits f new to out_new
does_so {o = o} d state = record { setting = d.setting; notes = o.notes; came = d.came; state = state }

-- ---- the budget

charged_beyond : (e : Effects State) (gave_up : Bool) (left : ℕ) (b : Budget) (s : State)
    → exhausts_by gave_up left ≡ true → charge_by e gave_up left (budgeted b s) ≡ budgeted (charged_by gave_up left b) (e.exhausts s)
unfolding charge_by
charged_beyond e true left b s h = absurd (cc)
charged_beyond e false zero b s h = refl
charged_beyond e false (suc left) b s h = absurd (cc)

charged_within : (e : Effects State) (gave_up : Bool) (left : ℕ) (b : Budget) (s : State)
    → exhausts_by gave_up left ≡ false → charge_by e gave_up left (budgeted b s) ≡ budgeted (charged_by gave_up left b) s
unfolding charge_by
charged_within e true left b s h = refl
charged_within e false zero b s h = absurd (cc)
charged_within e false (suc left) b s h = refl

-- the same budget and the same memory
state_to : (b : Budget) (m : Memory) (new : BudgetedActions) (given : List Given)
    → new.budget ≡ b → new.actions.memory ≡ m → budgeted b (record { memory = m; out = given }) ≡ state_in given new
state_to b m new given eb em = rw (eb, em) refl

plain_to : (b : Budget) (m : Memory) (new : BudgetedActions) (given : List Given) (notes : List Message)
    → new.budget ≡ b → new.actions.memory ≡ m → budgeted b (record { memory = m; out = given ++ (map says notes ++ []) }) ≡ state_in (given ++ map says notes) new
plain_to b m new given notes eb em = grind (arith, append-nil, state_to)

pub head_plain : (head : RegionHead (List ℕ)) (is_run : Bool) (m : Memory) → (head_outcome head is_run m).product ≡ no_product
unfolding head_outcome
head_plain head true m = refl
head_plain head false m = refl

pub end_plain : (o : Opened) (is_run : Bool) (m : Memory) → (end_outcome o is_run m).product ≡ no_product
unfolding end_outcome
end_plain o true m = refl
end_plain o false m = refl

region_plain : (region : Option Opened) (gave_up : Bool) (m : Memory) → (finish_region region gave_up m).product ≡ no_product
region_plain None gave_up m = refl
region_plain (Some o) gave_up m = refl

pub finish_plain : (region : Option Opened) (in_loop gave_up : Bool) (m : Memory) → (finish_outcome region in_loop gave_up m).product ≡ no_product
unfolding finish_outcome
finish_plain region true gave_up m = refl
finish_plain region false gave_up m = region_plain region gave_up m

fits_plain : (fits : Bool) (text : List ℕ) (m : Memory) → (longer_if fits text m).product ≡ no_product
fits_plain true text m = refl
fits_plain false text m = refl

longer_plain : (text : Option (List ℕ)) (line : List ℕ) (m : Memory) → (longer text line m).product ≡ no_product
longer_plain None line m = refl
longer_plain (Some text) line m = fits_plain (nat_le (length (with_line text line)) BODY) (with_line text line) m

longer_some_plain : (line : Option (List ℕ)) (m : Memory) → (longer_if_some line m).product ≡ no_product
longer_some_plain None m = refl
longer_some_plain (Some line) m = longer_plain m.body line m

pub loop_plain : (head : LoopHead (List ℕ)) (m : Memory) → (loop_outcome head m).product ≡ no_product
unfolding loop_outcome
loop_plain head m = longer_some_plain head.body (longer (Some []) head.condition m).memory

pub collect_plain : (is_run : Bool) (line : List ℕ) (m : Memory) → (collect_outcome is_run line m).product ≡ no_product
unfolding collect_outcome
collect_plain true line m = longer_plain m.body line m
collect_plain false line m = refl

-- after a part without a product
pub acted : (b : Budget) (m : Memory) (new : BudgetedActions) (given : List Given) (o : PartOutcome)
    → new.budget ≡ b → new.actions.memory ≡ o.memory → o.product ≡ no_product
    → budgeted b (after (record { memory = m; out = given }) o) ≡ state_in (given ++ map says o.notes) new
acted b m new given o eb em ep = grind (arith, append-nil)

module _ {P S : Type 0} (left : P → S → List Message → Type 0) where
  pub charge_beyond : (old new : BudgetedActions) (out out_new : S)
      → exhausts old.budget ≡ true → new.budget ≡ charged old.budget
      → acting.Does left old.actions out (budget_outcome old.actions.memory) new.actions out_new
      → Does left old out (charged_in old) new out_new
  unfolding charge effects budget_outcome
  charge_beyond old new out out_new h eb d = does_so d (λ kind k given.
      charged_beyond (acting_effects (output_of old)) old.budget.gave_up old.budget.left old.budget (record { memory = old.actions.memory; out = given }) h
      ∙ acted (charged old.budget) old.actions.memory new given (budget_outcome old.actions.memory) eb d.memory refl)

  pub charge_within : (old new : BudgetedActions) (out : S)
      → exhausts old.budget ≡ false → new.budget ≡ charged old.budget → new.actions ≡ old.actions
      → Does left old out (charged_in old) new out
  unfolding charge
  charge_within old new out h eb ea = record {
    setting = ap (λ a. a.setting) ea;
    notes = [];
    came = came_none left out;
    state = λ kind k given.
        charged_within (acting_effects (output_of old)) old.budget.gave_up old.budget.left old.budget (record { memory = old.actions.memory; out = given }) h
        ∙ rw (eb, ea) (ap (λ more. budgeted (charged old.budget) (record { memory = old.actions.memory; out = more })) (sym (append-nil given)));
  }

begun_page : (e : Effects State) (kind : Kind) (b : Budget) (s : State) → is_page kind ≡ true → begin_line e kind (budgeted b s) ≡ budgeted (begun b) s
unfolding begin_line
begun_page e page b s h = refl
begun_page e (body args) b s h = absurd (cc)

begun_body : (e : Effects State) (kind : Kind) (s : Budgeted State) → is_page kind ≡ false → begin_line e kind s ≡ charge e s
unfolding begin_line
begun_body e page s h = absurd (cc)
begun_body e (body args) s h = refl

module _ {P S : Type 0} (left : P → S → List Message → Type 0) where
  pub begin_page : (old new : BudgetedActions) (out : S)
      → new.budget ≡ begun old.budget → new.actions ≡ old.actions
      → Makes left old out (IsAt true old) (begun_in old) new state_after out
  begin_page old new out eb ea = record {
    setting = ap (λ a. a.setting) ea;
    notes = [];
    came = came_none left out;
    state = λ kind k given.
        begun_page (acting_effects (output_of old)) kind old.budget (record { memory = old.actions.memory; out = given }) k.page
        ∙ rw (eb, ea) (ap (λ more. budgeted (begun old.budget) (record { memory = old.actions.memory; out = more })) (sym (append-nil given)));
  }

  pub begin_body : (old new : BudgetedActions) (out out_new : S)
      → Does left old out (charged_in old) new out_new
      → Makes left old out (IsAt false old) (begun_in old) new state_after out_new
  begin_body old new out out_new d = made d (λ kind k given.
      begun_body (acting_effects (output_of old)) kind (state_in given old) k.page ∙ d.state kind k.setting given)

  -- ---- whether a part is run

  pub meet_passed : (old : BudgetedActions) (out : S) → Answers left old out (met_in old PassedOver) false old out
  unfolding meet_as
  meet_passed old out = stays left old out (λ kind. IsIn kind old) (met_in old PassedOver) (answer_with false) (λ kind k given. refl)

  pub meet_first : (old : BudgetedActions) (out : S) → Answers left old out (met_in old First) (not old.budget.gave_up) old out
  unfolding meet_as meaning meet whether_run
  meet_first old out = grind (arith, stays)

  pub meet_remainder : (old new : BudgetedActions) (out out_new : S)
      → Does left old out (charged_in old) new out_new
      → Answers left old out (met_in old Remainder) (not new.budget.gave_up) new out_new
  unfolding meet_as meaning meet whether_run
  meet_remainder old new out out_new d = made d (λ kind k given. ap (λ (s : Budgeted State). (not s.gave_up, s)) (d.state kind k given))

-- nothing comes of a line of a region that is not run
pub passed_nothing : (setting : TextSetting) (o : Opened) (is_run : Bool) (line : List ℕ) (m : Memory) → is_run ≡ false
    → kind_of (line_outcome setting o is_run line m).product ≡ kinds.Nothing
unfolding line_outcome
passed_nothing setting o true line m e = absurd (cc)
passed_nothing setting o false line m e = refl

-- the line that was taken is lent
lent_line : (p : Product) (a : Acting) → Lends p a → lines_of p ≡ line_of (kind_of p) a
lent_line no_product a lends = refl
lent_line (line_product line) a lends = ap (λ line. takes line ∷ []) (sym lends)
lent_line (call_product lines arguments) a lends = refl
lent_line (loop_product condition lines) a lends = refl

-- ---- the heads of conditionals

abbrev answer_pair : Bool → Budgeted State → Bool × Budgeted State
answer_pair holds s = (holds, s)

abbrev answered : Budget → Bool × State → Bool × Budgeted State
answered b v = (v.0, budgeted b v.1)

tested_as : (b : Budget) (m : Memory) (new : BudgetedActions) (given : List Given) (a : Answer) (result : Bool)
    → new.budget ≡ b → new.actions.memory ≡ (test_outcome a m).memory → result ≡ a.holds
    → answered b (tested_after (record { memory = m; out = given }) a) ≡ answer_with result new (given ++ map says a.notes)
unfolding tested_after
tested_as b m new given a result eb em er =
    ap (answer_pair a.holds) (acted b m new given (test_outcome a m) eb em refl)
    ∙ ap (λ holds. answer_pair holds (state_in (given ++ map says a.notes) new)) (sym er)

module _ {P S : Type 0} (left : P → S → List Message → Type 0) where
  tests_as : (old new : BudgetedActions) (out out_new : S) (condition : Condition (List ℕ)) (result : Bool)
      → new.budget ≡ old.budget
      → acting.Tests left old.actions out (answer_of (measured old.actions.setting) condition old.actions.memory) result new.actions out_new
      → Answers left old out (λ kind s. test (acting_effects (output_of old)) kind condition s) result new out_new
  unfolding test effects with_rest
  tests_as old new out out_new condition result eb t =
      let a = answer_of (measured old.actions.setting) condition old.actions.memory in
      does_so t.does (λ kind k given.
      ap (λ (setting : ActingSetting).
      answered old.budget (tested_after (record { memory = old.actions.memory; out = given }) (answer_of (measured setting) condition old.actions.memory))) (sym k)
      ∙ tested_as old.budget old.actions.memory new given a result eb t.does.memory t.holds)

  pub value_if : (old new : BudgetedActions) (out out_new : S) (condition : Condition (List ℕ)) (bit result : Bool)
      → new.budget ≡ old.budget
      → acting.Tests left old.actions out (answer_of (measured old.actions.setting) condition old.actions.memory) result new.actions out_new
      → Answers left old out (value_in old (If condition) bit) result new out_new
  unfolding value meaning
  value_if old new out out_new condition bit result eb t = tests_as old new out out_new condition result eb t

  pub value_if_else : (old new : BudgetedActions) (out out_new : S) (condition : Condition (List ℕ)) (bit result : Bool)
      → new.budget ≡ old.budget
      → acting.Tests left old.actions out (answer_of (measured old.actions.setting) condition old.actions.memory) result new.actions out_new
      → Answers left old out (value_in old (IfElse condition) bit) result new out_new
  unfolding value meaning
  value_if_else old new out out_new condition bit result eb t = tests_as old new out out_new condition result eb t

  pub value_else : (old : BudgetedActions) (out : S) (bit : Bool) → Answers left old out (value_in old Else bit) bit old out
  unfolding value
  value_else old out bit = stays left old out (λ kind. IsIn kind old) (value_in old Else bit) (answer_with bit) (λ kind k given. refl)

  -- where the same output is written
  pub kind_after : (old mid : BudgetedActions) → mid.actions.setting ≡ old.actions.setting → (kind : Kind) → IsIn kind old → IsIn kind mid
  kind_after old mid e kind k = rw e k

  pub answer_met : (old mid new : BudgetedActions) (out out_mid out_new : S) (reached : Reached) (branch : Branch (List ℕ)) (bit result : Bool)
      → Answers left old out (met_in old reached) true mid out_mid
      → Answers left mid out_mid (value_in mid branch bit) result new out_new
      → Answers left old out (answer_in old branch bit reached) (Some result) new out_new
  answer_met old mid new out out_mid out_new reached branch bit result a b =
      both left old mid new out out_mid out_new (λ kind. IsIn kind old) (λ kind. IsIn kind mid)
      (met_in old reached) (λ kind q. answer_after (parts_of old kind) branch bit q)
      (λ kind s. let v = value_in mid branch bit kind s in (Some v.0, v.1))
      (answer_with true) (answer_with (Some result)) a
      (made b (λ kind k given. ap (λ (v : Bool × Budgeted State). (Some v.0, v.1)) (b.state kind k given)))
      (kind_after old mid a.setting)
      (λ kind k given.
      ap (λ (output : Output). let v = value (meaning (acting_effects output) kind) branch bit (state_in given mid) in (Some v.0, v.1))
      (sym (ap (λ setting. setting.output) a.setting)))

  pub answer_passed : (old new : BudgetedActions) (out out_new : S) (reached : Reached) (branch : Branch (List ℕ)) (bit : Bool)
      → Answers left old out (met_in old reached) false new out_new
      → Answers left old out (answer_in old branch bit reached) None new out_new
  answer_passed old new out out_new reached branch bit a = made a (λ kind k given. ap (answer_after (parts_of old kind) branch bit) (a.state kind k given))

  -- ---- regions

  pub region_met : (old mid new : BudgetedActions) (out out_mid out_new : S) (reached : Reached) (head : RegionHead (List ℕ)) (result : Bool)
      → Answers left old out (met_in old reached) result mid out_mid
      → new.budget ≡ mid.budget
      → acting.Does left mid.actions out_mid (head_outcome head result mid.actions.memory) new.actions out_new
      → Answers left old out (region_in old head reached) result new out_new
  unfolding meaning effects with_rest
  region_met old mid new out out_mid out_new reached head result a eb d =
      both left old mid new out out_mid out_new (λ kind. IsIn kind old) (λ kind. IsIn kind mid)
      (met_in old reached) (λ kind q. region_after (parts_of old kind) head q)
      (λ kind s. region_after (parts_of mid kind) head (result, s))
      (answer_with result) (answer_with result) a
      (does_so d (λ kind k given. ap (λ (s : Budgeted State). (result, s)) (acted mid.budget mid.actions.memory new given (head_outcome head result mid.actions.memory) eb d.memory (head_plain head result mid.actions.memory))))
      (kind_after old mid a.setting)
      (λ kind k given. refl)

  run_after : (old mid : BudgetedActions) → mid.actions.setting ≡ old.actions.setting → (is_page_now : Bool) (kind : Kind) → IsAt is_page_now old kind → IsAt is_page_now mid kind
  run_after old mid e is_page_now kind k = record { page = k.page; setting = kind_after old mid e kind k.setting }

  -- what came of a line of a region
  line_acted : (b : Budget) (m : Memory) (new : BudgetedActions) (given : List Given) (o : PartOutcome) (result : ProductKind)
      → new.budget ≡ b → new.actions.memory ≡ o.memory → result ≡ kind_of o.product → Lends o.product new.actions
      → budgeted b (after (record { memory = m; out = given }) o) ≡ state_in ((given ++ map says o.notes) ++ line_of result new.actions) new
  line_acted b m new given o result eb em er lends = grind (arith, append_assoc, lent_line, state_to)

  pub read_met : (old mid new : BudgetedActions) (out out_mid out_new : S) (is_page_now : Bool) (o : Opened) (line : List ℕ) (result : ProductKind)
      → Makes left old out (IsAt is_page_now old) (begun_in old) mid state_after out_mid
      → new.budget ≡ mid.budget
      → acting.Gives left mid.actions out_mid (line_outcome (measured mid.actions.setting) o (o.is_run && not mid.budget.gave_up) line mid.actions.memory) result new.actions out_new
      → Makes left old out (IsAt is_page_now old) (read_in old o line) new (line_after result) out_new
  unfolding meaning read_line effects with_rest
  read_met old mid new out out_mid out_new is_page_now o line result a eb g =
      let outcome = line_outcome (measured mid.actions.setting) o (o.is_run && not mid.budget.gave_up) line mid.actions.memory in
      both left old mid new out out_mid out_new (IsAt is_page_now old) (IsAt is_page_now mid)
      (begun_in old)
      (λ kind t. with_rest (acting_effects (output_of old)) t ((acting_effects (output_of old)).reads kind o (o.is_run && not t.gave_up) line t.rest))
      (λ kind t. with_rest (acting_effects (output_of mid)) t ((acting_effects (output_of mid)).reads kind o (o.is_run && not t.gave_up) line t.rest))
      state_after (line_after result) a
      (does_so g.does (λ kind k given.
      ap (λ (setting : ActingSetting). budgeted mid.budget (after (record { memory = mid.actions.memory; out = given })
      (line_outcome (measured setting) o (o.is_run && not mid.budget.gave_up) line mid.actions.memory))) (sym k.setting)
      ∙ line_acted mid.budget mid.actions.memory new given outcome result eb g.does.memory g.kind g.lends))
      (run_after old mid a.setting is_page_now)
      (λ kind k given.
      ap (λ (output : Output). budgeted mid.budget (after (record { memory = mid.actions.memory; out = given })
      (line_outcome (measured (acting_setting output kind)) o (o.is_run && not mid.budget.gave_up) line mid.actions.memory)))
      (sym (ap (λ setting. setting.output) a.setting)))

  pub end_met : (old mid new : BudgetedActions) (out out_mid out_new : S) (is_page_now : Bool) (o : Opened)
      → Makes left old out (IsAt is_page_now old) (begun_in old) mid state_after out_mid
      → new.budget ≡ mid.budget
      → acting.Does left mid.actions out_mid (end_outcome o (o.is_run && not mid.budget.gave_up) mid.actions.memory) new.actions out_new
      → Makes left old out (IsAt is_page_now old) (ended_in old o) new state_after out_new
  unfolding meaning end_line effects with_rest
  end_met old mid new out out_mid out_new is_page_now o a eb d =
      let outcome = end_outcome o (o.is_run && not mid.budget.gave_up) mid.actions.memory in
      both left old mid new out out_mid out_new (IsAt is_page_now old) (IsAt is_page_now mid)
      (begun_in old)
      (λ kind t. with_rest (acting_effects (output_of old)) t ((acting_effects (output_of old)).ends_region kind o (o.is_run && not t.gave_up) [] t.rest))
      (λ kind t. with_rest (acting_effects (output_of mid)) t ((acting_effects (output_of mid)).ends_region kind o (o.is_run && not t.gave_up) [] t.rest))
      state_after state_after a
      (does_so d (λ kind k given. acted mid.budget mid.actions.memory new given outcome eb d.memory (end_plain o (o.is_run && not mid.budget.gave_up) mid.actions.memory)))
      (run_after old mid a.setting is_page_now)
      (λ kind k given. refl)

  -- both in a loop that is collected
  kept_after : (old mid new : BudgetedActions) (out out_mid out_new : S) (is_page_now : Bool) (line : List ℕ)
      (f : Kind → Budgeted State → Budgeted State)
      → Makes left old out (IsAt is_page_now old) f mid state_after out_mid
      → Does left mid out_mid (kept_in mid line) new out_new
      → Makes left old out (IsAt is_page_now old) (λ kind s. kept_in old line kind (f kind s)) new state_after out_new
  unfolding meaning collect_some effects with_rest
  kept_after old mid new out out_mid out_new is_page_now line f a d =
      both left old mid new out out_mid out_new (IsAt is_page_now old) (λ kind. IsIn kind mid)
      f (kept_in old line) (kept_in mid line) state_after state_after a d
      (λ kind k. kind_after old mid a.setting kind k.setting)
      (λ kind k given. refl)

  -- nothing comes of a line
  no_line : (old new : BudgetedActions) (out out_new : S) (suits : Kind → Type 0) (f : Kind → Budgeted State → Budgeted State) (product : ProductKind) → product ≡ kinds.Nothing
      → Makes left old out suits f new (line_after product) out_new → Makes left old out suits f new state_after out_new
  no_line old new out out_new suits f product e m = grind (arith, made, append-nil)

  as_line : (old new : BudgetedActions) (out out_new : S) (suits : Kind → Type 0) (f : Kind → Budgeted State → Budgeted State)
      → Makes left old out suits f new state_after out_new → Makes left old out suits f new (line_after kinds.Nothing) out_new
  as_line old new out out_new suits f m = grind (arith, made, append-nil)

  pub read_kept : (old mid new : BudgetedActions) (out out_mid out_new : S) (is_page_now : Bool) (o : Opened) (line : List ℕ) (product : ProductKind) → product ≡ kinds.Nothing
      → Makes left old out (IsAt is_page_now old) (read_in old o line) mid (line_after product) out_mid
      → Does left mid out_mid (kept_in mid line) new out_new
      → Makes left old out (IsAt is_page_now old) (read_kept_in old true o line) new (line_after kinds.Nothing) out_new
  unfolding keep_if
  read_kept old mid new out out_mid out_new is_page_now o line product e a d =
      as_line old new out out_new (IsAt is_page_now old) (read_kept_in old true o line)
      (kept_after old mid new out out_mid out_new is_page_now line (read_in old o line)
      (no_line old mid out out_mid (IsAt is_page_now old) (read_in old o line) product e a) d)

  pub read_outside : (old new : BudgetedActions) (out out_new : S) (is_page_now : Bool) (o : Opened) (line : List ℕ) (product : ProductKind)
      → Makes left old out (IsAt is_page_now old) (read_in old o line) new (line_after product) out_new
      → Makes left old out (IsAt is_page_now old) (read_kept_in old false o line) new (line_after product) out_new
  unfolding keep_if
  read_outside old new out out_new is_page_now o line product a = a

  pub end_kept : (old mid new : BudgetedActions) (out out_mid out_new : S) (is_page_now : Bool) (o : Opened) (line : List ℕ)
      → Makes left old out (IsAt is_page_now old) (ended_in old o) mid state_after out_mid
      → Does left mid out_mid (kept_in mid line) new out_new
      → Makes left old out (IsAt is_page_now old) (ended_kept_in old true o line) new state_after out_new
  unfolding keep_if
  end_kept old mid new out out_mid out_new is_page_now o line a d = kept_after old mid new out out_mid out_new is_page_now line (ended_in old o) a d

  pub end_outside : (old new : BudgetedActions) (out out_new : S) (is_page_now : Bool) (o : Opened) (line : List ℕ)
      → Makes left old out (IsAt is_page_now old) (ended_in old o) new state_after out_new
      → Makes left old out (IsAt is_page_now old) (ended_kept_in old false o line) new state_after out_new
  unfolding keep_if
  end_outside old new out out_new is_page_now o line a = a

  pub finished : (old new : BudgetedActions) (out out_new : S) (region : Option Opened) (in_loop : Bool)
      → new.budget ≡ old.budget
      → acting.Does left old.actions out (finish_outcome region in_loop old.budget.gave_up old.actions.memory) new.actions out_new
      → Does left old out (finished_in old true region in_loop) new out_new
  unfolding language effects with_rest
  finished old new out out_new region in_loop eb d =
      let outcome = finish_outcome region in_loop old.budget.gave_up old.actions.memory in
      does_so d (λ kind k given. acted old.budget old.actions.memory new given outcome eb d.memory (finish_plain region in_loop old.budget.gave_up old.actions.memory))

  pub not_begun : (old : BudgetedActions) (out : S) (region : Option Opened) (in_loop : Bool) → Does left old out (finished_in old false region in_loop) old out
  not_begun old out region in_loop = grind (arith, stays)

  -- ---- loops

  pub loop_met : (old mid new : BudgetedActions) (out out_mid out_new : S) (reached : Reached) (head : LoopHead (List ℕ))
      → Answers left old out (met_in old reached) true mid out_mid
      → new.budget ≡ mid.budget
      → acting.Does left mid.actions out_mid (loop_outcome head mid.actions.memory) new.actions out_new
      → Answers left old out (opened_in old head reached) true new out_new
  unfolding meaning effects with_rest
  loop_met old mid new out out_mid out_new reached head a eb d =
      let outcome = loop_outcome head mid.actions.memory in
      both left old mid new out out_mid out_new (λ kind. IsIn kind old) (λ kind. IsIn kind mid)
      (met_in old reached) (λ kind q. opens_after (parts_of old kind) head q)
      (λ kind s. opens_after (parts_of mid kind) head (true, s))
      (answer_with true) (answer_with true) a
      (does_so d (λ kind k given. ap (λ (s : Budgeted State). (true, s)) (acted mid.budget mid.actions.memory new given outcome eb d.memory (loop_plain head mid.actions.memory))))
      (kind_after old mid a.setting)
      (λ kind k given. refl)

  pub loop_passed : (old new : BudgetedActions) (out out_new : S) (reached : Reached) (head : LoopHead (List ℕ))
      → Answers left old out (met_in old reached) false new out_new
      → Answers left old out (opened_in old head reached) false new out_new
  loop_passed old new out out_new reached head a = made a (λ kind k given. ap (opens_after (parts_of old kind) head) (a.state kind k given))

  -- what comes of a loop that is whole
  loop_done : (e : Effects State) (b : Budget) (s : State) (m : Memory) (new : BudgetedActions) (given : List Given) (notes : List Message) (p : Product) (result : ProductKind) (repeated : Type 0)
      → new.budget ≡ b → new.actions.memory ≡ m → result ≡ kind_of p → IfRepeated result repeated → Lends p new.actions
      → closed_with e (budgeted b s) (done_by p (record { memory = m; out = given ++ (map says notes ++ lines_of p) }))
      ≡ done_as result new (given ++ map says notes)
  unfolding closed_with done_by with_rest
  loop_done e b s m new given notes no_product result repeated eb em er h lends =
      ap (λ (t : Budgeted State). gives t) (plain_to b m new given notes eb em) ∙ ap (λ product. done_as product new (given ++ map says notes)) (sym er)
  loop_done e b s m new given notes (line_product line) result repeated eb em er h lends = absurd (rw er at h)
  loop_done e b s m new given notes (call_product lines arguments) result repeated eb em er h lends = absurd (rw er at h)
  loop_done e b s m new given notes (loop_product condition lines) result repeated eb em er h lends =
      ap (λ (t : Budgeted State). repeats condition lines t) (plain_to b m new given notes eb em)
      ∙ ap₂ (λ (condition : List ℕ) (lines : List (List ℕ)). repeats condition lines (state_in (given ++ map says notes) new)) (sym lends.0) (sym lends.1)
      ∙ ap (λ product. done_as product new (given ++ map says notes)) (sym er)

  pub loop_closed : (old new : BudgetedActions) (out out_new : S) (may_run : Bool) (result : ProductKind) (repeated : Type 0)
      → new.budget ≡ old.budget
      → acting.Gives left old.actions out (close_outcome (not old.budget.gave_up) may_run old.actions.memory) result new.actions out_new
      → IfRepeated result repeated
      → Makes left old out (λ kind. IsIn kind old) (closed_in old may_run) new (done_as result) out_new
  unfolding language effects done_after
  loop_closed old new out out_new may_run result repeated eb g h =
      let outcome = close_outcome (not old.budget.gave_up) may_run old.actions.memory in
      does_so g.does (λ kind k given.
      loop_done (acting_effects (output_of old)) old.budget (record { memory = old.actions.memory; out = given }) outcome.memory new given outcome.notes outcome.product result repeated
      eb g.does.memory g.kind h g.lends)

  pub loop_whole : (old mid new : BudgetedActions) (out out_mid out_new : S) (reached : Reached) (may_run : Bool) (head : LoopHead (List ℕ)) (result : ProductKind)
      → Answers left old out (opened_in old head reached) true mid out_mid
      → Makes left mid out_mid (λ kind. IsIn kind mid) (closed_in mid may_run) new (done_as result) out_new
      → Makes left old out (λ kind. IsIn kind old) (passed_in old may_run head reached) new (done_as result) out_new
  loop_whole old mid new out out_mid out_new reached may_run head result a c =
      both left old mid new out out_mid out_new (λ kind. IsIn kind old) (λ kind. IsIn kind mid)
      (opened_in old head reached) (λ kind q. closes_after (language (acting_effects (output_of old))) may_run q)
      (closed_in mid may_run) (answer_with true) (done_as result) a c
      (kind_after old mid a.setting)
      (λ kind k given.
      ap (λ (output : Output). (language (acting_effects output)).closes may_run (state_in given mid))
      (sym (ap (λ setting. setting.output) a.setting)))

  pub loop_not_met : (old new : BudgetedActions) (out out_new : S) (reached : Reached) (may_run : Bool) (head : LoopHead (List ℕ))
      → Answers left old out (opened_in old head reached) false new out_new
      → Makes left old out (λ kind. IsIn kind old) (passed_in old may_run head reached) new (done_as kinds.Nothing) out_new
  loop_not_met old new out out_new reached may_run head a = grind (arith, made)

  -- what is collected
  pub keeps : (old new : BudgetedActions) (out out_new : S) (text : List ℕ)
      → new.budget ≡ old.budget
      → acting.Does left old.actions out (collect_outcome (not old.budget.gave_up) text old.actions.memory) new.actions out_new
      → Does left old out (kept_in old text) new out_new
  unfolding meaning collect_some effects with_rest
  keeps old new out out_new text eb d =
      let outcome = collect_outcome (not old.budget.gave_up) text old.actions.memory in
      does_so d (λ kind k given. acted old.budget old.actions.memory new given outcome eb d.memory (collect_plain (not old.budget.gave_up) text old.actions.memory))

  pub collects_some : (old new : BudgetedActions) (out out_new : S) (open_blocks : ℕ) (line text : List ℕ)
      → Some text ≡ loop_text open_blocks line
      → Does left old out (kept_in old text) new out_new
      → Does left old out (collected_in old open_blocks line) new out_new
  unfolding meaning
  collects_some old new out out_new open_blocks line text e d = made d (λ kind k given. ap (λ text. collect_some (acting_effects (output_of old)) text (state_in given old)) (sym e) ∙ d.state kind k given)

  pub collects_none : (old : BudgetedActions) (out : S) (open_blocks : ℕ) (line : List ℕ)
      → None ≡ loop_text open_blocks line
      → Does left old out (collected_in old open_blocks line) old out
  unfolding meaning collect_some
  collects_none old out open_blocks line e = grind (arith, stays)

  -- a turn
  turn_tests : (mid new : BudgetedActions) (out_mid out_new : S) (condition : List ℕ) (result : Bool)
      → mid.budget.gave_up ≡ false → new.budget ≡ mid.budget
      → acting.Tests left mid.actions out_mid (turn_answer (measured mid.actions.setting) condition mid.actions.memory) result new.actions out_new
      → Answers left mid out_mid (λ kind t. turn_by (acting_effects (output_of mid)) t.gave_up kind condition t) result new out_new
  unfolding turn_by effects with_rest
  turn_tests mid new out_mid out_new condition result h eb t =
      let a = turn_answer (measured mid.actions.setting) condition mid.actions.memory in
      does_so t.does (λ kind k given.
      ap (λ gave_up. turn_by (acting_effects (output_of mid)) gave_up kind condition (state_in given mid)) h
      ∙ ap (λ (setting : ActingSetting).
      answered mid.budget (tested_after (record { memory = mid.actions.memory; out = given }) (turn_answer (measured setting) condition mid.actions.memory))) (sym k)
      ∙ tested_as mid.budget mid.actions.memory new given a result eb t.does.memory t.holds)

  pub turn_given : (old mid new : BudgetedActions) (out out_mid out_new : S) (condition : List ℕ) (result : Bool)
      → Does left old out (charged_in old) mid out_mid
      → mid.budget.gave_up ≡ false → new.budget ≡ mid.budget
      → acting.Tests left mid.actions out_mid (turn_answer (measured mid.actions.setting) condition mid.actions.memory) result new.actions out_new
      → Answers left old out (turned_in old condition) result new out_new
  unfolding language turn
  turn_given old mid new out out_mid out_new condition result a h eb t =
      both left old mid new out out_mid out_new (λ kind. IsIn kind old) (λ kind. IsIn kind mid)
      (charged_in old) (λ kind t. turn_by (acting_effects (output_of old)) t.gave_up kind condition t)
      (λ kind t. turn_by (acting_effects (output_of mid)) t.gave_up kind condition t)
      state_after (answer_with result) a (turn_tests mid new out_mid out_new condition result h eb t)
      (kind_after old mid a.setting)
      (λ kind k given.
      ap (λ (output : Output). turn_by (acting_effects output) mid.budget.gave_up kind condition (state_in given mid))
      (sym (ap (λ setting. setting.output) a.setting)))

  pub turn_given_up : (old new : BudgetedActions) (out out_new : S) (condition : List ℕ)
      → Does left old out (charged_in old) new out_new
      → new.budget.gave_up ≡ true
      → Answers left old out (turned_in old condition) false new out_new
  unfolding language turn turn_by
  turn_given_up old new out out_new condition a h = made a (λ kind k given.
      ap (λ (t : Budgeted State). turn_by (acting_effects (output_of old)) t.gave_up kind condition t) (a.state kind k given)
      ∙ ap (λ gave_up. turn_by (acting_effects (output_of old)) gave_up kind condition (state_in (given ++ map says a.notes) new)) h)

  -- ---- lines that head nothing

  pub leaf_passed : (old new : BudgetedActions) (out out_new : S) (reached : Reached) (may_call : Bool) (text : List ℕ)
      → Answers left old out (met_in old reached) false new out_new
      → Makes left old out (λ kind. IsIn kind old) (leaf_in old may_call text reached) new (done_as kinds.Nothing) out_new
  leaf_passed old new out out_new reached may_call text a = grind (arith, made)

  leaf_done : (e : Effects State) (b : Budget) (s : State) (m : Memory) (new : BudgetedActions) (given : List Given) (notes : List Message) (p : Product) (result : ProductKind)
      → new.budget ≡ b → new.actions.memory ≡ m → result ≡ kind_of p → Lends p new.actions
      → done_with e (budgeted b s) (done_by p (record { memory = m; out = given ++ (map says notes ++ lines_of p) }))
      ≡ done_as result new (given ++ map says notes)
  unfolding done_with done_by with_rest
  leaf_done e b s m new given notes no_product result eb em er lends =
      ap (λ (t : Budgeted State). gives t) (plain_to b m new given notes eb em) ∙ ap (λ product. done_as product new (given ++ map says notes)) (sym er)
  leaf_done e b s m new given notes (line_product line) result eb em er lends = grind (arith, append_assoc, state_to)
  leaf_done e b s m new given notes (call_product lines arguments) result eb em er lends =
      ap (λ (t : Budgeted State). calls lines arguments t) (plain_to b m new given notes eb em)
      ∙ ap₂ (λ (lines arguments : List (List ℕ)). calls lines arguments (state_in (given ++ map says notes) new)) (sym lends.runs) (sym lends.passes)
      ∙ ap (λ product. done_as product new (given ++ map says notes)) (sym er)
  leaf_done e b s m new given notes (loop_product condition lines) result eb em er lends =
      ap (λ (t : Budgeted State). repeats condition lines t) (plain_to b m new given notes eb em)
      ∙ ap₂ (λ (condition : List ℕ) (lines : List (List ℕ)). repeats condition lines (state_in (given ++ map says notes) new)) (sym lends.0) (sym lends.1)
      ∙ ap (λ product. done_as product new (given ++ map says notes)) (sym er)

  pub leaf_met : (old mid new : BudgetedActions) (out out_mid out_new : S) (reached : Reached) (may_call : Bool) (text : List ℕ) (result : ProductKind)
      → Answers left old out (met_in old reached) true mid out_mid
      → new.budget ≡ mid.budget
      → acting.Gives left mid.actions out_mid (leaf_outcome (measured mid.actions.setting) may_call text mid.actions.memory) result new.actions out_new
      → Makes left old out (λ kind. IsIn kind old) (leaf_in old may_call text reached) new (done_as result) out_new
  unfolding language effects done_after
  leaf_met old mid new out out_mid out_new reached may_call text result a eb g =
      let outcome = leaf_outcome (measured mid.actions.setting) may_call text mid.actions.memory in
      both left old mid new out out_mid out_new (λ kind. IsIn kind old) (λ kind. IsIn kind mid)
      (met_in old reached) (λ kind q. leaf_after (language (acting_effects (output_of old))) may_call kind text q)
      (λ kind s. (language (acting_effects (output_of mid))).leaf may_call kind text s)
      (answer_with true) (done_as result) a
      (does_so g.does (λ kind k given.
      ap (λ (setting : ActingSetting). done_with (acting_effects (output_of mid)) (state_in given mid)
      (done_after (record { memory = mid.actions.memory; out = given }) (leaf_outcome (measured setting) may_call text mid.actions.memory))) (sym k)
      ∙ leaf_done (acting_effects (output_of mid)) mid.budget (record { memory = mid.actions.memory; out = given }) outcome.memory new given outcome.notes outcome.product result
      eb g.does.memory g.kind g.lends))
      (kind_after old mid a.setting)
      (λ kind k given.
      ap (λ (output : Output). (language (acting_effects output)).leaf may_call kind text (state_in given mid))
      (sym (ap (λ setting. setting.output) a.setting)))

-- ---- the end of a block where none is open

told_by : (e : Effects State) (kind : Kind) (gave_up : Bool) (s : Budgeted State) → (not (is_page kind) && gave_up) ≡ false
    → unopened_by e kind gave_up s ≡ with_rest e s (e.unopened s.rest)
unfolding unopened_by
told_by e page gave_up s h = refl
told_by e (body args) true s h = absurd (cc)
told_by e (body args) false s h = refl

silent_by : (e : Effects State) (kind : Kind) (gave_up : Bool) (s : Budgeted State) → (not (is_page kind) && gave_up) ≡ true
    → unopened_by e kind gave_up s ≡ s
unfolding unopened_by
silent_by e page gave_up s h = absurd (cc)
silent_by e (body args) true s h = refl
silent_by e (body args) false s h = absurd (cc)

module _ {P S : Type 0} (left : P → S → List Message → Type 0) where
  pub unopened_told : (old new : BudgetedActions) (out out_new : S) (is_page_now : Bool)
      → (not is_page_now && old.budget.gave_up) ≡ false → new.budget ≡ old.budget
      → acting.Does left old.actions out (end_of_block_outcome old.actions.memory) new.actions out_new
      → Makes left old out (IsAt is_page_now old) (unopened_in old) new state_after out_new
  unfolding meaning effects with_rest end_of_block_outcome
  unopened_told old new out out_new is_page_now h eb d = does_so d (λ kind k given.
      told_by (acting_effects (output_of old)) kind old.budget.gave_up (state_in given old) (ap (λ page. not page && old.budget.gave_up) k.page ∙ h)
      ∙ acted old.budget old.actions.memory new given (end_of_block_outcome old.actions.memory) eb d.memory refl)

  pub unopened_silent : (old : BudgetedActions) (out : S) (is_page_now : Bool)
      → (not is_page_now && old.budget.gave_up) ≡ true
      → Makes left old out (IsAt is_page_now old) (unopened_in old) old state_after out
  unfolding meaning
  unopened_silent old out is_page_now h = grind (arith, stays, silent_by)
